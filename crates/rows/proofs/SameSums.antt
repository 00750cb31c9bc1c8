-- Sums of a row with the same parts are the same.
use Rattle.std.proofs.Common.{◌≡◌, ℕ, ℤ}
use Rattle.rows.specs.declared.sums.Sums.{Sums}
use Rattle.rows.specs.declared.worst.Worst.{Worst}

abbrev pub made : ℤ → ℤ → ℕ → ℕ → Worst → Sums
made t e m n w = record { true_sum = t; error = e; magnitude_sum = m; zero_pairs = n; worst = w }

pub same-sums : {t t' e e' : ℤ} {m m' n n' : ℕ} {w w' : Worst} → t ≡ t' → e ≡ e' → m ≡ m' → n ≡ n' → w ≡ w' → made t e m n w ≡ made t' e' m' n' w'
same-sums et ee em en ew = cc
