-- Totals over all pairs of two lists are the sums of their pairs: a total grows pair by pair as the sum over a list does.
use mathlib.Core.Path.{◌≡◌, refl, sym, ap, ap₂, ◌∙◌}
use Prim.Native.Nat.{ℕ, zero, suc, ◌+◌, ◌≤◌}
use native.Mathlib.Nat.{le_refl}
use native.Mathlib.Numerals.{add-one}
use native.Mathlib.Omega.{arith}
use mathlib.Core.List.{List}
use lib.IntN.{ℤ, ◌+ℤ◌}
use lib.ListN.{length, take}
use lib.Seq.{take_all}
use Rattle.designs.specs.Rows.{pairwise, sum_ℤ, sum}
use Rattle.designs.proofs.Prefixes.{sum_ℤ-next, sum-next}
use Rattle.blocks.specs.Counts.{total, count}
use Rattle.blocks.specs.Residues.{of_pair}

total-is : (q : ℤ → ℤ → ℤ) (ws fs : List ℤ) (n : ℕ) → n ≤ length ws → n ≤ length fs → total (of_pair q ws fs) n ≡ sum_ℤ (pairwise q (take n ws) (take n fs))
unfolding total pairwise sum_ℤ
total-is q ws fs zero h g = refl
total-is q ws fs (suc n) h g =
    ap (λ (y : ℤ). y +ℤ of_pair q ws fs n) (total-is q ws fs n (omega arith) (omega arith)) ∙ (rw (add-one n) at (sym (sum_ℤ-next ws fs n h g q)))

count-is : (q : ℤ → ℤ → ℕ) (ws fs : List ℤ) (n : ℕ) → n ≤ length ws → n ≤ length fs → count (of_pair q ws fs) n ≡ sum (pairwise q (take n ws) (take n fs))
unfolding count pairwise sum
count-is q ws fs zero h g = refl
count-is q ws fs (suc n) h g =
    ap (λ (y : ℕ). y + of_pair q ws fs n) (count-is q ws fs n (omega arith) (omega arith)) ∙ (rw (add-one n) at (sym (sum-next ws fs n h g q)))

module _ (ws fs : List ℤ) (same : length ws ≡ length fs) where
  -- sums over the whole lists
  pub whole_ℤ : (q : ℤ → ℤ → ℤ) → total (of_pair q ws fs) (length ws) ≡ sum_ℤ (pairwise q ws fs)
  whole_ℤ q =
      total-is q ws fs (length ws) (le_refl _) (omega arith)
      ∙ ap₂ (λ (us vs : List ℤ). sum_ℤ (pairwise q us vs)) (take_all (length ws) ws (le_refl _)) (take_all (length ws) fs (omega arith))

  pub whole_ℕ : (q : ℤ → ℤ → ℕ) → count (of_pair q ws fs) (length ws) ≡ sum (pairwise q ws fs)
  whole_ℕ q =
      count-is q ws fs (length ws) (le_refl _) (omega arith)
      ∙ ap₂ (λ (us vs : List ℤ). sum (pairwise q us vs)) (take_all (length ws) ws (le_refl _)) (take_all (length ws) fs (omega arith))
