-- After j turns the first j places have the codes of as many numbers.
use Rattle.std.proofs.Common.{◌≡◌, ℕ, ◌<◌, length, ℤ, nat_abs}
use Rattle.many_stages.specs.Strips.{Filled, Patterned}
use Rattle.many_stages.proofs.frame.last.Given as goal

abbrev pub invariant-loop-j : goal.invariant-loop-j
invariant-loop-j l =
    (n : ℕ) (f : ℕ → ℤ) → length l.left ≡ n → Patterned n f l.left → ((k : ℕ) → k < n → 0 < nat_abs (f k)) → Filled l.at l.j f l.initial.held l.held
