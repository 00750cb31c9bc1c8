-- After j turns the halves are the sum of the j numbers that came, and of those of any f that gives what the calls give.
use Rattle.std.proofs.Common.{◌≡◌, ℕ, ◌<◌, ℤ}
use Rattle.strips.proofs.HalfSums.{Adding}
use Rattle.strips.proofs.sums.sum.Given as goal

abbrev pub invariant-loop-j : goal.invariant-loop-j
invariant-loop-j g l = Adding (λ f. (j : ℕ) (z : ℤ) → j < l.n → goal.F-post g l.number j z → z ≡ f j) l.j l.halves
