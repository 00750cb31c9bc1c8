-- After j turns a power is taken off each of the first j numbers.
use Rattle.std.proofs.Common.{◌≡◌, ℕ, length, ℤ}
use Rattle.many_stages.specs.Strips.{Finding, Stepping}
use Rattle.many_stages.proofs.Filling.{Taking}
use Rattle.many_stages.proofs.frame.take_off.Given as goal

abbrev pub invariant-loop-j : goal.invariant-loop-j
invariant-loop-j g l =
    (n : ℕ) (f : ℕ → ℤ) → Finding (goal.F-post g l.power) n f → length l.initial.left ≡ n → Stepping n f l.at l.initial.left l.initial.held
    → Taking f l.at l.initial.left l.initial.held l.left l.held l.j
