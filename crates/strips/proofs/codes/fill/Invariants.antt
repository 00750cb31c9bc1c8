-- After j turns the first j places have the codes of as many numbers, by any f that gives what the calls give.
use Rattle.std.proofs.Common.{◌≡◌, ℕ, ◌<◌, ◌^◌, ℤ}
use Rattle.std.specs.Int.Signed.{mag}
use Rattle.strips.proofs.Filling.{Filled}
use Rattle.strips.proofs.codes.fill.Given as goal

abbrev pub invariant-loop-j : goal.invariant-loop-j
invariant-loop-j g l =
    (f : ℤ → ℕ) → ((x : ℤ) (q : ℕ) → mag x < 2 ^ 15 → goal.F-post g l.code x q → q ≡ f x) → Filled f l.part l.initial.codes l.codes l.j
