-- After so many turns as many places have the patterns of what is left.
use Rattle.std.proofs.Common.{◌≡◌, ℕ, length, ℤ}
use Rattle.patterns.specs.Patterns.{raised_of}
use Rattle.strips.proofs.EachStage.{Filled}
use Rattle.many_stages.specs.Strips.{Leaving, Patterned}
use Rattle.many_stages.proofs.left.next.Given as goal

abbrev pub invariant-loop-p : goal.invariant-loop-p
invariant-loop-p g l =
    (h : ℤ → ℤ) (n : ℕ) (f : ℕ → ℤ) → Leaving (goal.F-pre g l.f) (goal.F-post g l.f) h → length l.initial.left ≡ n → Patterned n f l.initial.left
    → Filled (λ k. raised_of (h (f k))) l.p-index l.initial.left l.left
