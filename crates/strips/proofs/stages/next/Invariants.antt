-- After so many turns as many places have the patterns of what one stage more leaves.
use Rattle.std.proofs.Common.{ℕ, List, length, ℤ}
use Rattle.strips.specs.Stages.{Left}
use Rattle.strips.proofs.EachStage.{Filled, rest_at}
use Rattle.strips.proofs.stages.next.Given as goal

abbrev pub invariant-loop-p : goal.invariant-loop-p
invariant-loop-p l = (i : ℕ) (numbers : List ℤ) (walked : Left i (length l.initial.left) numbers l.initial.left) → Filled (rest_at walked) l.p-index l.initial.left l.left
