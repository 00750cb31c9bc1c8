-- After j turns the first j places have the patterns of as many numbers.
use Rattle.std.proofs.Common.{length}
use Rattle.strips.proofs.EachStage.{Raising}
use Rattle.strips.proofs.stages.raise.Given as goal

abbrev pub invariant-loop-j : goal.invariant-loop-j
invariant-loop-j l = Raising (length l.numbers) l.numbers l.initial.left l.left l.j
