-- The loop's invariant: the first j places hold the residues of as many pairs, and the sums are those of these pairs.
use Rattle.blocks.proofs.Taking.{SoFar}
use Rattle.blocks.proofs.together.Given as goal

abbrev pub invariant-loop-j : goal.invariant-loop-j
invariant-loop-j g l = SoFar (g.D.Multiplier.design l.d) l.weights l.frame l.initial.block l.block l.n l.j l.sums
