-- The loop's invariant: the first j places hold the residues of as many pairs.
use Rattle.blocks.proofs.Taking.{FilledSoFar}
use Rattle.blocks.proofs.residues.Given as goal

abbrev pub invariant-loop-j : goal.invariant-loop-j
invariant-loop-j g l = FilledSoFar (g.D.Multiplier.design l.d) l.weights l.frame l.initial.block l.block l.n l.j
