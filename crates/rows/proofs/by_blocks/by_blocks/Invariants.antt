-- The loop's invariant: the row has been reached as far as pair `at`, and the block keeps its places.
use Rattle.std.proofs.Common.{◌-◌}
use Rattle.rows.proofs.ByBlocks.{Blocks}
use Rattle.rows.proofs.by_blocks.by_blocks.Given as goal

abbrev pub invariant-loop-at : goal.invariant-loop-at
invariant-loop-at g l = Blocks (g.D.Multiplier.design l.d) g.row.N l.weights l.frame l.initial.residues l.residues l.to l.at l.sums l.block

abbrev pub decreases-loop-at : goal.decreases-loop-at
decreases-loop-at g l = l.to - l.at
