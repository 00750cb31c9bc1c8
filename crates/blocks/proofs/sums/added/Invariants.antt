-- The loop's invariant: the sums are those of the first j pairs.
use Rattle.std.proofs.Common.{◌≤◌}
use Rattle.patterns.specs.Blocks.{place}
use Rattle.blocks.specs.Sums.{Adds}
use Rattle.blocks.proofs.sums.added.Given as goal

abbrev pub invariant-loop-j : goal.invariant-loop-j
invariant-loop-j l = (l.j ≤ l.n) × Adds (place l.block) (place l.weights) (place l.frame) l.j l.sums
