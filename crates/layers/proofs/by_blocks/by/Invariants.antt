-- The rows of the blocks before this one are done, and the next begins at `start`.
use Rattle.std.proofs.Common.{◌*◌, min, length}
use Rattle.layers.proofs.EachBlock.{Going}
use Rattle.layers.proofs.by_blocks.by.Given as goal

abbrev pub invariant-loop-block : goal.invariant-loop-block
invariant-loop-block g l =
    Going (g.S.InStrips.design l.design) l.store l.frame l.initial.scores l.scores l.start (min (l.block * 16) (length l.initial.scores))
