-- After `begin` one stage is made, if there is one, and each turn makes one more. So before turn k the places have what k stages leave of the
-- numbers of both slices, or all stages, where they are fewer, and these are small.
use Rattle.std.proofs.Common.{◌+◌, min}
use Rattle.patterns.specs.Blocks.{joined, place, Small}
use Rattle.patterns.proofs.Blocks.{After}
use Rattle.patterns.proofs.stages.pairs_left.Given as goal

abbrev pub invariant-loop-k : goal.invariant-loop-k
invariant-loop-k l =
    After (joined l.n (place l.weights) (place l.frame)) (min l.stages l._k) (l.n + l.n) l.initial.left l.left
    × Small (l.n + l.n) l.left
