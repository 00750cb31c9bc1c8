-- Where the first columns are done, each place counts for the sum of as many products of its row.
use Rattle.std.proofs.Common.{◌≡◌}
use Rattle.strips.proofs.EachStrip.{Going}
use Rattle.strips.proofs.score.Given as goal

abbrev pub invariant-loop-part : goal.invariant-loop-part
invariant-loop-part g l = record {
  size : l.part-iterator.size ≡ g.S.InStrips.NUMBERS;
  strips : Going (g.S.InStrips.design l.design) l.weights l.frame l.initial.scores l.scores l.from l.part-iterator.rest.now;
}
