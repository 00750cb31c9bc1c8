-- After i stages the places have the products of as many, and the patterns are those of what they leave of the weights.
use Rattle.std.proofs.Common.{◌≡◌, length}
use Rattle.strips.specs.Stages.{Left, Multiplied, pairs_of}
use Rattle.strips.proofs.stages.StagedByCodes.sum.Given as goal

abbrev pub invariant-loop-i : goal.invariant-loop-i
invariant-loop-i l = record {
  size : length l.left ≡ l.n;
  walked : Left l.i (pairs_of l.row l.part) l.row l.left;
  found : Multiplied l.i l.row l.part l.found;
}
