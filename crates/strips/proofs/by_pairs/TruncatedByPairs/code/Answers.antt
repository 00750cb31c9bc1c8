-- The codes are those of the part.
use Rattle.std.proofs.Common.{rules}
use Rattle.strips.proofs.by_pairs.TruncatedByPairs.code.Goals as goal

pub returns : goal.returns
returns c = c.fill.ensures _ (λ x q small made. search rules)
