-- The codes of each kind are those of the part.
use Rattle.std.proofs.Common.{rules}
use Rattle.strips.proofs.by_pairs.TwiceTruncatedByPairs.code.Goals as goal

pub returns : goal.returns
returns c =
    record {
      firsts = c.fill.ensures _ (λ x q small made. search rules);
      rooms = c.fill-2.ensures _ (λ x q small made. search rules);
      lows = c.fill-3.ensures _ (λ x q small made. search rules);
      highs = c.fill-4.ensures _ (λ x q small made. search rules);
    }
