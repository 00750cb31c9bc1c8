-- The codes of each kind are those of the part.
use Rattle.strips.proofs.by_pairs.NearestByPairs.code.Goals as goal

pub returns : goal.returns
returns c = (c.fill.ensures _ (λ x q small e. e), c.fill-2.ensures _ (λ x q small e. e))
