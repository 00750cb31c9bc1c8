-- The block is filled, and then its pairs are added up.
use Rattle.blocks.proofs.Taking.{then-added}
use Rattle.blocks.proofs.NearestByBlocksBLOCK.fill.Goals as goal

pub returns : goal.returns
returns c = then-added c.residues.ensures.0 c.added.ensures
