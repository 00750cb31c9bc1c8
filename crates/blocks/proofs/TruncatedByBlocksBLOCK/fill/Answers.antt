-- The promise is that of the loop. It is said here, so that a wrong call is refused by what it promises, and not where a search ends.
use Rattle.blocks.proofs.TruncatedByBlocksBLOCK.fill.Goals as goal

pub returns : goal.returns
returns c = c.together.ensures
