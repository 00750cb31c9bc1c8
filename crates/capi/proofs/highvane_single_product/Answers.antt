-- The struct is that of the outcome.
use Rattle.capi.proofs.LaidOut.{single-laid}
use Rattle.capi.proofs.highvane_single_product.Goals as goal

pub returns : goal.returns
returns c = single-laid _ _ c.single_product.ensures.value c.laid-value.ensures
