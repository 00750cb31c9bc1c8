-- `is_width` looks the width up among the bits of `WIDTHS`.
use Rattle.designs.specs.Products.{is_width}
use Rattle.refusals.proofs.WidthBits.{within, beyond}
use Rattle.refusals.proofs.products.is_width.Goals as goal

pub returns-then-width-ge64 : goal.returns-then-width-ge64
returns-then-width-ge64 c = beyond _ c.if-width-ge64.true

pub returns : goal.returns
unfolding is_width
returns c = within _ _ tt c.if-width-ge64.false
