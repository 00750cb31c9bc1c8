-- `signed_of` gives the product of the sizes its sign.
use Rattle.std.proofs.Common.{arith}
use Rattle.std.proofs.lemmas.Int.{to_z-of_z}
use Rattle.designs.specs.Signs.{signed_product}
use Rattle.products.proofs.by_design.signed_of.Goals as goal

pub returns : goal.returns
unfolding signed_product
returns c = grind (arith, to_z-of_z)
