-- The struct is that of the outcome, and the product in it a number of 64 bits.
use Rattle.std.proofs.Common.{rules, ◌≡◌}
use Rattle.std.proofs.Common.{to_z-of_z}
use Rattle.designs.specs.Products.{signed_outcome}
use Rattle.capi.specs.Structs.{signed_struct}
use Rattle.capi.proofs.LaidOut.{signed-laid}
use Rattle.capi.proofs.highvane_product_signed.Goals as goal

pub returns : goal.returns
returns c =
    let p = c.laid-product.result in
    let is : record { product = p.0; refusal = p.1 } ≡ signed_struct (signed_outcome c.args.design c.args.width c.args.setting c.args.a c.args.b) =
    signed-laid _ (simp (to_z-of_z, c.ranges.a, c.ranges.b) at c.signed_product.ensures) c.laid-product.ensures in
    search rules
