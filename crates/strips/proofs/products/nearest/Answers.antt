-- Design 2 is the sum of two products with powers of two, which design 1 gives.
use Rattle.std.proofs.Common.{◌≡◌, ℤ, ◌+ℤ◌, ◌∙◌, ap₂, w32, to_z, of_z}
use Rattle.designs.specs.Designs.{nearest}
use Rattle.designs.specs.Signs.{signed_product}
use Rattle.signs.proofs.Integers.{fits-as, read_as}
use Rattle.pairs.proofs.Integers.{read_back}
use Rattle.strips.specs.Codes.{NearLogs}
use Rattle.strips.proofs.PairProducts.{nearest-fits, nearest-is, offset-logs, power-logs}
use Rattle.strips.proofs.products.nearest.Goals.{After-mitchell-2}
use Rattle.strips.proofs.products.nearest.Goals as goal

is : (c : After-mitchell-2) {w x : ℤ} → NearLogs w x c.args.p c.args.power c.args.offset
    → to_z w32 (of_z w32 c.mitchell.result) +ℤ to_z w32 (of_z w32 c.mitchell-2.result) ≡ signed_product nearest w x
is c l =
    ap₂ ◌+ℤ◌ (read_back c.mitchell.type_inv (c.mitchell.ensures _ _ (power-logs l)))
    (read_back c.mitchell-2.type_inv (c.mitchell-2.ensures _ _ (offset-logs l (c.near.ensures _ l.first l.pattern))))
    ∙ nearest-is l

pub mitchell-requires : goal.mitchell-requires
mitchell-requires c = (_, _, power-logs c.requires.2)

-- the weight's power and what the number's leaves
pub mitchell-requires-2 : goal.mitchell-requires-2
mitchell-requires-2 c = let l = c.requires.2 in (_, _, offset-logs l (c.near.ensures _ l.first l.pattern))

pub overflow_add-result : goal.overflow_add-result
overflow_add-result c = let l = c.requires.2 in fits-as (is c l) (nearest-fits l)

pub returns : goal.returns
returns c w x l = read_as (is c l) (nearest-fits l)
