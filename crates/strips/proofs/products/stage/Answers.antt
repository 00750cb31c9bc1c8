-- A stage of design 3 is the sum of two products with leading powers, which design 1 gives.
use Rattle.std.proofs.Common.{◌≡◌, ℤ, ◌+ℤ◌, ◌∙◌, ap₂, w32, to_z, of_z}
use Rattle.designs.specs.Designs.{staged}
use Rattle.designs.specs.Signs.{signed_product}
use Rattle.signs.proofs.Integers.{fits-as, read_as}
use Rattle.pairs.proofs.Integers.{read_back}
use Rattle.strips.specs.Codes.{StageLogs}
use Rattle.strips.proofs.LeadingPowers.{left-logs, power-logs, stage-fits, stage_is}
use Rattle.strips.proofs.products.stage.Goals.{After-by_lead}
use Rattle.strips.proofs.products.stage.Goals as goal

is : (c : After-by_lead) {w x : ℤ} → StageLogs w x c.args.p c.args.q c.args.left
    → to_z w32 (of_z w32 c.mitchell.result) +ℤ to_z w32 (of_z w32 c.by_lead.result) ≡ signed_product (staged 1) w x
is c l =
    ap₂ ◌+ℤ◌ (read_back c.mitchell.type_inv (c.mitchell.ensures _ _ (power-logs l (c.lead_code.ensures _ l.second l.code))))
    (read_back c.by_lead.type_inv (c.by_lead.ensures _ _ (left-logs l)))
    ∙ stage_is l

pub mitchell-requires : goal.mitchell-requires
mitchell-requires c = let l = c.requires.2 in (_, _, power-logs l (c.lead_code.ensures _ l.second l.code))

pub by_lead-requires : goal.by_lead-requires
by_lead-requires c = (_, _, left-logs c.requires.2)

pub overflow_add-result : goal.overflow_add-result
overflow_add-result c = let l = c.requires.2 in fits-as (is c l) (stage-fits l)

pub returns : goal.returns
returns c w x l = read_as (is c l) (stage-fits l)
