-- The leading power less 1 masks the bits below it, as they are or turned.
use Rattle.std.proofs.Common.{◌≡◌, ◌-◌, ◌^◌, ◌<◌, ◌∙◌, arith}
use Rattle.designs.specs.Designs.{log2}
use Rattle.patterns.proofs.SecondStage.{below_at, left-high, left-low}
use Rattle.patterns.proofs.twice.left_over.Goals as goal
use Rattle.patterns.proofs.twice.left_over.Goals.{After-wrapping_sub_u32-below}

below : (c : After-wrapping_sub_u32-below) → 0 < c.args.x → c.wrapping_sub_u32-below.result ≡ 2 ^ log2 c.args.x - 1
below c p = below_at c.args.x _ p c.requires.0 c.wrapping_sub_u32-below.type_inv (c.wrapping_sub_u32-below.ensures.value ∙ c.lead.ensures)

pub returns-then-low : goal.returns-then-low
returns-then-low c = rw c.if-low.true (left-low c.args.x _ (below (goal.at.returns-then-low c).After-wrapping_sub_u32-below))

pub returns : goal.returns
returns c =
    let p = c.requires.1 c.if-low.false in
    rw c.if-low.false (left-high c.args.x _ p (omega arith) (below (goal.at.returns c).After-wrapping_sub_u32-below p))
