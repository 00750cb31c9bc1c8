-- `of_operands` makes the tests of `operand_refusals` in their order.
use Rattle.designs.specs.Outcomes.{first}
use Rattle.designs.specs.Products.{operand_refusals}
use Rattle.refusals.proofs.products.of_operands.Goals as goal

pub returns-then-not-a_inside : goal.returns-then-not-a_inside
unfolding first operand_refusals
returns-then-not-a_inside c = simp c.if-not-a_inside.true

pub returns-then-not-b_inside : goal.returns-then-not-b_inside
unfolding first operand_refusals
returns-then-not-b_inside c = simp (c.if-not-a_inside.false, c.if-not-b_inside.true)

pub returns : goal.returns
unfolding first operand_refusals
returns c = simp (c.if-not-a_inside.false, c.if-not-b_inside.false)
