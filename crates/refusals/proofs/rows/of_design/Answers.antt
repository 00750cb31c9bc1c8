-- `of_design` makes the tests of `design_refusals` in their order.
use Rattle.std.proofs.Common.{rules}
use Rattle.designs.specs.Outcomes.{first}
use Rattle.designs.specs.Scoring.{design_refusals}
use Rattle.refusals.proofs.rows.of_design.Goals as goal

pub returns-then-not-known : goal.returns-then-not-known
unfolding first design_refusals
returns-then-not-known c = search rules

pub returns-then-not-in_range : goal.returns-then-not-in_range
unfolding first design_refusals
returns-then-not-in_range c = search rules

pub returns : goal.returns
unfolding first design_refusals
returns c = search rules
