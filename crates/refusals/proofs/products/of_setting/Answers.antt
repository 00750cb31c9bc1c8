-- `of_setting` makes the tests of `setting_refusals` in their order.
use Rattle.std.proofs.Common.{rules}
use Rattle.designs.specs.Outcomes.{first}
use Rattle.designs.specs.Products.{setting_refusals}
use Rattle.refusals.proofs.products.of_setting.Goals as goal

pub returns-then-not-known : goal.returns-then-not-known
unfolding first setting_refusals
returns-then-not-known c = search rules

pub returns-then-not-listed : goal.returns-then-not-listed
unfolding first setting_refusals
returns-then-not-listed c = search rules

pub returns-then-not-in_range : goal.returns-then-not-in_range
unfolding first setting_refusals
returns-then-not-in_range c = search rules

pub returns : goal.returns
unfolding first setting_refusals
returns c = search rules
