-- `shape_refusal` makes the tests of `shape_refusals` in their order.
use Rattle.std.proofs.Common.{rules}
use Rattle.designs.specs.Outcomes.{first}
use Rattle.stores.proofs.shape_refusal.Goals as goal

pub returns-then-columns-eq0 : goal.returns-then-columns-eq0
unfolding first
returns-then-columns-eq0 c = search rules

pub returns-then-columns-gt-MOST_COLUMNS : goal.returns-then-columns-gt-MOST_COLUMNS
unfolding first
returns-then-columns-gt-MOST_COLUMNS c = search rules

pub returns-then-length-columns-ne0 : goal.returns-then-length-columns-ne0
unfolding first
returns-then-length-columns-ne0 c = search rules

pub returns : goal.returns
unfolding first
returns c = search rules
