-- A row by the design that is asked for is the row by that design, and where it is none of the five it is refused.
use Rattle.rows.proofs.RowOutcome.{unknown}
use Rattle.rows.proofs.score_row.Goals as goal

pub returns : goal.returns
returns c = unknown _ _ c.if-design-eq1.false c.if-design-eq2.false c.if-design-eq3.false c.if-design-eq4.false c.if-design-eq5.false
