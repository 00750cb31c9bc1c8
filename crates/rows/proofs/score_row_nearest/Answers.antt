-- The row is judged, and what is accepted is scored.
use Rattle.std.proofs.Common.{refl}
use Rattle.rows.proofs.RowOutcome as outcome
use Rattle.rows.proofs.score_row_nearest.Goals as goal

pub returns-in_err-of_row : goal.returns-in_err-of_row
returns-in_err-of_row c = outcome.refused_by 2 _ _ _ _ c.from_residual.ensures.1 c.in_err-of_row.ensures

pub report-requires : goal.report-requires
report-requires c = outcome.ready 2 _ _ _ _ c.in_ok-of_row.ensures.refusal

pub returns : goal.returns
returns c = outcome.score 2 _ _ _ _ c.in_ok-of_row.ensures.refusal refl c.report.ensures
