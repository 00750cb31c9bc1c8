-- The row is judged, and what is accepted is scored, by kept bits that act as they are.
use Rattle.std.proofs.Common.{refl}
use Rattle.rows.proofs.RowOutcome as outcome
use Rattle.rows.proofs.score_row_truncated.Goals as goal

pub returns-in_err-of_row : goal.returns-in_err-of_row
returns-in_err-of_row c = outcome.refused_by 4 _ _ _ _ c.from_residual.ensures.1 c.in_err-of_row.ensures

pub report-requires : goal.report-requires
report-requires c = let row = outcome.ready 4 _ _ _ _ c.in_ok-of_row.ensures.refusal in outcome.named (outcome.truncated-as refl row) row

pub returns : goal.returns
returns c = let judged = c.in_ok-of_row.ensures.refusal in outcome.score 4 _ _ _ _ judged (outcome.truncated-as refl (outcome.ready 4 _ _ _ _ judged)) c.report.ensures
