-- The answer of the row, laid out.
use Rattle.capi_rows.proofs.RowAnswer.{laid_out}
use Rattle.capi_rows.proofs.highvane_score_row_mitchell.Goals as goal

pub returns : goal.returns
returns c = laid_out _ c.score_row_mitchell.ensures c.laid.ensures
