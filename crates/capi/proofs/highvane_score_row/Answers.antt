-- The answer of the row, laid out for C.
use Rattle.capi_rows.proofs.RowAnswer.{laid_out}
use Rattle.capi.proofs.highvane_score_row.Goals as goal

pub returns : goal.returns
returns c = laid_out _ c.score_row.ensures c.laid.ensures
