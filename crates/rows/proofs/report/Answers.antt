-- What the blocks have reached goes on pair by pair to the end of the row, and its sums make the report.
use Rattle.rows.proofs.RowOutcome.{by_parts, goes_on, room}
use Rattle.rows.proofs.report.Goals as goal

pub report_of-requires : goal.report_of-requires
report_of-requires g c = room c.requires (c.one_by_one-sums.ensures _ (goes_on c.requires c.by_blocks-first.ensures))

pub returns : goal.returns
returns g c = by_parts c.requires c.by_blocks-first.ensures c.one_by_one-sums.ensures c.report_of.ensures
