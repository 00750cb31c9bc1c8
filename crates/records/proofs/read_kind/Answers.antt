-- `read_kind` makes the tests of `reading_refusals` in their order.
use Rattle.std.proofs.lemmas.Result.{err_from_is_err_and}
use Rattle.records.proofs.Framing.{cut-short, unknown-kind, whole}
use Rattle.records.proofs.read_kind.Goals as goal

pub returns-in_err-kind : goal.returns-in_err-kind
returns-in_err-kind c =
    let p = err_from_is_err_and c.from_residual.result c.from_residual.ensures.1 in
    rw (p.1, p.2) (unknown-kind _ _ c.in_err-kind.ensures)

pub returns-then-left-body_length : goal.returns-then-left-body_length
returns-then-left-body_length c = cut-short _ _ _ c.in_ok-kind.ensures c.body_length.ensures c.if-left-body_length.true

pub returns : goal.returns
returns c = whole _ _ _ c.in_ok-kind.ensures c.body_length.ensures c.if-left-body_length.false
