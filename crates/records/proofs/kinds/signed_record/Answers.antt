-- `signed_record` gives the outcome of the signed product of its fields at width 16; the operands are read back from their bits.
use Rattle.std.proofs.Common.{◌∙◌}
use Rattle.signs.proofs.Integers.{read_back}
use Rattle.records.specs.Kinds.{signed_record}
use Rattle.records.proofs.kinds.signed_record.Goals as goal

pub returns : goal.returns
unfolding signed_record
returns c =
    let x = read_back c.signed_two_bytes-x.result c.signed_two_bytes-x.type_inv in
    let y = read_back c.signed_two_bytes-y.result c.signed_two_bytes-y.type_inv in
    (simp (x, y) at c.signed_product.ensures) ∙ simp (c.signed_two_bytes-x.ensures, c.signed_two_bytes-y.ensures)
