-- `table_record` gives the table's product, which is design 1's and fits an i64.
use Rattle.std.proofs.Common.{ap, ◌∙◌, arith, w64}
use Rattle.std.proofs.lemmas.Int.{to_z_pos}
use lib.IntN.{pos}
use Rattle.designs.specs.Outcomes.{accepted}
use Rattle.records.specs.Kinds.{table_record}
use Rattle.records.proofs.kinds.table_record.Goals as goal

pub returns : goal.returns
unfolding table_record
returns c = ap accepted (to_z_pos w64 c.table_product.result (omega arith) ∙ ap pos c.table_product.ensures.design1)
