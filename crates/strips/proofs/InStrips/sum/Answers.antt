-- The one row that takes the part is the first, so its place has its sum.
use Rattle.std.proofs.Common.{arith}
use Rattle.strips.proofs.EachRow.{alone}
use Rattle.strips.proofs.InStrips.sum.Goals as goal

pub returns-clause-sum : goal.returns-clause-sum
returns-clause-sum g c few =
    alone (omega arith) (omega (arith, few, g.met.Self.InStrips.few)) (c.take.ensures.scores few (record { at = λ r h. omega arith }))
