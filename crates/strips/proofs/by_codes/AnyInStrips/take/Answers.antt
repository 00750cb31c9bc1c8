-- Of a part that is no longer than a strip nothing is cut, and the rows leave its codes as they are.
use Rattle.std.proofs.Common.{List, ℤ}
use Rattle.strips.proofs.EachRow.{uncut, whole-part}
use Rattle.strips.proofs.by_codes.AnyInStrips.take.Goals as goal

pub returns-clause-scores : goal.returns-clause-scores
returns-clause-scores g c few room = whole-part few c.fewer.ensures (c.take.ensures room)

pub returns-clause-codes : goal.returns-clause-codes
returns-clause-codes g c few = uncut (λ (p : List ℤ). g.D.ByCodes.coded c.args.self p c.code.new.codes) few c.fewer.ensures c.code.ensures
