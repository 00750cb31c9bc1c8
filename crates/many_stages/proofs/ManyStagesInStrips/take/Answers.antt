-- Of a part that is no longer than a strip nothing is cut, and the rows leave its codes as they are.
use Rattle.std.proofs.Common.{◌≡◌, List, length, ℕ, ℤ, subst}
use Rattle.designs.specs.Designs.{staged}
use Rattle.signs.proofs.Integers.{read_back}
use Rattle.patterns.specs.Blocks.{place}
use Rattle.strips.specs.Strips.{Stripped}
use Rattle.strips.proofs.EachRow.{uncut, whole-part}
use Rattle.many_stages.specs.Strips.{Coded, excess_of}
use Rattle.many_stages.proofs.ManyStagesInStrips.take.Goals as goal

pub returns-clause-scores : goal.returns-clause-scores
returns-clause-scores c few room =
    subst (λ (s : ℕ). Stripped (staged s) c.args.columns c.args.from c.args.weights.now c.args.part.now c.args.scores.now c.staged.new.scores)
    c.taken-stages.ensures (whole-part few c.fewer.ensures (c.staged.ensures room))

pub returns-clause-codes : goal.returns-clause-codes
returns-clause-codes c few =
    let s = c.taken-stages.result.count in
    rw (← c.taken-stages.ensures, read_back c.coded-codes.result c.coded-codes.type_inv)
    (uncut (λ (p : List ℤ). Coded s p c.coded-codes.new.held × (c.coded-codes.result ≡ excess_of s (place p) (length p))) few c.fewer.ensures c.coded-codes.ensures)
