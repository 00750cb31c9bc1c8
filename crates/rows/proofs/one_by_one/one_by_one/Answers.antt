-- Each turn brings the residue of its pair, and `turn` takes what was reached a pair further, whatever the places held before the row.
use Rattle.std.proofs.Common.{rules}
use Rattle.rows.proofs.OneByOne.{asked, gone, next, on}
use Rattle.rows.proofs.one_by_one.one_by_one.Goals as goal

pub loop-at-init : goal.loop-at-init
loop-at-init g c places ok = ok.going

pub turn-sums-requires : goal.turn-sums-requires
turn-sums-requires g c =
    let ok = c.requires.1 in
    let residue = c.residue-residue in
    asked
    (next ok.ready (c.loop-at.invariant _ ok) c.loop-at-test.true (search rules) (search rules) residue.type_inv residue.ensures)

pub loop-at-preserved : goal.loop-at-preserved
loop-at-preserved g c places ok =
    let residue = c.residue-residue in
    on c.loop-at-test.true
    (c.turn-sums.ensures _ _ _ _
    (next ok.ready (c.loop-at.invariant places ok) c.loop-at-test.true (search rules) (search rules) residue.type_inv residue.ensures))

pub returns : goal.returns
returns g c places ok = gone (c.loop-at.invariant places ok) c.loop-at-test.false
