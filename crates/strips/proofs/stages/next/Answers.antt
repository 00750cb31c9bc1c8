-- A turn finds the pattern of the start, and leaves that of one stage more.
use Rattle.std.proofs.Common.{arith}
use Rattle.strips.proofs.EachStage.{left-small, next-filled, one_more, still}
use Rattle.strips.proofs.stages.next.Goals as goal

pub rest-requires : goal.rest-requires
rest-requires c =
    let l = c.requires.2 in
    (_, left-small l c.loop-p-test.true, still l (c.loop-p.invariant _ _ l) c.loop-p-test.true)

pub loop-p-preserved : goal.loop-p-preserved
loop-p-preserved c i numbers l =
    let before = c.loop-p.invariant i numbers l in
    next-filled before (omega (arith, c.loop-p-test.true, l.room))
    (c.rest.ensures _ (left-small l c.loop-p-test.true) (still l before c.loop-p-test.true))

pub returns : goal.returns
returns c i numbers l = one_more l (c.loop-p.invariant i numbers l) c.loop-p-test.false
