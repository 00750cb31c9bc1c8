-- A turn finds the pattern of a number as it was at the start, and leaves that of what is left of it.
use Rattle.std.proofs.Common.{◌<◌, arith}
use Rattle.strips.proofs.EachStage.{none_filled}
use Rattle.many_stages.proofs.Patterned.{all-taken, more-taken, still}
use Rattle.many_stages.proofs.left.next.Goals as goal

pub loop-p-init : goal.loop-p-init
loop-p-init g c h n f e size p = none_filled _ _

pub f-requires : goal.f-requires
f-requires g c =
    let (h, n, f, e, size, p) = c.requires in
    let j = c.loop-p.p-index in
    let l : j < n = omega (arith, c.loop-p-test.true, size) in
    rw (still p (c.loop-p.invariant h n f e size p) l) (e.taken (f j) (p.small j l))

pub loop-p-preserved : goal.loop-p-preserved
loop-p-preserved g c h n f e size p =
    let done = c.loop-p.invariant h n f e size p in
    let j = c.loop-p.p-index in
    let l : j < n = omega (arith, c.loop-p-test.true, size) in
    more-taken h {r = c.f.result} p done l (e.made (f j) _ (p.small j l) (rw (← still p done l) c.f.ensures))

pub returns : goal.returns
returns g c h n f e size p = all-taken h e.keeps p (c.loop-p.invariant h n f e size p) (omega (arith, c.loop-p-test.false, size))
