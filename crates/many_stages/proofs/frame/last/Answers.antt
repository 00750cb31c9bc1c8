-- A turn sets the code of one number more.
use Rattle.std.proofs.Common.{◌<◌, arith}
use Rattle.many_stages.proofs.Filling.{all_coded, next-coded, none-coded}
use Rattle.many_stages.proofs.frame.last.Goals as goal

pub loop-j-init : goal.loop-j-init
loop-j-init c n f size p some = none-coded

pub loop-j-preserved : goal.loop-j-preserved
loop-j-preserved c n f size p some =
    let j = c.loop-j.j in
    let h : j < n = omega (arith, c.loop-j-test.true, size) in
    next-coded (c.loop-j.invariant n f size p some) (omega (arith, c.loop-j-test.true, c.requires)) (c.code.ensures (f j) (some j h) (p.at j h))

pub returns : goal.returns
returns c n f size p some = all_coded (c.loop-j.invariant n f size p some) (omega (arith, c.loop-j-test.false, size))
