-- A turn finds a number as it was at the start. The callees give its power, the code of that, and what the power leaves.
use Rattle.std.proofs.Common.{◌<◌, arith}
use Rattle.many_stages.proofs.Filling.{next-taken, none-taken, number, number-raised, power-raised, powers-taken, short}
use Rattle.many_stages.proofs.NextPowers.{power-some}
use Rattle.many_stages.proofs.frame.take_off.Goals as goal

pub loop-j-init : goal.loop-j-init
loop-j-init g c n f finds size s = none-taken

pub less-requires : goal.less-requires
less-requires g c =
    let (n, f, finds, size, s) = c.requires.1 in
    let t = c.loop-j.invariant n f finds size s in
    let j = c.loop-j.j in
    let h : j < n = omega (arith, c.loop-j-test.true, size) in
    (_, _, number-raised s t h, power-raised s t h (finds j _ h (short s t h) (rw (← number s t h) c.power-q.ensures)))

pub loop-j-preserved : goal.loop-j-preserved
loop-j-preserved g c n f finds size s =
    let t = c.loop-j.invariant n f finds size s in
    let j = c.loop-j.j in
    let h : j < n = omega (arith, c.loop-j-test.true, size) in
    let power = finds j _ h (short s t h) (rw (← number s t h) c.power-q.ensures) in
    next-taken s t h (c.code.ensures _ (power-some _) power) (c.less.ensures _ _ (number-raised s t h) (power-raised s t h power))

pub returns : goal.returns
returns g c n f finds size s = powers-taken s (c.loop-j.invariant n f finds size s) (omega (arith, c.loop-j-test.false, size))
