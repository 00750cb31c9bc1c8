-- A turn makes one code more, and after the last all are made.
use Rattle.std.proofs.Common.{arith, rules, to_z-of_z, w16, SFits}
use Rattle.patterns.specs.Blocks.{place}
use Rattle.strips.proofs.Filling.{all, next, none}
use Rattle.strips.proofs.codes.fill.Goals as goal

pub loop-j-init : goal.loop-j-init
loop-j-init g c f given = none

pub loop-j-preserved : goal.loop-j-preserved
loop-j-preserved g c f given =
    let fits : SFits w16 (place c.args.part.now c.loop-j.j) = search rules in
    next (c.loop-j.invariant f given) c.loop-j-test.true (omega (arith, c.requires)) fits.sfits
    (given _ _ (rw (to_z-of_z fits) fits.sfits) c.code.ensures)

pub returns : goal.returns
returns g c f given = all (c.loop-j.invariant f given) c.loop-j-test.false c.requires.0
