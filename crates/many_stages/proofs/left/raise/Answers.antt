-- A turn sets the pattern of what is made of one number more.
use Rattle.std.proofs.Common.{arith, below_more, to_z-of_z, w16, SFits}
use Rattle.patterns.specs.Blocks.{place}
use Rattle.many_stages.proofs.Patterned.{all-raised, next-made, none-raised}
use Rattle.many_stages.proofs.left.raise.Goals as goal

pub loop-j-init : goal.loop-j-init
loop-j-init g c h given = (none-raised, λ k l. absurd (omega arith))

pub loop-j-preserved : goal.loop-j-preserved
loop-j-preserved g c h given =
    let fits : SFits w16 (place c.args.numbers.now c.loop-j.j) = record { sfits = omega arith } in
    let (raised, small) = c.loop-j.invariant h given in (
      next-made h c.args.numbers.now raised c.loop-j-test.true (omega arith) fits.sfits c.f.type_inv
          (given _ _ (rw (to_z-of_z fits) fits.sfits) c.f.ensures) c.raised.ensures,
      below_more _ _ small fits.sfits,
    )

pub returns : goal.returns
returns g c h given =
    let (raised, small) = c.loop-j.invariant h given in
    (all-raised raised c.loop-j-test.false (omega arith), λ k l. small k (omega arith))
