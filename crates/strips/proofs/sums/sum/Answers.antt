-- A turn adds one number more.
use Rattle.std.proofs.Common.{rules, ◌∙◌, le_antisymm, arith}
use Rattle.signs.proofs.Integers.{read_back}
use Rattle.strips.proofs.HalfSums.{begun, ended, next, roomy}
use Rattle.strips.proofs.sums.sum.Goals as goal

pub loop-j-init : goal.loop-j-init
loop-j-init g c = begun (search rules)

pub with-halves-requires : goal.with-halves-requires
with-halves-requires g c = roomy c.loop-j.invariant.some.1 (omega (arith, c.loop-j-test.true, c.requires.0))

pub loop-j-preserved : goal.loop-j-preserved
loop-j-preserved g c =
    next c.loop-j.invariant c.number.type_inv c.with-halves.ensures (λ f given. given _ _ c.loop-j-test.true c.number.ensures)

pub returns : goal.returns
returns g c f given =
    ended c.loop-j.invariant (le_antisymm c.loop-j.auto.j-end c.loop-j-test.false) (read_back _ c.joined.type_inv ∙ c.joined.ensures) f given
