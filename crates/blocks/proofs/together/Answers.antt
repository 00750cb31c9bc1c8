-- A turn puts the residue of the next pair to its place and into the sums, in which 64 pairs leave room.
use Rattle.std.proofs.Common.{rules, arith}
use Rattle.blocks.proofs.Taking.{begun, next, ready, taken-all}
use Rattle.blocks.proofs.together.Goals as goal

pub loop-j-init : goal.loop-j-init
loop-j-init g c = begun (search rules)

pub with_pair-sums-requires : goal.with_pair-sums-requires
with_pair-sums-requires g c =
    ready c.loop-j.invariant
    (record { weight = search rules; number = search rules; ok = c.residue-residue.type_inv; is = c.residue-residue.ensures })
    (g.met.D.Multiplier.keeps c.args.d) (omega arith)

pub loop-j-preserved : goal.loop-j-preserved
loop-j-preserved g c =
    next c.loop-j.invariant
    (record { weight = search rules; number = search rules; ok = c.residue-residue.type_inv; is = c.residue-residue.ensures })
    c.loop-j-test.true (omega arith) c.with_pair-sums.ensures

pub returns : goal.returns
returns g c = taken-all c.loop-j.invariant (omega arith) c.taken-n.ensures
