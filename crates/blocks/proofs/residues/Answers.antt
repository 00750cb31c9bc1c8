-- A turn puts the residue of the next pair to its place; residues of 16-bit numbers are small.
use Rattle.std.proofs.Common.{rules, arith}
use Rattle.blocks.proofs.Taking.{all-filled, next-filled, none_filled}
use Rattle.blocks.proofs.residues.Goals as goal

pub loop-j-init : goal.loop-j-init
loop-j-init g c = none_filled

pub loop-j-preserved : goal.loop-j-preserved
loop-j-preserved g c =
    next-filled c.loop-j.invariant (g.met.D.Multiplier.keeps c.args.d)
    (record { weight = search rules; number = search rules; ok = c.residue.type_inv; is = c.residue.ensures })
    c.loop-j-test.true (omega arith)

pub returns : goal.returns
returns g c = all-filled c.loop-j.invariant (omega arith) c.taken-n.ensures (omega arith)
