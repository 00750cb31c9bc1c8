-- A turn makes the code of one pattern more, and after the last all are made.
use Rattle.std.proofs.Common.{arith}
use Rattle.designs.specs.Codes.{code}
use Rattle.strips.proofs.EachStage.{next-filled}
use Rattle.strips.proofs.stages.codes_of.Goals as goal

pub loop-j-preserved : goal.loop-j-preserved
loop-j-preserved c i numbers l =
    next-filled (c.loop-j.invariant i numbers l) (omega (arith, c.loop-j-test.true, c.requires))
    (c.code.ensures (code 23) _ (l.at c.loop-j.j c.loop-j-test.true))

pub returns : goal.returns
returns c i numbers l = record { at = λ k h. (c.loop-j.invariant i numbers l).first k (omega (arith, c.loop-j-test.false)) }
