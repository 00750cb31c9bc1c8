-- One byte more is the next byte of the text.
use Rattle.std.proofs.Common.{ℕ, add-one, arith, length-take}
use Rattle.std.proofs.Math.Seq.{take-suc}
use Rattle.transcripts.proofs.Writing.{kept, then}
use Rattle.transcripts.proofs.writers.Text.put_bytes.Goals as goal

pub put-requires : goal.put-requires
put-requires c =
    omega (arith, kept c.loop-b.invariant.put, c.loop-b.invariant.put.next, length-take c.loop-b.b-index c.args.text.now)

pub loop-b-preserved : goal.loop-b-preserved
loop-b-preserved c =
    rw (add-one c.loop-b.b-index, take-suc {A = ℕ} _ _ 0 c.loop-b-test.true) (then c.loop-b.invariant c.put.ensures)
