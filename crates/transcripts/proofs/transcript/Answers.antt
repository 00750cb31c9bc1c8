-- `transcript` writes what is printed of the records, or of an input that is too long, into a buffer that has room for either.
use Rattle.std.proofs.Common.{arith, sym, ◌≡◌, ◌≤◌, ℕ, List, length}
use Rattle.records.specs.Records.{records_of}
use Rattle.transcripts.specs.Text.{Room}
use Rattle.transcripts.specs.Lines.{none, printed}
use Rattle.transcripts.specs.Transcripts.{input_most, transcript, unread}
use Rattle.transcripts.proofs.KindLengths.{Bytes}
use Rattle.transcripts.proofs.Lengths.{transcript-length, transcript_most}
use Rattle.transcripts.proofs.Limit.{short, long, written}
use Rattle.transcripts.proofs.transcript.Goals as goal
use Rattle.transcripts.proofs.transcript.Goals.{then-input-gt-INPUT_MAX, else-input-gt-INPUT_MAX}

module _ {out : List ℕ} (long-enough : length out ≡ transcript_most) where
  refusal-room : Room out 0 (printed none (unread 19))
  unfolding transcript
  refusal-room = omega arith

  records-room : (s : List ℕ) → Bytes s → length s ≤ input_most → Room out 0 (printed none (records_of s))
  records-room s bytes h = omega (arith, transcript-length s bytes h)

pub put_refusal-requires : goal.put_refusal-requires
put_refusal-requires c = refusal-room c.told-out

pub put_records-requires : goal.put_records-requires
put_records-requires c = records-room c.told-out c.args.input.now (λ i. (c.type_inv.input i).fits) c.if-input-gt-INPUT_MAX.false

-- the text is still in the buffer that was lent
pub shape_of-out : goal.shape_of-out
shape_of-out c =
    elim c.if-input-gt-INPUT_MAX.branch [
      | then-input-gt-INPUT_MAX w ↦ rw w.text-is (sym w.put_refusal.ensures.same_buffer)
      | else-input-gt-INPUT_MAX w ↦ rw w.text-is (sym w.put_records.ensures.same_buffer)
    ]

pub returns : goal.returns
returns c =
    let bytes : Bytes c.args.input.now = λ i. (c.type_inv.input i).fits in
    elim c.if-input-gt-INPUT_MAX.branch [
      | then-input-gt-INPUT_MAX w ↦
          rw w.text-is (written (long _ w.if-input-gt-INPUT_MAX.true) (refusal-room c.told-out) w.put_refusal.ensures.put)
      | else-input-gt-INPUT_MAX w ↦
          let few = w.if-input-gt-INPUT_MAX.false in
          rw w.text-is (written (short _ few) (records-room c.told-out c.args.input.now bytes few) w.put_records.ensures.put)
    ]
