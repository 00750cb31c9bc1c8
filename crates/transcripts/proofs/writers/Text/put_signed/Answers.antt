-- `put_signed` writes a minus sign before the size of a negative number, and the size alone of another.
use Rattle.std.proofs.Common.{List, [], ℕ, ◌≡◌, ◌++◌, true, false, w64, ℤ, nat_abs, pos, to_z, of_z}
use Rattle.std.proofs.Math.Facts.{to_z-of_z}
use lib.Signed.{lt_z}
use mir.Val.{SFits}
use Rattle.signs.proofs.Integers.{tested}
use Rattle.transcripts.specs.Answers.{Appended}
use Rattle.transcripts.specs.Text.{ascii, decimal, signed_decimal}
use Rattle.transcripts.proofs.Writing.{nothing, room, fit, then}
use Rattle.transcripts.proofs.writers.Text.put_signed.Goals as goal
use Rattle.transcripts.proofs.writers.Text.put_signed.Goals.{Joined-v-lt0, then-v-lt0, else-v-lt0}

-- the text, by the sign
module _ {v : ℤ} (fits : SFits w64 v) where
  minus : lt_z (to_z w64 (of_z w64 v)) (pos 0) ≡ true → signed_decimal v ≡ ascii "-" ++ decimal (nat_abs (to_z w64 (of_z w64 v)))
  unfolding signed_decimal
  minus h = cc (tested v fits h, to_z-of_z fits)

  plus : lt_z (to_z w64 (of_z w64 v)) (pos 0) ≡ false → signed_decimal v ≡ decimal (nat_abs (to_z w64 (of_z w64 v)))
  unfolding signed_decimal
  plus h = cc (tested v fits h, to_z-of_z fits)

pub put-requires : goal.put-requires
put-requires c = fit _ (rw (minus c.ranges.v c.if-v-lt0.true) at c.requires)

-- what is written before the size
sign : (c : Joined-v-lt0) → (s : List ℕ) × Appended c.args.self.now s c.if-v-lt0.self × (signed_decimal c.args.v ≡ s ++ decimal (nat_abs (to_z w64 (of_z w64 c.args.v))))
sign c =
    elim c.if-v-lt0.branch [
      | then-v-lt0 w ↦ (ascii "-", rw w.self-is w.put.ensures, minus c.ranges.v w.if-v-lt0.true)
      | else-v-lt0 w ↦ ([], rw w.self-is (nothing _), plus c.ranges.v w.if-v-lt0.false)
    ]

pub put_number-requires : goal.put_number-requires
put_number-requires c =
    let s = sign (goal.at.put_number-requires c).Joined-v-lt0 in
    rw c.unsigned_abs.ensures.value (room _ s.1 (rw s.2 at c.requires))

pub returns : goal.returns
returns c =
    let s = sign (goal.at.returns c).Joined-v-lt0 in
    rw s.2 (then s.1 (rw c.unsigned_abs.ensures.value at c.put_number.ensures))
