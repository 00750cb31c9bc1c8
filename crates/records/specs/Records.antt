-- The records of an input (docs/SCOPE.md, "The bench program's records" and "Reading records"): each is framed, and then evaluated.
-- Definitions only.
use Rattle.std.specs.Prelude.{ℕ, zero, suc, ◌-◌, cond, List, [], ◌∷◌, ltb, ℤ, length, take, drop}
use Rattle.designs.specs.Designs.{product}
use Rattle.designs.specs.Outcomes.{Outcome, first, otherwise}
use Rattle.designs.specs.Products.{signed_outcome}
use Rattle.singles.specs.Singles.{outcome, product_fields, single_outcome}
use Rattle.records.specs.Kinds.{kind_of, signed_record, single_record, table_record}
use Rattle.records.specs.Frames.{Frame, reading_refusals, frame}

-- A record that was read: its kind's number, its outcome, and how many bytes of the input it takes.
pub record Record : Type 0 where
  pub kind : ℕ
  pub outcome : Outcome ℤ
  pub used : ℕ

-- The record that f frames at the start of s: refused as its frame is, or else what its kind gives for its body.
abbrev pub evaluated : List ℕ → Frame → Record
evaluated s f =
    record { kind = f.kind; outcome = otherwise f.refusal ((kind_of f.kind).outcome (take (f.used - 1) (drop 1 s))); used = f.used }

-- The first record of an input.
unfoldable pub record_of : List ℕ → Record
unfolding first reading_refusals frame kind_of signed_record signed_outcome single_record single_outcome outcome product_fields table_record product
record_of s = evaluated s (frame s)

-- The records of an input, of which there are at most `most`.
unfoldable pub records_within : ℕ → List ℕ → List Record
unfolding record_of
records_within zero s = []
records_within (suc most) [] = []
records_within (suc most) (k ∷ s) = record_of (k ∷ s) ∷ records_within most (drop (record_of (k ∷ s)).used (k ∷ s))

-- All of them: no input has more records than bytes.
unfoldable pub records_of : List ℕ → List Record
unfolding records_within
records_of s = records_within (length s) s

-- What stands at a place of an input: a record, or nothing where the input has ended.
pub data Next : Type 0 where
  found : Record → Next
  ended : Next

unfoldable pub next_at : List ℕ → ℕ → Next
next_at s at = cond (ltb at (length s)) (found (record_of (drop at s))) ended
