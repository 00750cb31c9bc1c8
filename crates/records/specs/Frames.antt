-- Which bytes at the start of an input are its first record, with nothing computed (docs/SCOPE.md, "Reading records"). Definitions only.
use Rattle.std.specs.Prelude.{ℕ, zero, suc, ◌+◌, List, [], ◌∷◌, leb, length, get_or}
use Rattle.designs.specs.Outcomes.{Refusal, ◌when◌, first}
use Rattle.refusals.specs.Refusals.{number}
use Rattle.refusals.specs.declared.Refusal.TheVariants as R
use Rattle.records.specs.Kinds.{kind_of, unknown_kind}

-- A framed record: its kind's number, the refusal of the reading or 0, and how many bytes it takes.
pub record Frame : Type 0 where
  pub kind : ℕ
  pub refusal : ℕ
  pub used : ℕ

-- 18 where the input ends before the body does: of the bytes that are left, the first is the kind's.
abbrev pub cut_short : ℕ → ℕ → Refusal
cut_short body left = number R.CutShort when leb left body

-- In order: the kind is unknown; the body is cut short.
unfoldable pub reading_refusals : ℕ → ℕ → List Refusal
reading_refusals body left = unknown_kind body ∷ cut_short body left ∷ []

-- How many bytes it takes: its own, or, where the reading refuses it, all that are left, which ends the reading.
abbrev pub takes : ℕ → ℕ → ℕ → ℕ
takes zero own left = own
takes (suc n) own left = left

-- The frame of a record by the length of its body and the bytes that are left.
abbrev pub frame_by : ℕ → ℕ → ℕ → Frame
frame_by kind body left =
    let refusal = first (reading_refusals body left) in
    record { kind = kind; refusal = refusal; used = takes refusal (1 + body) left }

-- The frame of an input's first record. An input that has ended frames as a record of the unknown kind 0 that takes nothing.
unfoldable pub frame : List ℕ → Frame
frame s = frame_by (get_or s 0 0) (kind_of (get_or s 0 0)).body (length s)
