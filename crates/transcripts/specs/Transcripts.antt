-- The transcript of an input (docs/SCOPE.md, "Reading records"), and what a buffer holds once it is written. Definitions only.
use Rattle.std.specs.Prelude.{◌≡◌, ℕ, zero, suc, ◌≤◌, List, [], ◌∷◌, ltb, length, take, drop}
use Rattle.designs.specs.Outcomes.{refused, Refusal, ◌when◌, first}
use Rattle.refusals.specs.Refusals.{number}
use Rattle.refusals.specs.declared.Refusal.TheVariants as R
use Rattle.records.specs.Records.{Record, records_of}
use Rattle.transcripts.specs.Text.{decimal, signed_decimal}
use Rattle.transcripts.specs.Lines.{none, outcome_text, line, total_line, printed}

-- The most bytes that are read.
abbrev pub input_most : ℕ
input_most = 65536

-- 19 for an input that has more.
abbrev pub input_too_long : ℕ → Refusal
input_too_long bytes = number R.InputTooLong when ltb input_most bytes

-- An input that is refused is not read: it stands as one record of kind 0 with that refusal.
abbrev pub unread : ℕ → List Record
unread n = record { kind = 0; outcome = refused n; used = 0 } ∷ []

-- What an input is read as, where n is its refusal or 0.
abbrev pub read_as : ℕ → List ℕ → List Record
read_as zero s = records_of s
read_as (suc n) s = unread (suc n)

-- What is printed of an input.
unfoldable pub transcript : List ℕ → List ℕ
unfolding first records_of printed line outcome_text total_line decimal signed_decimal
transcript s = printed none (read_as (first (input_too_long (length s) ∷ [])) s)

-- The first n places of a buffer that held d hold the transcript of s, and the later places are kept.
pub record Written (s d d' : List ℕ) (n : ℕ) : Type 0 where
  pub fits : n ≤ length d'
  pub count : n ≡ length (take n d')
  pub says : take n d' ≡ transcript s
  pub keeps : drop n d' ≡ drop n d
