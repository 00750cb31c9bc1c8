-- The lines that records print, and what they count for (docs/SCOPE.md, "The bench program's records"). Text is a list of bytes.
-- Definitions only.
use Rattle.std.specs.Prelude.{ℕ, ◌+◌, List, [], ◌∷◌, ◌++◌, ℤ}
use Rattle.designs.specs.Outcomes.{Outcome, accepted, refused}
use Rattle.records.specs.Records.{Record}
use Rattle.transcripts.specs.Text.{ascii, decimal, signed_decimal}

-- A field with the space that parts it from the next, and one with the line feed that ends its line.
abbrev pub spaced : List ℕ → List ℕ
spaced field = field ++ ascii " "

abbrev pub closed : List ℕ → List ℕ
closed field = field ++ ascii "\n"

-- After the kind: `ok` and the result in decimal, or `no` and the number of the refusal.
unfoldable pub outcome_text : Outcome ℤ → List ℕ
outcome_text (accepted v) = spaced (ascii "ok") ++ closed (signed_decimal v)
outcome_text (refused n) = spaced (ascii "no") ++ closed (decimal n)

-- The line of a record, by its kind and its outcome.
unfoldable pub line : ℕ → Outcome ℤ → List ℕ
line kind o = spaced (decimal kind) ++ outcome_text o

-- How many records were accepted, and how many refused.
pub record Tally : Type 0 where
  pub accepted : ℕ
  pub refused : ℕ

abbrev pub none : Tally
none = record { accepted = 0; refused = 0 }

-- A tally with one record more.
abbrev pub counted : Tally → Outcome ℤ → Tally
counted t (accepted v) = record { accepted = t.accepted + 1; refused = t.refused }
counted t (refused n) = record { accepted = t.accepted; refused = t.refused + 1 }

-- The last line: how many were accepted, and how many refused.
unfoldable pub total_line : Tally → List ℕ
total_line t = spaced (ascii "total") ++ (spaced (decimal t.accepted) ++ closed (decimal t.refused))

-- A line for each record, and the total of these and of what was counted before them.
unfoldable pub printed : Tally → List Record → List ℕ
printed t [] = total_line t
printed t (r ∷ rs) = line r.kind r.outcome ++ printed (counted t r.outcome) rs
