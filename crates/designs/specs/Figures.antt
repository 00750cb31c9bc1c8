-- The starred figures of docs/SCOPE.md, "Figures to hold the designs to", in one list with one proof, of the meaning itself.
use Rattle.std.specs.Prelude.{◌≡◌, refl, List, [], ◌∷◌, map, ℕ, ℤ, pos, neg_ℤ}
use Rattle.designs.specs.Signs.{residue}
use Rattle.designs.specs.Outcomes.{Outcome, accepted, refused, first}
use Rattle.designs.specs.Products.{unsigned_outcome, signed_outcome, design_of}
use Rattle.designs.specs.Rows.{Report, empty_report, report, residues}
use Rattle.designs.specs.Scoring.{row_refusals, row_outcome, row_written}

-- What a figure asks, with the design, setting and width as the table has them: an unsigned product, a signed one, or a row.
pub data Question : Type 0 where
  unsigned : ℕ → ℕ → ℕ → ℕ → ℕ → Question
  signed : ℕ → ℕ → ℕ → ℤ → ℤ → Question
  row : ℕ → ℕ → List ℤ → List ℤ → Question

-- What the table prints: a product and its residue, or a report and its residues.
pub data Answer : Type 0 where
  natural : Outcome ℕ → ℤ → Answer
  integer : Outcome ℤ → ℤ → Answer
  scored : Report → List ℤ → Answer

-- What the definitions give.
unfoldable pub meaning : Question → Answer
unfolding unsigned_outcome signed_outcome residue report residues
meaning (unsigned design setting width a b) =
    natural (unsigned_outcome design width setting a b) (residue (design_of design setting) (pos a) (pos b))
meaning (signed design setting width a b) =
    integer (signed_outcome design width setting a b) (residue (design_of design setting) a b)
meaning (row design setting ws fs) = scored (report (design_of design setting) ws fs) (residues (design_of design setting) ws fs)

abbrev − : ℕ → ℤ
− n = neg_ℤ (pos n)

abbrev starred_row : Report
starred_row =
    record { score = − 20; true_sum = − 21; error = − 1; magnitude_sum = 39; nonzero_pairs = 2; largest_residue = 2; largest_place = 1 }

pub figures : List (Question × Answer)
figures =
    (unsigned 1 0 8 3 3, natural (accepted 8) (pos 1))
    ∷ (unsigned 1 0 8 5 6, natural (accepted 28) (pos 2))
    ∷ (unsigned 1 0 8 192 192, natural (accepted 32768) (pos 4096))
    ∷ (unsigned 2 0 8 5 6, natural (accepted 32) (− 2))
    ∷ (unsigned 2 0 8 191 192, natural (accepted 40704) (− 4032))
    ∷ (signed 2 0 8 (− 5) (pos 6), integer (accepted (− 32)) (pos 2))
    ∷ (unsigned 3 1 8 7 7, natural (accepted 40) (pos 9))
    ∷ (unsigned 3 2 8 7 7, natural (accepted 48) (pos 1))
    ∷ (unsigned 3 3 8 7 7, natural (accepted 49) (pos 0))
    ∷ (unsigned 4 4 8 3 3, natural (accepted 8) (pos 1))
    ∷ (unsigned 4 4 8 16 16, natural (accepted 272) (− 16))
    ∷ (unsigned 5 4 8 3 3, natural (accepted 8) (pos 1))
    ∷ (unsigned 5 4 8 5 5, natural (accepted 26) (− 1))
    ∷ (unsigned 5 4 8 7 7, natural (accepted 50) (− 1))
    ∷ (unsigned 5 4 8 4 5, natural (accepted 21) (− 1))
    ∷ (unsigned 5 4 8 5 27, natural (accepted 138) (− 3))
    ∷ (row 1 0 (pos 3 ∷ − 5 ∷ pos 0 ∷ []) (pos 3 ∷ pos 6 ∷ pos 7 ∷ []), scored starred_row (pos 1 ∷ − 2 ∷ pos 0 ∷ []))
    ∷ []

pub figures-hold : map (λ f. meaning f.0) figures ≡ map (λ f. f.1) figures
unfolding meaning figures
figures-hold = refl

-- The sentences below the table, each limit from both sides, and the order of the refusals where several apply: an outcome, and what
-- it should be. First unsigned, then signed.
pub unsigned_judged : List (Outcome ℕ × Outcome ℕ)
unfolding unsigned_outcome
unsigned_judged =
    (unsigned_outcome 1 8 0 255 255, accepted 65024)
    ∷ (unsigned_outcome 1 8 0 256 5, refused 4)
    ∷ (unsigned_outcome 1 8 0 5 256, refused 20)
    ∷ (unsigned_outcome 1 8 0 256 256, refused 4)
    ∷ (unsigned_outcome 1 8 1 256 5, refused 3)
    ∷ (unsigned_outcome 1 8 1 5 256, refused 3)
    ∷ (unsigned_outcome 1 8 1 256 256, refused 3)
    ∷ (unsigned_outcome 1 12 0 4095 4095, accepted 16769024)
    ∷ (unsigned_outcome 1 12 0 4096 5, refused 4)
    ∷ (unsigned_outcome 1 12 0 5 4096, refused 20)
    ∷ (unsigned_outcome 3 12 12 4095 4095, accepted 16769025)
    ∷ (unsigned_outcome 3 12 13 4095 4095, refused 3)
    ∷ (unsigned_outcome 4 12 11 3 3, accepted 8)
    ∷ (unsigned_outcome 4 12 12 3 3, refused 3)
    ∷ (unsigned_outcome 5 8 7 7 7, accepted 48)
    ∷ (unsigned_outcome 5 12 11 3 3, accepted 8)
    ∷ (unsigned_outcome 5 12 12 3 3, refused 3)
    ∷ (unsigned_outcome 5 32 31 4294967295 4294967295, accepted 18446744069414584320)
    ∷ (unsigned_outcome 1 16 0 65535 65535, accepted 4294836224)
    ∷ (unsigned_outcome 1 16 0 65535 65536, refused 20)
    ∷ (unsigned_outcome 2 32 0 4294967295 4294967295, accepted 18446744065119617024)
    ∷ (unsigned_outcome 2 32 0 4294967296 1, refused 4)
    ∷ (unsigned_outcome 0 8 0 3 3, refused 1)
    ∷ (unsigned_outcome 5 8 0 3 3, refused 3)
    ∷ (unsigned_outcome 6 8 0 3 3, refused 1)
    ∷ (unsigned_outcome 1 10 0 3 3, refused 2)
    ∷ (unsigned_outcome 1 11 0 3 3, refused 2)
    ∷ (unsigned_outcome 1 13 0 3 3, refused 2)
    ∷ (unsigned_outcome 1 15 0 3 3, refused 2)
    ∷ (unsigned_outcome 1 17 0 3 3, refused 2)
    ∷ (unsigned_outcome 1 64 0 3 3, refused 2)
    ∷ []

pub unsigned_judged-hold : map (λ j. j.0) unsigned_judged ≡ map (λ j. j.1) unsigned_judged
unfolding unsigned_judged
unsigned_judged-hold = refl

pub judged : List (Outcome ℤ × Outcome ℤ)
unfolding signed_outcome
judged =
    (signed_outcome 3 8 8 (pos 7) (pos 7), accepted (pos 49))
    ∷ (signed_outcome 3 8 0 (pos 7) (pos 7), refused 3)
    ∷ (signed_outcome 3 8 9 (pos 7) (pos 7), refused 3)
    ∷ (signed_outcome 4 8 7 (pos 16) (pos 16), accepted (pos 258))
    ∷ (signed_outcome 4 8 8 (pos 16) (pos 16), refused 3)
    ∷ (signed_outcome 5 8 7 (pos 16) (pos 16), accepted (pos 258))
    ∷ (signed_outcome 5 8 8 (pos 16) (pos 16), refused 3)
    ∷ (signed_outcome 5 8 4 (− 5) (pos 5), accepted (− 26))
    ∷ (signed_outcome 1 8 0 (− 128) (pos 1), accepted (− 128))
    ∷ (signed_outcome 1 8 0 (pos 1) (− 128), accepted (− 128))
    ∷ (signed_outcome 1 8 0 (pos 128) (pos 5), refused 4)
    ∷ (signed_outcome 1 8 0 (pos 5) (pos 128), refused 20)
    ∷ (signed_outcome 1 8 0 (pos 128) (pos 128), refused 4)
    ∷ (signed_outcome 1 8 0 (pos 5) (− 129), refused 20)
    ∷ (signed_outcome 1 12 0 (− 2048) (− 2048), accepted (pos 4194304))
    ∷ (signed_outcome 1 12 0 (pos 2047) (− 2048), accepted (− 4192256))
    ∷ (signed_outcome 1 12 0 (pos 2048) (pos 5), refused 4)
    ∷ (signed_outcome 1 12 0 (pos 5) (pos 2048), refused 20)
    ∷ (signed_outcome 1 12 0 (− 2049) (pos 5), refused 4)
    ∷ (signed_outcome 1 12 0 (pos 5) (− 2049), refused 20)
    ∷ (signed_outcome 1 8 1 (pos 128) (pos 5), refused 3)
    ∷ (signed_outcome 1 8 1 (pos 5) (pos 128), refused 3)
    ∷ (signed_outcome 1 8 1 (pos 128) (pos 128), refused 3)
    ∷ (signed_outcome 1 7 1 (pos 128) (pos 128), refused 2)
    ∷ (signed_outcome 6 7 1 (pos 128) (pos 128), refused 1)
    ∷ []

pub judged-hold : map (λ j. j.0) judged ≡ map (λ j. j.1) judged
unfolding judged
judged-hold = refl

-- The refusal of a row, of a design, a setting and the lengths of weights, frame and places, and what it should be.
pub lengths_judged : List (ℕ × ℕ)
unfolding first row_refusals
lengths_judged =
    (first (row_refusals 1 0 4096 4096 4096), 0)
    ∷ (first (row_refusals 1 0 4096 4096 4095), 7)
    ∷ (first (row_refusals 1 0 4097 4097 0), 6)
    ∷ (first (row_refusals 1 0 4097 4096 0), 5)
    ∷ (first (row_refusals 1 1 4097 4096 0), 3)
    ∷ (first (row_refusals 0 1 4097 4096 0), 1)
    ∷ (first (row_refusals 3 16 0 0 0), 0)
    ∷ (first (row_refusals 3 17 0 0 0), 3)
    ∷ (first (row_refusals 4 15 0 0 0), 0)
    ∷ (first (row_refusals 4 16 0 0 0), 3)
    ∷ (first (row_refusals 5 15 0 0 0), 0)
    ∷ (first (row_refusals 5 16 0 0 0), 3)
    ∷ (first (row_refusals 6 15 0 0 0), 1)
    ∷ []

pub lengths_judged-hold : map (λ j. j.0) lengths_judged ≡ map (λ j. j.1) lengths_judged
unfolding lengths_judged
lengths_judged-hold = refl

-- A row whose worst residues are −2 and then 2, and one that leaves nothing.
abbrev row_with_tie : Report
row_with_tie =
    record { score = pos 16; true_sum = pos 18; error = pos 2; magnitude_sum = 78; nonzero_pairs = 4; largest_residue = 2; largest_place = 1 }

abbrev row_left_nothing : Report
row_left_nothing =
    record { score = pos 4; true_sum = pos 4; error = pos 0; magnitude_sum = 4; nonzero_pairs = 1; largest_residue = 0; largest_place = 0 }

-- Rows that are scored or refused into five places: the outcome and what the places then hold, and what both should be.
abbrev places : List ℤ
places = pos 91 ∷ pos 92 ∷ pos 93 ∷ pos 94 ∷ pos 95 ∷ []

abbrev into : ℕ → ℕ → List ℤ → List ℤ → List ℤ → Outcome Report × List ℤ
into design setting ws fs before = (row_outcome design setting ws fs before, row_written design setting ws fs before)

pub rows : List ((Outcome Report × List ℤ) × (Outcome Report × List ℤ))
unfolding row_outcome row_written
rows =
    (into 1 0 (pos 3 ∷ − 5 ∷ pos 0 ∷ []) (pos 3 ∷ pos 6 ∷ pos 7 ∷ []) places, (accepted starred_row, pos 1 ∷ − 2 ∷ pos 0 ∷ pos 94 ∷ pos 95 ∷ []))
    ∷ (into 1 0 (pos 3 ∷ − 5 ∷ pos 0 ∷ []) (pos 3 ∷ pos 6 ∷ []) places, (refused 5, places))
    ∷ (into 1 0 (pos 3 ∷ − 5 ∷ []) (pos 3 ∷ pos 6 ∷ []) (pos 91 ∷ []), (refused 7, pos 91 ∷ []))
    ∷ (into 2 0 [] [] places, (accepted empty_report, places))
    ∷ (into 1 0 (pos 3 ∷ − 5 ∷ pos 5 ∷ pos 3 ∷ []) (pos 3 ∷ pos 6 ∷ pos 6 ∷ pos 3 ∷ []) places, (accepted row_with_tie, pos 1 ∷ − 2 ∷ pos 2 ∷ pos 1 ∷ pos 95 ∷ []))
    ∷ (into 1 0 (pos 0 ∷ pos 1 ∷ []) (pos 7 ∷ pos 4 ∷ []) places, (accepted row_left_nothing, pos 0 ∷ pos 0 ∷ pos 93 ∷ pos 94 ∷ pos 95 ∷ []))
    ∷ (into 1 1 (pos 3 ∷ []) [] places, (refused 3, places))
    ∷ (into 6 99 (pos 3 ∷ []) [] places, (refused 1, places))
    ∷ []

pub rows-hold : map (λ r. r.0) rows ≡ map (λ r. r.1) rows
unfolding rows
rows-hold = refl
