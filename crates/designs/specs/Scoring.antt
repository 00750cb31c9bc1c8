-- What scoring a row gives and writes for any input (docs/SCOPE.md, "Scoring a row"). Definitions only.
use Rattle.std.specs.Prelude.{ℕ, zero, suc, not, List, [], ◌∷◌, ◌++◌, ltb, eqb, ℤ, length, drop}
use Rattle.designs.specs.Outcomes.{Outcome, Refusal, ◌when◌, first, unless_refused}
use Rattle.designs.specs.Products.{design_of, unknown_design, setting_out_of_range}
use Rattle.designs.specs.Rows.{Report, report, residues}

-- The width at which a row is scored.
abbrev pub row_width : ℕ
row_width = 16

-- The refusals of a row by the lengths of its slices.
abbrev pub lengths_differ : ℕ → ℕ → Refusal
lengths_differ weights frame = 5 when not (eqb weights frame)

abbrev pub too_many_pairs : ℕ → Refusal
too_many_pairs weights = 6 when ltb 4096 weights

abbrev pub residues_too_short : ℕ → ℕ → Refusal
residues_too_short places weights = 7 when ltb places weights

-- In order: those of the design and its setting, those of the pairs, and that of the places for the residues.
unfoldable pub design_refusals : ℕ → ℕ → List Refusal
design_refusals design setting = unknown_design design ∷ setting_out_of_range design row_width setting ∷ []

unfoldable pub pair_refusals : ℕ → ℕ → List Refusal
pair_refusals weights frame = lengths_differ weights frame ∷ too_many_pairs weights ∷ []

unfoldable pub row_refusals : ℕ → ℕ → ℕ → ℕ → ℕ → List Refusal
unfolding design_refusals pair_refusals
row_refusals design setting weights frame places =
    design_refusals design setting ++ (pair_refusals weights frame ++ (residues_too_short places weights ∷ []))

-- Those that a row by one design can meet, which judges no design.
unfoldable pub own_refusals : ℕ → ℕ → ℕ → ℕ → ℕ → List Refusal
unfolding pair_refusals
own_refusals design setting weights frame places =
    setting_out_of_range design row_width setting ∷ (pair_refusals weights frame ++ (residues_too_short places weights ∷ []))

-- `new` in the first places and what stood in the later ones, unless a refusal applies.
abbrev pub written_unless : ℕ → List ℤ → List ℤ → List ℤ
written_unless zero new before = new ++ drop (length new) before
written_unless (suc n) new before = before

module _ (design setting : ℕ) (ws fs before : List ℤ) where
  -- the number of the refusal, or 0; `before` is what the residue slice holds at the call
  unfoldable pub row_refusal : ℕ
  unfolding first row_refusals
  row_refusal = first (row_refusals design setting (length ws) (length fs) (length before))

  unfoldable pub row_outcome : Outcome Report
  unfolding row_refusal report
  row_outcome = unless_refused row_refusal (report (design_of design setting) ws fs)

  -- What the residue slice holds after the call: pair i's residue at place i, and after them what stood there; or, where the row is
  -- refused, what it held before.
  unfoldable pub row_written : List ℤ
  unfolding row_refusal residues
  row_written = written_unless row_refusal (residues (design_of design setting) ws fs) before
