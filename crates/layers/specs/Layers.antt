-- What scoring a layer gives and writes for any input (docs/SCOPE.md, "Scoring a layer"). Definitions only.
use Rattle.std.specs.Prelude.{ℕ, zero, suc, ◌*◌, ◌/◌, List, [], ◌∷◌, ◌++◌, ltb, ℤ, drop, length, take}
use Rattle.designs.specs.Designs.{Design}
use Rattle.designs.specs.Outcomes.{Outcome, Refusal, ◌when◌, first, unless_refused}
use Rattle.designs.specs.Products.{design_of}
use Rattle.designs.specs.Rows.{report}
use Rattle.designs.specs.Scoring.{design_refusals, lengths_differ, written_unless}
use Rattle.refusals.specs.Refusals.{number}
use Rattle.refusals.specs.declared.Refusal.TheVariants as R
use Rattle.stores.specs.Stores.{shape_refusals}

-- The refusal of a layer by the places for its scores.
abbrev pub scores_too_short : ℕ → ℕ → Refusal
scores_too_short places rows = number R.ScoresTooShort when ltb places rows

-- In order: those of the design and its setting, those of the store's shape, that of the frame, and that of the places.
unfoldable pub layer_refusals : ℕ → ℕ → ℕ → ℕ → ℕ → ℕ → List Refusal
unfolding design_refusals
layer_refusals design setting length columns frame places =
    design_refusals design setting ++ (shape_refusals length columns ++ (lengths_differ columns frame ∷ scores_too_short places (length / columns) ∷ []))

-- Row r of a store, and its score alone.
abbrev pub row_of : List ℤ → ℕ → ℕ → List ℤ
row_of store columns r = take columns (drop (r * columns) store)

abbrev pub score_of : Design → List ℤ → ℕ → List ℤ → ℕ → ℤ
score_of D store columns fs r = (report D (row_of store columns r) fs).score

-- The scores of n rows, from row r on.
unfoldable pub scores_from : Design → List ℤ → ℕ → List ℤ → ℕ → ℕ → List ℤ
unfolding report
scores_from D store columns fs r zero = []
scores_from D store columns fs r (suc n) = score_of D store columns fs r ∷ scores_from D store columns fs (suc r) n

module _ (design setting : ℕ) (store : List ℤ) (columns : ℕ) (fs before : List ℤ) where
  abbrev pub rows : ℕ
  rows = length store / columns

  -- the number of the refusal, or 0; `before` is what the slice of scores holds at the call
  unfoldable pub layer_refusal : ℕ
  unfolding first layer_refusals
  layer_refusal = first (layer_refusals design setting (length store) columns (length fs) (length before))

  -- the number of rows is handed back
  unfoldable pub layer_outcome : Outcome ℕ
  unfolding layer_refusal
  layer_outcome = unless_refused layer_refusal rows

  -- What the slice of scores holds after the call: row r's score at place r, and after them what stood there; or, where the layer is
  -- refused, what it held before.
  unfoldable pub layer_written : List ℤ
  unfolding layer_refusal scores_from
  layer_written = written_unless layer_refusal (scores_from (design_of design setting) store columns fs 0 rows) before
