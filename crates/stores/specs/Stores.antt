-- Which rows a weight store has, and where each lies (docs/SCOPE.md, "Finding a row in a weight store"): row 0 at its start, and each
-- next row right after the one before it, all of one length, the columns. Definitions only.
use Rattle.std.specs.Prelude.{ℕ, ◌*◌, ◌/◌, ◌%◌, not, ◌||◌, cond, List, [], ◌∷◌, ◌++◌, eqb, ltb}
use Rattle.designs.specs.Outcomes.{Refusal, ◌when◌, first}
use Rattle.refusals.specs.Refusals.{number}
use Rattle.refusals.specs.declared.Refusal.TheVariants as R

-- The refusals of a row of a store.
abbrev pub columns_out_of_range : ℕ → Refusal
columns_out_of_range columns = number R.ColumnsOutOfRange when (eqb columns 0 || ltb 4096 columns)

abbrev pub uneven_store : ℕ → ℕ → Refusal
uneven_store length columns = number R.UnevenStore when not (eqb (length % columns) 0)

abbrev pub no_such_row : ℕ → ℕ → ℕ → Refusal
no_such_row length columns row = number R.NoSuchRow when not (ltb row (length / columns))

-- In order: those of the store's shape, whatever is asked of it, and that of the row.
abbrev pub shape_refusals : ℕ → ℕ → List Refusal
shape_refusals length columns = columns_out_of_range columns ∷ uneven_store length columns ∷ []

abbrev pub store_refusals : ℕ → ℕ → ℕ → List Refusal
store_refusals length columns row = shape_refusals length columns ++ (no_such_row length columns row ∷ [])

-- The number of the refusal, or 0.
unfoldable pub store_refusal : ℕ → ℕ → ℕ → ℕ
unfolding first
store_refusal length columns row = first (store_refusals length columns row)

-- Where the part that is handed back begins, and how many elements it has: the row's, or 0 and none where the row is refused.
abbrev pub row_start : ℕ → ℕ → ℕ → ℕ
row_start length columns row = cond (eqb (store_refusal length columns row) 0) (row * columns) 0

abbrev pub row_count : ℕ → ℕ → ℕ → ℕ
row_count length columns row = cond (eqb (store_refusal length columns row) 0) columns 0
