-- Rows that are scored together against one frame. A place past the end of a list counts as 0. Definitions only.
use Rattle.std.specs.Prelude.{◌≡◌, ℕ, zero, suc, ◌+◌, ◌*◌, ◌^◌, ◌<◌, ◌≤◌, min, List, length, ℤ, pos, ◌+ℤ◌, unsigned_abs}
use Rattle.designs.specs.Designs.{Design}
use Rattle.designs.specs.Signs.{signed_product}
use Rattle.patterns.specs.Blocks.{Done, place}
use Rattle.blocks.specs.Counts.{total}
use Rattle.blocks.specs.Residues.{of_pair}

-- the product of number k of a frame and the weight at its place in the row that begins at `start`
abbrev pub product_at : Design → List ℤ → ℕ → List ℤ → ℕ → ℤ
product_at D ws start fs k = signed_product D (place ws (start + k)) (place fs k)

-- the sum of the products of weights and a part of a frame
pub record Summed (D : Design) (ws part : List ℤ) (r : ℤ) : Type 0 where
  pub is : r ≡ total (of_pair (signed_product D) ws part) (length part)
  pub small : unsigned_abs r ≤ length part * 2 ^ 33

-- What a place counts for where `from` columns are done: where none are, for nothing, whatever stands there.
abbrev pub started : ℕ → ℤ → ℤ
started zero z = pos 0
started (suc from) z = z

-- every place has room for a strip more
pub record Room (from : ℕ) (scores : List ℤ) : Type 0 where
  pub at : (r : ℕ) → r < length scores → unsigned_abs (started from (place scores r)) ≤ 2 ^ 60

-- A part of a frame against the same columns, from `from` on, of the row that each place is for: the place gets what it counted for with the
-- sum of the products, which is small.
pub record Stripped (D : Design) (columns from : ℕ) (ws part before after : List ℤ) : Type 0 where
  pub done : Done (λ r. started from (place before r) +ℤ total (product_at D ws (r * columns + from) part) (length part)) (length before) before after
  pub small : (r : ℕ) → r < length before → unsigned_abs (place after r) ≤ unsigned_abs (started from (place before r)) + length part * 2 ^ 33

-- how many numbers of a frame are taken
abbrev pub framed : List ℤ → ℕ
framed fs = min (length fs) 4096

-- The promise of rows that are scored together: place r gets the score of the weights that begin r frames after the first. A frame
-- without numbers leaves the places as they were.
pub record Scored (D : Design) (ws fs before after : List ℤ) : Type 0 where
  pub size : length after ≡ length before
  pub score : 0 < length fs → (r : ℕ) → r < length before → place after r ≡ total (product_at D ws (r * length fs) fs) (framed fs)
  pub none : length fs ≡ 0 → after ≡ before
