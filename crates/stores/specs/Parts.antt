-- Parts of a weight store, lent as signed 16-bit numbers (docs/SCOPE.md, "Finding a row in a weight store"). Definitions only.
use Rattle.std.specs.Prelude.{◌≡◌, List, [], ℕ, ◌+◌, ◌*◌, ◌<◌, ℤ, length, take, drop}
use Rattle.std.specs.Borrow.{Bor}
use Rattle.stores.specs.Stores.{store_refusal, row_start, row_count}

-- A part is the store's own memory and no copy: it lies in the store's block, at the place of element `start` (an element takes two
-- bytes), and its elements are the n that stand there.
pub record Part (store part : Bor (List ℤ)) (start n : ℕ) : Type 0 where
  pub block : part.ref_ptr.0 ≡ store.ref_ptr.0
  pub place : part.ref_ptr.1 ≡ start * 2 + store.ref_ptr.1
  pub elements : part.now ≡ take n (drop start store.now)
  pub count : length part.now ≡ n

-- What is handed back: of an accepted row the part where it lies, which has at least one element; of a refused row, and of no other,
-- a part without elements.
pub record RowPart (store part : Bor (List ℤ)) (columns row : ℕ) : Type 0 where
  pub lies : Part store part (row_start (length store.now) columns row) (row_count (length store.now) columns row)
  pub accepted : store_refusal (length store.now) columns row ≡ 0 → 0 < length part.now
  pub refused : (store_refusal (length store.now) columns row ≡ 0 → ⊥) → part.now ≡ []
