-- Which rows are found, on either side of each limit of docs/SCOPE.md, "Finding a row in a weight store", in one list with one proof.
use Rattle.std.specs.Prelude.{◌≡◌, refl, List, [], ◌∷◌, map, ℕ}
use Rattle.stores.specs.Stores.{store_refusal, row_start, row_count}

-- What is found of a row: the refusal number, or 0; where the part begins; how many elements it has.
pub record Finding : Type 0 where
  pub refusal : ℕ
  pub start : ℕ
  pub count : ℕ

abbrev pub finding : ℕ → ℕ → ℕ → Finding
finding length columns row =
    record { refusal = store_refusal length columns row; start = row_start length columns row; count = row_count length columns row }

abbrev at : ℕ → ℕ → Finding
at start count = record { refusal = 0; start = start; count = count }

abbrev no : ℕ → Finding
no n = record { refusal = n; start = 0; count = 0 }

-- a finding, of a length, columns and a row, and what it should be
pub figures : List (Finding × Finding)
figures =
    (finding 12 4 0, at 0 4)
    ∷ (finding 12 4 2, at 8 4)
    ∷ (finding 12 4 3, no 14)
    ∷ (finding 12 5 2, no 13)
    ∷ (finding 13 4 2, no 13)
    ∷ (finding 13 4 3, no 13)
    ∷ (finding 13 13 0, at 0 13)
    ∷ (finding 12 0 3, no 12)
    ∷ (finding 8192 4096 1, at 4096 4096)
    ∷ (finding 8192 4096 2, no 14)
    ∷ (finding 4097 4097 0, no 12)
    ∷ (finding 13 4097 3, no 12)
    ∷ (finding 0 0 0, no 12)
    ∷ (finding 0 4 0, no 14)
    ∷ (finding 0 4096 2, no 14)
    ∷ []

pub figures-hold : map (λ f. f.0) figures ≡ map (λ f. f.1) figures
unfolding figures store_refusal
figures-hold = refl
