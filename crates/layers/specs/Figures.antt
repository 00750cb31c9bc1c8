-- The layer of docs/SCOPE.md, "Figures to hold the designs to", by each design, layers that write nothing, and the order of the refusals with
-- each limit from both sides (docs/SCOPE.md, "Scoring a layer"), by computation.
use Rattle.std.specs.Prelude.{◌≡◌, refl, List, [], ◌∷◌, map, ℕ, ℤ, pos, neg_ℤ}
use Rattle.designs.specs.Outcomes.{Outcome, accepted, refused, first}
use Rattle.layers.specs.Layers.{layer_outcome, layer_refusals, layer_written}

abbrev − : ℕ → ℤ
− n = neg_ℤ (pos n)

-- three rows of two columns, a frame, and places for the scores
abbrev store : List ℤ
store = pos 3 ∷ − 5 ∷ pos 0 ∷ pos 7 ∷ pos 5 ∷ pos 6 ∷ []

abbrev frame : List ℤ
frame = pos 3 ∷ pos 6 ∷ []

abbrev places : List ℤ
places = pos 91 ∷ pos 92 ∷ pos 93 ∷ pos 94 ∷ pos 95 ∷ []

-- seventeen rows of one column
abbrev many : List ℤ
many =
    pos 1 ∷ pos 2 ∷ pos 3 ∷ pos 4 ∷ pos 5 ∷ pos 6 ∷ pos 7 ∷ pos 8 ∷ pos 9 ∷ pos 10 ∷ pos 11 ∷ pos 12 ∷ pos 13 ∷ pos 14 ∷ pos 15 ∷ pos 16 ∷ − 17 ∷ []

abbrev doubled : List ℤ
doubled =
    pos 2 ∷ pos 4 ∷ pos 6 ∷ pos 8 ∷ pos 10 ∷ pos 12 ∷ pos 14 ∷ pos 16 ∷ pos 18 ∷ pos 20 ∷ pos 22 ∷ pos 24 ∷ pos 26 ∷ pos 28 ∷ pos 30 ∷ pos 32 ∷ − 34 ∷ []

-- what a layer gives, and what the places then hold
abbrev into : ℕ → ℕ → List ℤ → ℕ → List ℤ → List ℤ → Outcome ℕ × List ℤ
into design setting ws columns fs before = (layer_outcome design setting ws columns fs before, layer_written design setting ws columns fs before)

-- and what both should be
pub layers : List ((Outcome ℕ × List ℤ) × (Outcome ℕ × List ℤ))
unfolding layer_outcome layer_written
layers =
    (into 1 0 store 2 frame places, (accepted 3, − 20 ∷ pos 40 ∷ pos 46 ∷ pos 94 ∷ pos 95 ∷ []))
    ∷ (into 2 0 store 2 frame places, (accepted 3, − 24 ∷ pos 40 ∷ pos 48 ∷ pos 94 ∷ pos 95 ∷ []))
    ∷ (into 3 2 store 2 frame places, (accepted 3, − 21 ∷ pos 42 ∷ pos 51 ∷ pos 94 ∷ pos 95 ∷ []))
    ∷ (into 4 4 store 2 frame places, (accepted 3, − 21 ∷ pos 42 ∷ pos 48 ∷ pos 94 ∷ pos 95 ∷ []))
    ∷ (into 5 4 store 2 frame places, (accepted 3, − 23 ∷ pos 42 ∷ pos 50 ∷ pos 94 ∷ pos 95 ∷ []))
    ∷ (into 1 0 many 1 (pos 2 ∷ []) many, (accepted 17, doubled))
    ∷ (into 1 0 [] 2 frame places, (accepted 0, places))
    ∷ (into 1 0 [] 2 frame [], (accepted 0, []))
    ∷ (into 1 0 store 2 frame (pos 91 ∷ pos 92 ∷ []), (refused 21, pos 91 ∷ pos 92 ∷ []))
    ∷ (into 1 0 store 3 frame places, (refused 5, places))
    ∷ (into 1 0 store 4 frame places, (refused 13, places))
    ∷ (into 1 0 [] 0 [] places, (refused 12, places))
    ∷ (into 1 1 store 2 frame places, (refused 3, places))
    ∷ (into 6 0 store 2 frame places, (refused 1, places))
    ∷ []

pub layers-hold : map (λ l. l.0) layers ≡ map (λ l. l.1) layers
unfolding layers
layers-hold = refl

-- The refusal of a layer, of a design, a setting, the length of the store, its columns, and the lengths of frame and places, and what it
-- should be.
pub judged : List (ℕ × ℕ)
unfolding first layer_refusals
judged =
    (first (layer_refusals 1 0 6 2 2 3), 0)
    ∷ (first (layer_refusals 1 0 6 2 2 2), 21)
    ∷ (first (layer_refusals 1 0 34 2 2 17), 0)
    ∷ (first (layer_refusals 1 0 34 2 2 16), 21)
    ∷ (first (layer_refusals 1 0 6 2 1 3), 5)
    ∷ (first (layer_refusals 1 0 6 2 3 3), 5)
    ∷ (first (layer_refusals 1 0 6 2 3 2), 5)
    ∷ (first (layer_refusals 1 0 7 2 2 3), 13)
    ∷ (first (layer_refusals 1 0 7 2 3 2), 13)
    ∷ (first (layer_refusals 1 0 8192 4096 4096 2), 0)
    ∷ (first (layer_refusals 1 0 8194 4097 4097 2), 12)
    ∷ (first (layer_refusals 1 0 8195 4097 2 1), 12)
    ∷ (first (layer_refusals 1 0 6 0 0 0), 12)
    ∷ (first (layer_refusals 1 1 8195 4097 2 1), 3)
    ∷ (first (layer_refusals 0 1 8195 4097 2 1), 1)
    ∷ (first (layer_refusals 6 1 8195 4097 2 1), 1)
    ∷ (first (layer_refusals 1 0 0 2 2 0), 0)
    ∷ (first (layer_refusals 1 0 0 2 3 0), 5)
    ∷ (first (layer_refusals 1 0 0 0 0 0), 12)
    ∷ (first (layer_refusals 1 0 0 4097 4097 0), 12)
    ∷ (first (layer_refusals 1 1 0 4097 4097 0), 3)
    ∷ (first (layer_refusals 3 16 0 1 1 0), 0)
    ∷ (first (layer_refusals 3 17 0 1 1 0), 3)
    ∷ (first (layer_refusals 4 15 0 1 1 0), 0)
    ∷ (first (layer_refusals 4 16 0 1 1 0), 3)
    ∷ (first (layer_refusals 5 15 0 1 1 0), 0)
    ∷ (first (layer_refusals 5 16 0 1 1 0), 3)
    ∷ []

pub judged-hold : map (λ j. j.0) judged ≡ map (λ j. j.1) judged
unfolding judged
judged-hold = refl
