-- What the first record of an input is, on either side of each test of docs/SCOPE.md, "Reading records", in one list with one proof.
use Rattle.std.specs.Prelude.{◌≡◌, refl, List, [], ◌∷◌, map, ℕ, ℤ, pos, neg_ℤ}
use Rattle.designs.specs.Outcomes.{Outcome, accepted, refused}
use Rattle.records.specs.Frames.{Frame, frame}
use Rattle.records.specs.Records.{record_of}

-- The frame of an input's first record, and its outcome.
unfoldable pub meaning : List ℕ → Frame × Outcome ℤ
unfolding record_of
meaning s = (frame s, (record_of s).outcome)

-- A record of a kind that takes so many bytes and passes the reading; and one that the reading refuses.
abbrev whole : ℕ → ℕ → Outcome ℤ → Frame × Outcome ℤ
whole kind used o = (record { kind = kind; refusal = 0; used = used }, o)

abbrev no : ℕ → ℕ → ℕ → Frame × Outcome ℤ
no kind used n = (record { kind = kind; refusal = n; used = used }, refused n)

-- an input, and what its first record is
pub figures : List (List ℕ × (Frame × Outcome ℤ))
figures =
    (1 ∷ 1 ∷ 0 ∷ 3 ∷ 0 ∷ 3 ∷ 0 ∷ [], whole 1 7 (accepted (pos 8)))
    ∷ (1 ∷ 2 ∷ 0 ∷ 251 ∷ 255 ∷ 6 ∷ 0 ∷ 7 ∷ 7 ∷ [], whole 1 7 (accepted (neg_ℤ (pos 32))))
    ∷ (1 ∷ 1 ∷ 0 ∷ 0 ∷ 128 ∷ 255 ∷ 127 ∷ [], whole 1 7 (accepted (neg_ℤ (pos 1073709056))))
    ∷ (1 ∷ 9 ∷ 9 ∷ 1 ∷ 0 ∷ 1 ∷ 0 ∷ [], whole 1 7 (refused 1))
    ∷ (1 ∷ 1 ∷ 1 ∷ 1 ∷ 0 ∷ 1 ∷ 0 ∷ [], whole 1 7 (refused 3))
    ∷ (1 ∷ 1 ∷ 0 ∷ 3 ∷ 0 ∷ 3 ∷ [], no 1 6 18)
    ∷ (1 ∷ [], no 1 1 18)
    ∷ (2 ∷ 0 ∷ 0 ∷ 192 ∷ 63 ∷ 0 ∷ 0 ∷ 192 ∷ 63 ∷ [], whole 2 9 (accepted (pos 1073741824)))
    ∷ (2 ∷ 0 ∷ 0 ∷ 128 ∷ 127 ∷ 1 ∷ 0 ∷ 0 ∷ 0 ∷ [], whole 2 9 (refused 8))
    ∷ (2 ∷ 0 ∷ 0 ∷ 192 ∷ 63 ∷ 0 ∷ 0 ∷ 192 ∷ [], no 2 8 18)
    ∷ (3 ∷ 255 ∷ 255 ∷ [], whole 3 3 (accepted (pos 65024)))
    ∷ (3 ∷ 0 ∷ 255 ∷ 3 ∷ [], whole 3 3 (accepted (pos 0)))
    ∷ (3 ∷ 255 ∷ [], no 3 2 18)
    ∷ (0 ∷ 1 ∷ 1 ∷ [], no 0 3 17)
    ∷ (4 ∷ [], no 4 1 17)
    ∷ (255 ∷ 3 ∷ [], no 255 2 17)
    ∷ ([], no 0 0 17)
    ∷ []

pub figures-hold : map (λ f. meaning f.0) figures ≡ map (λ f. f.1) figures
unfolding meaning figures
figures-hold = refl
