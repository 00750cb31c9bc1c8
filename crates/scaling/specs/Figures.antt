-- Worked examples of handing out a score, of the meaning itself, in one list with one proof.
use Rattle.std.specs.Prelude.{◌≡◌, refl, List, [], ◌∷◌, map, ℕ, ◌+◌, ◌-◌, ◌^◌, true, false, ℤ, pos, neg_ℤ, Float}
use Rattle.std.specs.Float.{fin}
use Rattle.designs.specs.Outcomes.{Outcome, accepted, refused}
use Rattle.scaling.specs.Quotient.{plus_zero}
use Rattle.scaling.specs.Scaling.{scaled_outcome}
use Rattle.scaling.specs.declared.Quotients.{Quotients}

abbrev − : ℕ → ℤ
− n = neg_ℤ (pos n)

abbrev values : Float → Float → Outcome Quotients
values score magnitude_sum = accepted (record { score = score; magnitude_sum = magnitude_sum })

-- An outcome, and what it should be. −20 / 2^3 is −2.5, which is −5 × 2^−1; the quotient of 0 has a plus sign; sizes of 2^53 and a
-- shift of 40 are accepted; one more in size gives 16, and so does the lowest i64; a shift above 40 gives 15 whatever the sizes.
pub figures : List (Outcome Quotients × Outcome Quotients)
unfolding scaled_outcome
figures =
    (scaled_outcome (− 20) 39 3, values (fin true 5 (− 1)) (fin false 39 (− 3)))
    ∷ (scaled_outcome (pos 0) 0 0, values plus_zero plus_zero)
    ∷ (scaled_outcome (pos 0) 1 40, values plus_zero (fin false 1 (− 40)))
    ∷ (scaled_outcome (pos (2 ^ 53)) (2 ^ 53) 40, values (fin false 1 (pos 13)) (fin false 1 (pos 13)))
    ∷ (scaled_outcome (− (2 ^ 53)) (2 ^ 53 - 1) 0, values (fin true 1 (pos 53)) (fin false (2 ^ 53 - 1) (pos 0)))
    ∷ (scaled_outcome (pos (2 ^ 53 + 1)) 0 40, refused 16)
    ∷ (scaled_outcome (− (2 ^ 53 + 1)) 0 40, refused 16)
    ∷ (scaled_outcome (pos 0) (2 ^ 53 + 1) 40, refused 16)
    ∷ (scaled_outcome (− (2 ^ 63)) 0 0, refused 16)
    ∷ (scaled_outcome (pos 0) 0 41, refused 15)
    ∷ (scaled_outcome (− (2 ^ 63)) (2 ^ 53 + 1) 41, refused 15)
    ∷ []

pub figures-hold : map (λ f. f.0) figures ≡ map (λ f. f.1) figures
unfolding figures
figures-hold = refl
