-- docs/SCOPE.md's singles, its record of kind 2, and the order of the rules where several apply, in one list with one proof, of the
-- meaning itself.
use Rattle.std.specs.Prelude.{◌≡◌, refl, List, [], ◌∷◌, map, ℕ}
use Rattle.designs.specs.Outcomes.{Outcome, accepted, refused}
use Rattle.singles.specs.Singles.{outcome, product_fields, single_outcome}

-- an outcome, and what it should be
pub figures : List (Outcome ℕ × Outcome ℕ)
unfolding single_outcome product_fields outcome
figures =
    (single_outcome 0x3fa0_0000 0x3fa0_0000, accepted 0x3fc0_0000)
    ∷ (single_outcome 0x00c0_0000 0x3f40_0000, accepted 0x0080_0000)
    ∷ (single_outcome 0x0080_0000 0x3f00_0000, refused 11)
    ∷ (single_outcome 0x7f00_0000 0x4000_0000, refused 10)
    -- 1.5 × 1.5, where the fractions carry; then with one sign minus, and with two
    ∷ (single_outcome 0x3fc0_0000 0x3fc0_0000, accepted 0x4000_0000)
    ∷ (single_outcome 0xbfc0_0000 0x3fc0_0000, accepted 0xc000_0000)
    ∷ (single_outcome 0xbfc0_0000 0xbfc0_0000, accepted 0x4000_0000)
    -- −0 × 1.5, −0 × −0, and 0 times the largest finite number
    ∷ (single_outcome 0x8000_0000 0x3fc0_0000, accepted 0x8000_0000)
    ∷ (single_outcome 0x8000_0000 0x8000_0000, accepted 0)
    ∷ (single_outcome 0 0x7f7f_ffff, accepted 0)
    -- 8 before 9, and both before the zero rule
    ∷ (single_outcome 0x0000_0001 0x7f80_0000, refused 8)
    ∷ (single_outcome 0 0x7fc0_0000, refused 8)
    ∷ (single_outcome 0 0x807f_ffff, refused 9)
    ∷ []

pub figures-hold : map (λ g. g.0) figures ≡ map (λ g. g.1) figures
unfolding figures
figures-hold = refl
