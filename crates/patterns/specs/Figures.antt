-- Patterns of a few integers, and what powers leave of them, by computation.
use Rattle.std.specs.Prelude.{◌≡◌, ℕ, ◌^◌, List, [], ◌∷◌, map, ℤ, pos, neg_ℤ, refl}
use Rattle.designs.specs.Codes.{code}
use Rattle.patterns.specs.Patterns.{clamped, less_power, pattern_of}

abbrev − : ℕ → ℤ
− n = neg_ℤ (pos n)

-- 0, 1, −5 and both ends of 16 bits, each beside its pattern
pub patterns : List (ℤ × ℕ)
patterns = (pos 0, 0) ∷ (pos 1, 0x3f80_0000) ∷ (− 5, 0xc0a0_0000) ∷ (pos 32767, 0x46ff_fe00) ∷ (− 32768, 0xc700_0000) ∷ []

pub patterns-hold : map (λ p. pattern_of p.0) patterns ≡ map (λ p. p.1) patterns
unfolding pattern_of patterns
patterns-hold = refl

-- what the nearest power leaves: a tie goes up
pub offsets : List (ℤ × ℤ)
offsets = (pos 0, pos 0) ∷ (pos 5, pos 1) ∷ (pos 6, − 2) ∷ (− 6, pos 2) ∷ (pos 7, − 1) ∷ (− 32768, pos 0) ∷ []

pub offsets-hold : map (λ o. less_power (2 ^ 22) o.0) offsets ≡ map (λ o. o.1) offsets
unfolding code offsets
offsets-hold = refl

pub clamped-hold : map clamped (0 ∷ 1 ∷ 15 ∷ 16 ∷ []) ≡ 1 ∷ 1 ∷ 15 ∷ 15 ∷ []
clamped-hold = refl
