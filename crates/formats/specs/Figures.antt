-- docs/SCOPE.md's figure of the format, and patterns at the ends of what is normal, by computation.
use Rattle.std.specs.Prelude.{◌≡◌, refl, Bool, true, false, List, [], ◌∷◌, map, ℕ}
use Rattle.formats.specs.Formats.{binary32, is_normal, largest_exponent, one, pattern, quiet_nan}

-- largest finite exponent field 254
pub largest : largest_exponent binary32 ≡ 254
largest = refl

-- the pattern of −2.5, whose three fields differ from 0
pub made : pattern binary32 true 128 0x20_0000 ≡ 0xc020_0000
made = refl

pub one-is : one binary32 ≡ 0x3f80_0000
one-is = refl

pub quiet_nan-is : quiet_nan binary32 ≡ 0x7fc0_0000
quiet_nan-is = refl

-- the largest subnormal and the smallest normal number, the largest finite number and the infinity, each beside whether it is normal
pub figures : List (ℕ × Bool)
figures = (0x007f_ffff, false) ∷ (0x0080_0000, true) ∷ (0x7f7f_ffff, true) ∷ (0x7f80_0000, false) ∷ []

pub figures-hold : map (λ g. is_normal binary32 g.0) figures ≡ map (λ g. g.1) figures
unfolding figures
figures-hold = refl
