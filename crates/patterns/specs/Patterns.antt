-- Patterns of binary32 as logarithms. Definitions only.
use Rattle.std.specs.Prelude.{◌≡◌, ℕ, zero, suc, ◌+◌, ◌-◌, ◌*◌, ◌/◌, ◌%◌, ◌^◌, ◌<◌, ◌≤◌, min, max, Bool, true, false, cond, ℤ, pos, negsuc, ◌-ℤ◌, ◌==◌, from_bits, nat_lt, unsigned_abs}
use Rattle.std.specs.Float.{binary32, binary64}
use Rattle.std.specs.Float.Ieee.{of_int}
use Rattle.designs.specs.Codes.{code}
use Rattle.designs.specs.Designs.{total_below, unless_zero}
use Rattle.designs.specs.Signs.{negative, with_sign}

-- The pattern with a sign and the logarithm c / 2^23: with c = 2^23 × Q + R the exponent field is 127 + Q and the fraction field R, and
-- the number is (2^23 + R) × 2^Q / 2^23.
abbrev pub log_pattern : Bool → ℕ → ℕ
log_pattern minus c = cond minus (2 ^ 31) 0 + (127 * 2 ^ 23 + c)

-- The pattern of an integer of at most 24 bits.
unfoldable pub pattern_of : ℤ → ℕ
unfolding code
pattern_of (pos zero) = 0
pattern_of (pos (suc n)) = log_pattern false (code 23 (suc n))
pattern_of (negsuc n) = log_pattern true (code 23 (suc n))

-- A pattern stands for an integer that an i32 holds: read as a binary64, it is the float of that integer.
pub record Stands (p : ℕ) (z : ℤ) : Type 0 where
  pub float : from_bits binary32 p ≡ of_int binary64 z
  pub small : unsigned_abs z < 2 ^ 31

-- p, or 0 where z is 0.
abbrev pub masked_by : ℤ → ℕ → ℕ
masked_by z p = unless_zero (unsigned_abs z) 1 p

-- The pattern with the sign of an integer and the logarithm that h gives for its size, and 16 more in the exponent field; 0 for 0. With the
-- integer's own logarithm it is the pattern of the integer times 2^16.
unfoldable pub raised_by : (ℕ → ℕ) → ℤ → ℕ
raised_by h z = masked_by z (log_pattern (negative z) (h (unsigned_abs z) + 16 * 2 ^ 23))

abbrev pub raised_of : ℤ → ℕ
raised_of z = raised_by (code 23) z

-- Masked by z, p stands for an integer y, and the difference fits an i32.
pub record Less (z : ℤ) (p : ℕ) (y : ℤ) : Type 0 where
  pub stands : Stands (masked_by z p) y
  pub small : unsigned_abs (z -ℤ y) < 2 ^ 31

-- The power of two that the exponent field of a number's pattern stands for, once h is added to the pattern; 0 for 0.
abbrev pub field_power : ℕ → ℕ → ℕ
field_power h zero = 0
field_power h (suc n) = 2 ^ ((code 23 (suc n) + h) / 2 ^ 23)

-- That power with the sign of an integer, and the integer less it.
abbrev pub power_of : ℕ → ℤ → ℤ
power_of h z = with_sign (negative z) (field_power h (unsigned_abs z))

abbrev pub less_power : ℕ → ℤ → ℤ
less_power h z = z -ℤ power_of h z

-- The kept bits that a row takes: at least 1 and at most 15. A setting outside acts as the nearest of these.
abbrev pub clamped : ℕ → ℕ
clamped t = max 1 (min t 15)

-- A sum of two patterns with t kept bits, with 1 at the last of them where the number that it stands for is at least 2^t.
abbrev pub carried_of : ℕ → ℕ → ℕ
carried_of t sum = (sum + cond (nat_lt (sum % 2 ^ 31) (127 * 2 ^ 23 + t * 2 ^ 23)) 0 (2 ^ (23 - t))) % 2 ^ 32

-- The sizes of two numbers whose true product is z.
pub record Sizes (z : ℤ) (A B : ℕ) : Type 0 where
  pub first : A ≤ 2 ^ 15
  pub second : B ≤ 2 ^ 15
  pub truth : unsigned_abs z ≡ A * B

-- Whether S < 2^t; of a pair with a zero, yes.
unfoldable pub is_low : ℕ → ℕ → ℕ → Bool
is_low t A B = cond (A * B == 0) true (total_below t A B)
