-- Binary formats and the fields of their patterns (docs/SCOPE.md, "Single-precision products"). No width stands in them.
-- Definitions only.
use Rattle.std.specs.Prelude.{ℕ, ◌+◌, ◌-◌, ◌*◌, ◌/◌, ◌%◌, ◌^◌, Bool, false, not, ◌&&◌, cond, leb, ltb, eqb}

-- A pattern is a sign bit, then the exponent field, then the fraction field.
pub record Format : Type 0 where
  pub exponent_bits : ℕ
  pub fraction_bits : ℕ
  pub bias : ℕ

-- IEEE 754 binary32. Its largest finite exponent field is then 254 (`Figures.largest`).
abbrev pub binary32 : Format
binary32 = record { exponent_bits = 8; fraction_bits = 23; bias = 127 }

module _ (f : Format) where
  -- The next exponent field, of ones alone, is that of the infinities and the NaNs.
  abbrev pub largest_exponent : ℕ
  largest_exponent = 2 ^ f.exponent_bits - 2

  -- the weight of the hidden one, above every fraction field
  abbrev pub hidden : ℕ
  hidden = 2 ^ f.fraction_bits

  abbrev pub is_minus : ℕ → Bool
  is_minus x = eqb (x / 2 ^ (f.exponent_bits + f.fraction_bits)) 1

  abbrev pub exponent_field : ℕ → ℕ
  exponent_field x = x / hidden % 2 ^ f.exponent_bits

  abbrev pub fraction_field : ℕ → ℕ
  fraction_field x = x % hidden

  -- the pattern with a sign and these fields
  abbrev pub pattern : Bool → ℕ → ℕ → ℕ
  pattern minus exponent fraction = (cond minus 1 0 * 2 ^ f.exponent_bits + exponent) * hidden + fraction

  -- neither infinite nor NaN
  abbrev pub is_finite : ℕ → Bool
  is_finite x = leb (exponent_field x) largest_exponent

  -- below every number with the hidden one, and not zero
  abbrev pub is_subnormal : ℕ → Bool
  is_subnormal x = eqb (exponent_field x) 0 && not (eqb (fraction_field x) 0)

  -- zero, with either sign
  abbrev pub is_zero : ℕ → Bool
  is_zero x = eqb (exponent_field x) 0 && eqb (fraction_field x) 0

  -- finite, and neither zero nor subnormal
  abbrev pub is_normal : ℕ → Bool
  is_normal x = ltb 0 (exponent_field x) && is_finite x

  -- 1, whose exponent field is the bias
  abbrev pub one : ℕ
  one = pattern false f.bias 0

  -- the NaN that stands for every other: an exponent field of ones, and of the fraction field the highest bit
  abbrev pub quiet_nan : ℕ
  quiet_nan = pattern false (largest_exponent + 1) (2 ^ (f.fraction_bits - 1))
