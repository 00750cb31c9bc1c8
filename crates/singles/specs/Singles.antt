-- What the product of two patterns gives for any input (docs/SCOPE.md, "Single product"). Definitions only.
use Rattle.std.specs.Prelude.{ℕ, ◌+◌, ◌-◌, Bool, not, ◌&&◌, ◌||◌, cond, List, [], ◌∷◌, ltb}
use Rattle.std.specs.Float.Ieee.{unlike}
use Rattle.designs.specs.Outcomes.{Outcome, accepted, Refusal, ◌when◌, first, otherwise, unless_refused}
use Rattle.refusals.specs.Refusals.{number}
use Rattle.refusals.specs.declared.Refusal.TheVariants as R
use Rattle.formats.specs.Formats.{Format, binary32, exponent_field, fraction_field, hidden, is_finite, is_minus, is_subnormal, is_zero, largest_exponent, pattern}

-- The exponent field and the fraction field of a result.
pub record Fields : Type 0 where
  pub exponent : ℕ
  pub fraction : ℕ

module _ (f : Format) where
  -- The result's fields, from the sums E + F of the exponent fields and e + f of the fraction fields: where e + f < 2^23, E + F − 127
  -- and e + f; else the fractions carry, E + F − 126 and e + f − 2^23. A field below 0 stands as 0, which is below 1 too.
  abbrev pub carried : ℕ → ℕ → Fields
  carried exponents fractions =
      cond (ltb fractions (hidden f))
      (record { exponent = exponents - f.bias; fraction = fractions })
      (record { exponent = exponents + 1 - f.bias; fraction = fractions - hidden f })

  unfoldable pub product_fields : ℕ → ℕ → Fields
  product_fields a b = carried (exponent_field f a + exponent_field f b) (fraction_field f a + fraction_field f b)

  -- The sign of a product, also of a zero: minus where the operands' signs differ.
  abbrev pub sign_of : ℕ → ℕ → Bool
  sign_of a b = unlike (is_minus f a) (is_minus f b)

  -- The refusals of a product: those of its operands, and those of its result by the exponent field that it would have.
  abbrev pub not_finite : ℕ → ℕ → Refusal
  not_finite a b = number R.NotFinite when not (is_finite f a && is_finite f b)

  abbrev pub subnormal : ℕ → ℕ → Refusal
  subnormal a b = number R.Subnormal when (is_subnormal f a || is_subnormal f b)

  abbrev pub exponent_too_large : ℕ → Refusal
  exponent_too_large E = number R.ExponentTooLarge when ltb (largest_exponent f) E

  abbrev pub exponent_too_small : ℕ → Refusal
  exponent_too_small E = number R.ExponentTooSmall when ltb E 1

  -- In order.
  unfoldable pub operand_refusals : ℕ → ℕ → List Refusal
  operand_refusals a b = not_finite a b ∷ subnormal a b ∷ []

  unfoldable pub result_refusals : ℕ → List Refusal
  result_refusals E = exponent_too_large E ∷ exponent_too_small E ∷ []

  -- The outcome of a result by its sign and its fields.
  unfoldable pub result_outcome : Bool → Fields → Outcome ℕ
  unfolding first result_refusals
  result_outcome minus r = unless_refused (first (result_refusals r.exponent)) (pattern f minus r.exponent r.fraction)

  -- The outcome of a product whose result has the fields r: after the refusals of the operands a zero operand gives zero, with the
  -- sign that the product has, and only then the result is judged.
  unfoldable pub outcome : ℕ → ℕ → Fields → Outcome ℕ
  unfolding first operand_refusals result_outcome
  outcome a b r =
      otherwise (first (operand_refusals a b))
      (cond (is_zero f a || is_zero f b) (accepted (pattern f (sign_of a b) 0 0)) (result_outcome (sign_of a b) r))

-- The single product of two 32-bit patterns: the pattern of the result, or the number of the refusal.
unfoldable pub single_outcome : ℕ → ℕ → Outcome ℕ
single_outcome a b = outcome binary32 a b (product_fields binary32 a b)
