-- The product of two normal numbers is design 1 of their significands, in any format: in units, its size is what `Mitchell.at` gives
-- for them times 2 to the sum of the exponent fields. So what holds of design 1, never too large and within a ninth, holds of it.
use mathlib.Core.Path.{◌≡◌, refl, sym, ap, ◌∙◌}
use Prim.Native.Nat.{ℕ, ◌+◌, ◌-◌, ◌*◌, ◌^◌, ◌≤◌, ◌<◌}
use native.Mathlib.Nat.{add-sub_of_le, mod-lt, mul-lt-mul_of_pos_right, mul-le-mul_right}
use native.Mathlib.Omega.{arith}
use mathlib.Core.Bool.{Bool}
use borrow.Author.Tests.{le-leb, le-ltb, lt-ltb}
use lib.Pow.{pow-add, pow_pos}
use Rattle.designs.proofs.Cases.{by-lt}
use Rattle.designs.proofs.Mitchell.{at, at-short}
use Rattle.designs.proofs.MitchellBound.{at-within}
use Rattle.formats.specs.Formats.{Format, exponent_field, fraction_field, hidden, largest_exponent, pattern}
use Rattle.formats.specs.Values.{size, unit}
use Rattle.formats.proofs.Back.{exponent-back, fraction-back, minus-back}
use Rattle.singles.specs.Singles.{Fields, carried, product_fields, sign_of}
use Rattle.singles.specs.Meaning.{Near}

-- with K and B in the place of the powers of two of the exponent field and the bias: without a carry, and with one
low-units : (P x y K B : ℕ) → (P + (x + y)) * K * (B * P) ≡ (P * P + (x * P + y * P)) * (K * B)
low-units P x y K B = omega arith

high-units : (P x y K B W : ℕ) → K * B ≡ W * 2 → P ≤ x + y → (P + (x + y - P)) * K * (B * P) ≡ 2 * (x * P + y * P) * W
high-units P x y K B W e h = rw (add-sub_of_le h) (omega (arith, ap (λ (z : ℕ). (x + y) * P * z) e))

-- a bound on y against T, carried over to their multiples
scaled : (T y k t g : ℕ) → t ≡ T * k → g ≡ y * k → y ≤ T → 9 * T ≤ 9 * y + T → (g ≤ t) × (9 * (t - g) ≤ t)
scaled T y k t g e f h b = (omega (arith, mul-le-mul_right k h), omega (arith, mul-le-mul_right k b))

module _ (f : Format) where
  powers : (X G : ℕ) → 0 < G → G ≡ X - f.bias → 2 ^ X ≡ 2 ^ G * 2 ^ f.bias
  powers X G h e = ap (λ (n : ℕ). 2 ^ n) (omega arith) ∙ pow-add 2 G f.bias

  -- the fields of a result, in units
  units : (X x y : ℕ) → 0 < (carried f X (x + y)).exponent
      → (hidden f + (carried f X (x + y)).fraction) * 2 ^ (carried f X (x + y)).exponent * unit f ≡ at (hidden f) x (hidden f) y * 2 ^ X
  units X x y =
      by-lt (λ (r : Fields). 0 < r.exponent → (P + r.fraction) * 2 ^ r.exponent * unit f ≡ at P x P y * 2 ^ X) (x + y) P low high
    where
      P : ℕ
      P = hidden f

      low : x + y < P → 0 < X - f.bias → (P + (x + y)) * 2 ^ (X - f.bias) * unit f ≡ at P x P y * 2 ^ X
      low h g =
          let l : x * P + y * P < P * P = omega (arith, mul-lt-mul_of_pos_right h (pow_pos f.fraction_bits)) in
          simp (lt-ltb _ _ l, pow-add 2 f.bias f.fraction_bits, powers X _ g refl) (low-units P x y _ _)

      high : P ≤ x + y → 0 < X + 1 - f.bias → (P + (x + y - P)) * 2 ^ (X + 1 - f.bias) * unit f ≡ at P x P y * 2 ^ X
      high h g =
          let l : P * P ≤ x * P + y * P = omega (arith, mul-le-mul_right P h) in
          simp (le-ltb _ _ l, pow-add 2 f.bias f.fraction_bits) (high-units P x y _ _ _ (sym (powers (X + 1) _ g refl) ∙ pow-add 2 X 1) h)

  module _ (a b : ℕ) where
    first-lt : fraction_field f a < hidden f
    first-lt = mod-lt a (pow_pos f.fraction_bits)

    second_lt : fraction_field f b < hidden f
    second_lt = mod-lt b (pow_pos f.fraction_bits)

    pub fraction-lt : (product_fields f a b).fraction < hidden f
    unfolding product_fields
    fraction-lt =
        by-lt (λ (r : Fields). r.fraction < hidden f) (fraction_field f a + fraction_field f b) (hidden f) (λ h. h)
        (λ h. omega (arith, first-lt, second_lt))

    pub near : 0 < (product_fields f a b).exponent → (product_fields f a b).exponent ≤ largest_exponent f
        → Near f a b (pattern f (sign_of f a b) (product_fields f a b).exponent (product_fields f a b).fraction)
    unfolding product_fields
    near h l =
        record {
          normal = rw (exponent-back f s E e E-lt fraction-lt, lt-ltb 0 E h, le-leb E (largest_exponent f) l);
          sign = minus-back f s E e E-lt fraction-lt;
          least = rw (exponent-back f s E e E-lt fraction-lt, fraction-back f s E e E-lt fraction-lt) bounds.0;
          most = rw (exponent-back f s E e E-lt fraction-lt, fraction-back f s E e E-lt fraction-lt) bounds.1;
        }
      where
        s : Bool
        s = sign_of f a b

        E : ℕ
        E = (product_fields f a b).exponent

        e : ℕ
        e = (product_fields f a b).fraction

        E-lt : E < 2 ^ f.exponent_bits
        E-lt = omega (arith, pow_pos f.exponent_bits)

        P : ℕ
        P = hidden f

        x : ℕ
        x = fraction_field f a

        y : ℕ
        y = fraction_field f b

        true-product : size f a * size f b ≡ (P + x) * (P + y) * 2 ^ (exponent_field f a + exponent_field f b)
        true-product = rw (pow-add 2 (exponent_field f a) (exponent_field f b)) (omega arith)

        bounds : ((P + e) * 2 ^ E * unit f ≤ size f a * size f b) × (9 * (size f a * size f b - (P + e) * 2 ^ E * unit f) ≤ size f a * size f b)
        bounds =
            scaled _ _ _ _ _ true-product (units (exponent_field f a + exponent_field f b) x y h)
            (omega (arith, at-short P x P y first-lt second_lt)) (at-within P x P y first-lt second_lt).above
