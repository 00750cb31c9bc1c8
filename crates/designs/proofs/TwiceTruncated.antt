-- Design 5 stays below 4 × 2^k × 2^m. Design 4 is at most twice the true product, so the second stage gives at most 2 × x × y on what is
-- left, x and y; where S < 2^t both stages are below 2 × 2^k × 2^m, and else the second has room for what the fractions lack of 1.
--
use mathlib.Core.Path.{◌≡◌, sym, ap, ◌∙◌, subst, subst₂}
use Prim.Native.Nat.{ℕ, ◌+◌, ◌-◌, ◌*◌, ◌^◌, ◌≤◌, ◌<◌}
use native.Mathlib.Nat.{add-sub_of_le, sub-add_cancel, div-le_of_le-mul, div-mul-le_self, lt_of_mul-lt-mul_left, mul-le-mul, mul-le-mul_left, mul-le-mul_right, le_of_mul-le-mul_left, mul-pos}
use native.Mathlib.Omega.{arith}
use mathlib.Core.Bool.{Bool, true, false}
use borrow.Author.Tests.{lt-ltb, le-ltb}
use lib.Pow.{pow-add, pow_pos}
use Rattle.designs.specs.Designs.{log2, rest, kept, total, total_below, by_truncation, left_over, second_stage, by_two_truncations, formula, product, truncated, twice_truncated}
use Rattle.designs.proofs.Carried.{carried}
use Rattle.designs.proofs.Cases.{by-lt, either_lt}
use Rattle.designs.proofs.Parts.{parts, rest_lt}
use Rattle.designs.proofs.Truncated.{kept-le, kept-lt, truncation-at}
use Rattle.designs.proofs.Zeros.{by_zero, product_is}

-- design 4 before it rounds down, over any P, Q and T
low-le : (P Q T S a b : ℕ) → S < T → P * Q * (T + S) ≤ 2 * ((P + a) * (Q + b)) * T
low-le P Q T S a b h = omega (arith, mul-le-mul_left (P * Q) h)

high_le : (P Q T f g a b : ℕ) → 0 < T → f * P ≤ a * T → g * Q ≤ b * T → P * Q * (2 * (f + g + 1)) ≤ 2 * ((P + a) * (Q + b)) * T
high_le P Q T f g a b p hf hg = omega (arith, mul-le-mul_right Q hf, mul-le-mul_right P hg, mul-le-mul_left (P * Q) p)

-- design 4 is at most twice the true product
pub truncated-double : (t A B : ℕ) → product (truncated t) A B ≤ 2 * (A * B)
unfolding formula
truncated-double t = by_zero (truncated t) (λ A B p. p ≤ 2 * (A * B)) (λ B. omega arith) (λ A. omega arith) once
  where
    over : (A B : ℕ) → 0 < A → 0 < B → 2 ^ (log2 A + log2 B) * carried (2 ^ t) (total t A B) ≤ 2 * (A * B) * 2 ^ t
    over A B pa pb =
        rw (pow-add 2 (log2 A) (log2 B))
        (subst₂ (λ (x y : ℕ). 2 ^ log2 A * 2 ^ log2 B * carried (2 ^ t) (total t A B) ≤ 2 * (x * y) * 2 ^ t) (sym (parts A pa)) (sym (parts B pb))
        (by-lt (λ (z : ℕ). 2 ^ log2 A * 2 ^ log2 B * z ≤ 2 * ((2 ^ log2 A + rest A) * (2 ^ log2 B + rest B)) * 2 ^ t) (total t A B) (2 ^ t)
        (λ h. low-le (2 ^ log2 A) (2 ^ log2 B) (2 ^ t) (total t A B) (rest A) (rest B) h)
        (λ h. high_le (2 ^ log2 A) (2 ^ log2 B) (2 ^ t) (kept t A) (kept t B) (rest A) (rest B) (pow_pos t) (kept-le t A) (kept-le t B))))

    once : (A B : ℕ) → 0 < A → 0 < B → by_truncation t A B ≤ 2 * (A * B)
    once A B pa pb = rw (truncation-at t A B) (div-le_of_le-mul (2 ^ t) (omega (arith, over A B pa pb)))

-- Both stages over any P, Q and T: F is the first, and G at most twice the product of what is left.
both-low : (P Q T S a b F G : ℕ) → S < T → a < P → b < Q → F * T ≤ P * Q * (T + S) → G ≤ 2 * (a * b) → F + G < 4 * (P * Q)
both-low P Q T S a b F G h ha hb h_f h_g = omega (arith, first, mul-le-mul ha hb)
  where
    first : F < 2 * (P * Q)
    first = lt_of_mul-lt-mul_left T (omega (arith, mul-le-mul_left (P * Q) h, mul-pos {m = P} {n = Q} (omega arith) (omega arith)))

-- f and g are the kept fractions of a / P and b / Q, u and v what they lack of 1, x and y what is left
module _ (P Q T a b f g u v x y : ℕ) (ea : x + 1 + a ≡ P) (eb : y + 1 + b ≡ Q) (ef : f + u ≡ T) (eg : g + v ≡ T) (pu : 0 < u) (pv : 0 < v) where
  left-room : (P a f u x : ℕ) → x + 1 + a ≡ P → f + u ≡ T → f * P ≤ a * T → (x + 1) * T ≤ P * u
  left-room P a f u x e h k = omega (arith, ap (λ (z : ℕ). z * T) e, ap (λ (z : ℕ). P * z) h)

  lacking : u * v + T ≤ T * (u + v)
  lacking = subst (λ (z : ℕ). u * z + T ≤ T * (u + z)) (sub-add_cancel pv) (step (v - 1))
    where
      step : (v : ℕ) → u * (v + 1) + T ≤ T * (u + (v + 1))
      step v = omega (arith, mul-le-mul_right {m = u} {n = T} v (omega arith), mul-le-mul_left T pu)

  both_high : (F G : ℕ) → 0 < T → f * P ≤ a * T → g * Q ≤ b * T → F * T ≤ P * Q * (2 * (f + g + 1)) → G ≤ 2 * (x * y) → F + G < 4 * (P * Q)
  both_high F G p ka kb h_f h_g =
      lt_of_mul-lt-mul_left T
      (omega (arith, mul-le-mul_right T h_g, second, ap (λ (z : ℕ). P * Q * z) ef, ap (λ (z : ℕ). P * Q * z) eg, mul-le-mul_left x p, mul-le-mul_left y p))
    where
      second : (x + 1) * (y + 1) * T + P * Q ≤ P * Q * (u + v)
      second =
          le_of_mul-le-mul_left
          (omega (arith, mul-le-mul (left-room P a f u x ea ef ka) (left-room Q b g v y eb eg kb), mul-le-mul_left (P * Q) lacking)) p

module _ (t A B : ℕ) where
  abbrev Both : Bool → Type 0
  Both low = by_truncation t A B + second_stage low A B < 4 * (2 ^ log2 A * 2 ^ log2 B)

  -- the first stage before it rounds down
  first-le : by_truncation t A B * 2 ^ t ≤ 2 ^ log2 A * 2 ^ log2 B * carried (2 ^ t) (total t A B)
  first-le = rw (truncation-at t A B, pow-add 2 (log2 A) (log2 B)) (div-mul-le_self (2 ^ log2 A * 2 ^ log2 B * carried (2 ^ t) (total t A B)) (2 ^ t))

  second-le : (low : Bool) → second_stage low A B ≤ 2 * (left_over low A * left_over low B)
  unfolding second_stage product formula
  second-le low = truncated-double 2 (left_over low A) (left_over low B)

  low-lt : total t A B < 2 ^ t → Both true
  unfolding left_over
  low-lt h =
      both-low (2 ^ log2 A) (2 ^ log2 B) (2 ^ t) (total t A B) (rest A) (rest B) _ _ h (rest_lt A) (rest_lt B)
      (rw (lt-ltb (total t A B) (2 ^ t) h) at first-le) (second-le true)

  high_lt : 2 ^ t ≤ total t A B → Both false
  unfolding left_over
  high_lt h =
      both_high (2 ^ log2 A) (2 ^ log2 B) (2 ^ t) (rest A) (rest B) (kept t A) (kept t B) (2 ^ t - kept t A) (2 ^ t - kept t B) _ _
      (omega (arith, rest_lt A)) (omega (arith, rest_lt B)) (add-sub_of_le (omega (arith, kept-lt t A))) (add-sub_of_le (omega (arith, kept-lt t B)))
      (omega (arith, kept-lt t A)) (omega (arith, kept-lt t B)) _ _ (pow_pos t) (kept-le t A) (kept-le t B)
      (rw (le-ltb (total t A B) (2 ^ t) h) at first-le) (second-le false)

  -- below 4 times the product of the leading powers
  pub twice-lt : by_two_truncations t A B < 4 * (2 ^ log2 A * 2 ^ log2 B)
  unfolding by_two_truncations
  twice-lt =
      either_lt (total t A B) (2 ^ t)
      (λ h. subst Both (sym (lt-ltb (total t A B) (2 ^ t) h)) (low-lt h))
      (λ h. subst Both (sym (le-ltb (total t A B) (2 ^ t) h)) (high_lt h))

-- the sum of two products by design 4
pub twice-is : (t A B : ℕ) → 0 < A → 0 < B
    → product (twice_truncated t) A B ≡ product (truncated t) A B + product (truncated 2) (left_over (total_below t A B) A) (left_over (total_below t A B) B)
unfolding formula by_two_truncations second_stage product
twice-is t A B pa pb = product_is (twice_truncated t) A B pa pb ∙ ap (λ (x : ℕ). x + second_stage (total_below t A B) A B) (sym (product_is (truncated t) A B pa pb))
