-- A pattern of binary32 stands for a number of the kit's `lib.Ieee`. The fields that are read there are those of `Formats`, so no
-- finite pattern is a NaN's and each is brought back by `to_bits`, and a normal one has the value size / unit.
use mathlib.Core.Path.{◌≡◌, refl, sym, ap, ◌∙◌, subst}
use Prim.Native.Nat.{ℕ, zero, suc, ◌+◌, ◌*◌, ◌/◌, ◌^◌, ◌≤◌, ◌<◌}
use native.Mathlib.Nat.{eq_of_mul-eq-mul_right, pow-succ'}
use native.Mathlib.Omega.{arith}
use mathlib.Core.Bool.{Bool, true, false, not}
use borrow.Author.Tests.{eq-eqb, le-leb, leb-false, leb-true, lt-ltb, ne_eqb}
use lib.Dec.{T, leb}
use lib.Pow.{field, pow_pos}
use lib.Ieee.{Float, down, fin, inf, nan, nan_bits, odd, of_bits, of_fields, to_bits, up}
use lib.Ieee as Ieee
use lib.Ieee.Bits.{nan_bits_is, to_bits-of_bits}
use lib.Ieee.Exact.{HasValue, odd_sign}
use Rattle.formats.specs.Formats.{binary32, exponent_field, fraction_field, hidden, is_minus, is_normal, largest_exponent, pattern}
use Rattle.formats.specs.Values.{size, unit}
use Rattle.formats.proofs.Back.{exponent-back, fraction-back, minus-back}
use Rattle.formats.proofs.Normals.{normal-fields}

module _ (minus : Bool) (E e : ℕ) (h_e : E ≤ largest_exponent binary32) (he : e < hidden binary32) where
  pub no_nan : nan_bits Ieee.binary32 (pattern binary32 minus E e) ≡ false
  unfolding nan_bits
  no_nan =
      rw (field (pattern binary32 minus E e) 8 23, exponent-back binary32 minus E e (omega arith) he, ne_eqb E 255 (λ q. omega arith))

  pub bits_back : to_bits Ieee.binary32 (of_bits Ieee.binary32 (pattern binary32 minus E e)) ≡ pattern binary32 minus E e
  bits_back =
      to_bits-of_bits Ieee.binary32 (pattern binary32 minus E e) (bound minus)
      (subst (λ (t : Bool). T (not t)) (sym no_nan ∙ nan_bits_is Ieee.binary32 (pattern binary32 minus E e)) tt)
    where
      bound : (s : Bool) → pattern binary32 s E e < 2 ^ 32
      bound true = omega arith
      bound false = omega arith

-- a fraction and the same with both parts doubled
doubled : (x : Float) (s : Bool) (a b c : ℕ) → b ≡ a * 2 → HasValue x s a c → HasValue x s b (c * 2)
doubled nan s a b c e v = v
doubled (inf t) s a b c e v = v
doubled (fin t m k) s a b c e v = (v.0, omega (arith, v.1, ap (λ (z : ℕ). z * down k) e))

fields : (s : Bool) (E e : ℕ) → 0 < E → E ≤ largest_exponent binary32 → HasValue (of_fields Ieee.binary32 s E e) s ((hidden binary32 + e) * 2 ^ E) (unit binary32)
unfolding of_fields
fields s zero e p h = absurd (omega arith)
fields s (suc E) e p h =
    rw (ne_eqb (suc E) 255 (λ q. omega arith))
    (doubled (odd 24 s (2 ^ 23 + e) E 149) s ((2 ^ 23 + e) * 2 ^ E) ((2 ^ 23 + e) * 2 ^ suc E) (2 ^ 149) (rw (pow-succ' 2 E) (omega arith))
    (odd_sign 24 s (2 ^ 23 + e) E 149))

-- A normal pattern stands for the number size / unit, with its sign.
pub has_value : (x : ℕ) → x < 2 ^ 32 → is_normal binary32 x ≡ true → HasValue (of_bits Ieee.binary32 x) (is_minus binary32 x) (size binary32 x) (unit binary32)
unfolding of_bits
has_value x h n =
    rw (field x 8 23, sign) (fields (is_minus binary32 x) (exponent_field binary32 x) (fraction_field binary32 x) (normal-fields binary32 x n).0 (normal-fields binary32 x n).1)
  where
    told : (t : Bool) → leb (2 ^ 31) x ≡ t → t ≡ is_minus binary32 x
    told true e = sym (eq-eqb (x / 2 ^ 31) 1 (omega (arith, leb-true (2 ^ 31) x e)))
    told false e = sym (ne_eqb (x / 2 ^ 31) 1 (λ q. omega (arith, leb-false (2 ^ 31) x e)))

    sign : leb (2 ^ 31) x ≡ is_minus binary32 x
    sign = told (leb (2 ^ 31) x) refl

-- a fraction that is a whole number
cancelled : (x : Float) (s : Bool) (a c n : ℕ) → 0 < c → a ≡ n * c → HasValue x s a c → HasValue x s n 1
cancelled nan s a c n p e v = v
cancelled (inf t) s a c n p e v = v
cancelled (fin t m k) s a c n p e v = (
  v.0,
  eq_of_mul-eq-mul_right c p (m * up k * 1) (n * down k) (omega (arith, v.1, ap (λ (z : ℕ). z * down k) e)),
)

-- A pattern made of fields stands for the whole number n where its size is n units.
pub whole-value : (minus : Bool) (E e n : ℕ) → 0 < E → E ≤ largest_exponent binary32 → e < hidden binary32 → (hidden binary32 + e) * 2 ^ E ≡ n * unit binary32
    → HasValue (of_bits Ieee.binary32 (pattern binary32 minus E e)) minus n 1
whole-value minus E e n p h_e he q =
    cancelled (of_bits Ieee.binary32 (pattern binary32 minus E e)) minus ((hidden binary32 + e) * 2 ^ E) (unit binary32) n (pow_pos 150) q
    (rw (minus-back binary32 minus E e (omega arith) he, exponent-back binary32 minus E e (omega arith) he, fraction-back binary32 minus E e (omega arith) he)
    at (has_value (pattern binary32 minus E e) (bound minus) normal))
  where
    bound : (s : Bool) → pattern binary32 s E e < 2 ^ 32
    bound true = omega arith
    bound false = omega arith

    normal : is_normal binary32 (pattern binary32 minus E e) ≡ true
    normal = rw (exponent-back binary32 minus E e (omega arith) he, lt-ltb 0 E p) (le-leb E 254 h_e)
