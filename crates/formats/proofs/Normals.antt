-- A normal pattern's exponent field is neither 0 nor of ones alone, in any format, by its two tests; so the number is not zero.
--
use mathlib.Core.Path.{◌≡◌, subst⁻¹}
use Prim.Native.Nat.{ℕ, ◌≤◌, ◌<◌}
use native.Mathlib.Omega.{arith}
use mathlib.Core.Bool.{true, false}
use borrow.Author.Tests.{ne_eqb}
use lib.Dec.{T, leb→le, ltb, ltb→lt}
use lib.Ieee.Fits.{and_l, and_r}
use Rattle.formats.specs.Formats.{Format, exponent_field, is_finite, is_normal, is_zero, largest_exponent}

module _ (f : Format) (x : ℕ) (n : is_normal f x ≡ true) where
  pub normal-fields : (0 < exponent_field f x) × (exponent_field f x ≤ largest_exponent f)
  normal-fields = (ltb→lt 0 _ (and_l (ltb 0 (exponent_field f x)) (is_finite f x) test), leb→le _ _ (and_r (ltb 0 (exponent_field f x)) (is_finite f x) test))
    where
      test : T (is_normal f x)
      test = subst⁻¹ T n tt

  pub not-zero : is_zero f x ≡ false
  not-zero = simp (ne_eqb (exponent_field f x) 0 (λ q. omega (arith, normal-fields.0)))
