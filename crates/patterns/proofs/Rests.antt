-- Raised patterns as floats, each the float of its number times 2^16. Sums and differences of two are exact and have the patterns of the sum
-- and of the difference; so has what a stage of design 3 leaves, a number less its leading power.
use Rattle.std.proofs.Common.{◌≡◌, ◌*◌, ◌^◌, ◌<◌, ◌≤◌, not, T, ℤ, ◌+ℤ◌, ◌-ℤ◌, nat_abs, sym, ap, ◌∙◌, ap₂, arith}
use lib.Ieee.{add, binary32, binary64, Float, is_nan, of_bits, of_int, sub, to_bits}
use lib.Ieee.Bits.{of_bits-to_bits}
use Rattle.designs.specs.Signs.{negative, rest_ℤ}
use Rattle.designs.proofs.SignedLeft.{lead-le, rest-size}
use Rattle.designs.proofs.Sizes.{size-sign}
use Rattle.patterns.specs.Patterns.{field_power, power_of, raised_of}
use Rattle.patterns.proofs.ExponentField.{lead-at, rest_of}
use Rattle.patterns.proofs.Moved.{moved, moved-bits, moved-fits, moved-is}
use Rattle.patterns.proofs.Values.{int-no-nan}
use Rattle.patterns.proofs.WholeSums.{difference-float, sum-float}

-- the float of a number's raised pattern
pub read : (z : ℤ) → nat_abs z < 2 ^ 24 → of_bits binary32 (raised_of z) ≡ of_int binary64 (moved z)
read z l = ap (of_bits binary32) (sym (moved-bits z l)) ∙ of_bits-to_bits binary32 (of_int binary64 (moved z)) (moved-fits z l)

-- and the pattern of such a float
module _ (z : ℤ) {x : Float} (is : x ≡ of_int binary64 (moved z)) (l : nat_abs z < 2 ^ 24) where
  pub raised-bits : to_bits binary32 x ≡ raised_of z
  raised-bits = ap (to_bits binary32) is ∙ moved-bits z l

  pub raised-no-nan : T (not (is_nan x))
  raised-no-nan = rw is (int-no-nan binary64 (moved z) (rw (moved-is z, size-sign (negative z) (nat_abs z * 65536)) (omega arith)))

pub no_nan : (z : ℤ) → nat_abs z < 2 ^ 24 → T (not (is_nan (of_bits binary32 (raised_of z))))
no_nan z l = raised-no-nan z (read z l) l

-- two of them
module _ (y z : ℤ) (ly : nat_abs y < 2 ^ 24) (lz : nat_abs z < 2 ^ 24) where
  pub raised-sum : nat_abs (y +ℤ z) < 2 ^ 24 → add binary32 (of_bits binary32 (raised_of y)) (of_bits binary32 (raised_of z)) ≡ of_int binary64 (moved (y +ℤ z))
  raised-sum l = ap₂ (add binary32) (read y ly) (read z lz) ∙ sum-float 16 (omega arith) y z (omega arith) (omega arith) (omega arith)

  pub raised-difference : nat_abs (y -ℤ z) < 2 ^ 24 → sub binary32 (of_bits binary32 (raised_of y)) (of_bits binary32 (raised_of z)) ≡ of_int binary64 (moved (y -ℤ z))
  raised-difference l = ap₂ (sub binary32) (read y ly) (read z lz) ∙ difference-float 16 (omega arith) y z (omega arith) (omega arith) (omega arith)

-- the float of a number's pattern less that of its leading power, and its pattern
module _ (z : ℤ) (l : nat_abs z ≤ 2 ^ 15) where
  abbrev left : Float
  left = sub binary32 (of_bits binary32 (raised_of z)) (of_bits binary32 (raised_of (power_of 0 z)))

  pub power_small : nat_abs (power_of 0 z) ≤ 2 ^ 15
  power_small = rw (size-sign (negative z) (field_power 0 (nat_abs z)), lead-at (nat_abs z) l) (omega (arith, lead-le (nat_abs z)))

  rest-small : nat_abs (rest_ℤ z) < 2 ^ 24
  rest-small = omega (arith, rest-size z)

  pub rest-float : left ≡ of_int binary64 (moved (rest_ℤ z))
  rest-float =
      raised-difference z (power_of 0 z) (omega arith) (omega (arith, power_small)) (rw (rest_of z l) rest-small)
      ∙ ap (λ (y : ℤ). of_int binary64 (moved y)) (rest_of z l)

  pub rest-bits : to_bits binary32 left ≡ raised_of (rest_ℤ z)
  rest-bits = raised-bits (rest_ℤ z) rest-float rest-small

  pub rest-no-nan : T (not (is_nan left))
  rest-no-nan = raised-no-nan (rest_ℤ z) rest-float rest-small
