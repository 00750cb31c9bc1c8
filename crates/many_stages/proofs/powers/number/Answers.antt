-- The pattern stands for 2^16 times the number, which the cast gives and the shift brings down again.
use Rattle.std.proofs.Common.{◌≡◌, ℕ, suc, ◌+◌, ◌*◌, ◌^◌, ◌<◌, not, T, ℤ, pos, negsuc, neg_ℤ, nat_abs, ap, ◌∙◌, arith, to_z-of_z, w32, to_z, of_z}
use lib.Ieee.{binary32, binary64, fits, is_nan, of_bits, of_int, to_signed}
use lib.Ieee.Bits.{nan_bits_is, of_bits-fits}
use lib.Ieee.Casts.{to_signed_in}
use lib.Ieee.Fits.{and_i, fits_widens}
use lib.Signed.{mag, nat_abs-le, shr_z}
use Rattle.pairs.proofs.Integers.{read_back, sized}
use Rattle.patterns.specs.Patterns.{raised_of}
use Rattle.patterns.proofs.Moved.{moved, moved-mag}
use Rattle.patterns.proofs.Rests.{raised-no-nan, read}
use Rattle.patterns.proofs.Values.{cast-in}
use Rattle.many_stages.proofs.powers.number.Goals as goal

module _ (z : ℤ) {p : ℕ} (l : mag z < 2 ^ 15) (e : p ≡ raised_of z) where
  small : nat_abs z < 2 ^ 24
  small = omega (arith, nat_abs-le z l)

  float : of_bits binary32 p ≡ of_int binary64 (moved z)
  float = rw e (read z small)

  no_nan : T (not (is_nan (of_bits binary32 p)))
  no_nan = raised-no-nan z float small

moved_back : (z : ℤ) → shr_z (moved z) 65536 ≡ z
moved_back (pos n) = ap pos (omega arith)
moved_back (negsuc n) =
    let e : suc n * 65536 ≡ suc (n * 65536 + 65535) = omega arith in
    ap (λ (m : ℕ). shr_z (neg_ℤ (pos m)) 65536) e ∙ ap negsuc (omega arith)

pub float_from_bits-result : goal.float_from_bits-result
float_from_bits-result c = rw (nan_bits_is binary32 c.args.p) (no_nan c.requires.0 c.requires.1 c.requires.2)

pub float_to_float-result : goal.float_to_float-result
float_to_float-result c =
    let x = of_bits binary32 c.args.p in
    and_i (fits binary64 x) (not (is_nan x)) (fits_widens x (of_bits-fits binary32 c.args.p)) (no_nan c.requires.0 c.requires.1 c.requires.2)

pub float_to_int-result : goal.float_to_int-result
float_to_int-result c =
    rw (float c.requires.0 c.requires.1 c.requires.2) (cast-in (moved c.requires.0) (moved-mag c.requires.0 c.requires.1)).0

pub returns : goal.returns
returns c z l e =
    let x = of_bits binary32 c.args.p in
    ap (λ (y : ℤ). to_z w32 (of_z w32 (shr_z y 65536)))
    (read_back (to_signed_in 31 x) (ap (to_signed 31) (float z l e) ∙ (cast-in (moved z) (moved-mag z l)).1))
    ∙ ap (λ (y : ℤ). to_z w32 (of_z w32 y)) (moved_back z)
    ∙ to_z-of_z (sized z (omega (arith, nat_abs-le z l)))
