-- The number is moved up by 2^16, which an i32 holds and a binary64 too, and a binary32 with its bits.
use Rattle.std.proofs.Common.{◌≡◌, ◌^◌, ◌<◌, not, T, ℤ, nat_abs, ap, arith, w16, w32, SFits, to_z, of_z}
use lib.Ieee.{binary32, binary64, fits, is_nan, of_int}
use lib.Ieee.Fits.{and_i}
use lib.Signed.{nat_abs-le}
use Rattle.signs.proofs.Integers.{read_as}
use Rattle.pairs.proofs.Integers.{size16, widened}
use Rattle.patterns.proofs.Moved.{moved, moved-bits, moved-fits, moved-mag}
use Rattle.patterns.proofs.Values.{int-no-nan}
use Rattle.patterns.proofs.raising.raised.Goals as goal

module _ (x : ℤ) (h : SFits w16 x) where
  in-i32 : SFits w32 (moved x)
  in-i32 = record { sfits = moved-mag x h.sfits }

  read : to_z w32 (of_z w32 (moved (to_z w32 (of_z w32 (to_z w16 (of_z w16 x)))))) ≡ moved x
  read = read_as (ap moved (widened w32 tt h)) in-i32

  small : nat_abs x < 2 ^ 24
  small = omega (arith, size16 h)

  no_nan : T (not (is_nan (of_int binary64 (moved x))))
  no_nan = int-no-nan binary64 (moved x) (omega (arith, nat_abs-le (moved x) in-i32.sfits))

pub float_to_float-result : goal.float_to_float-result
float_to_float-result c =
    let x = c.args.x in
    let h = c.ranges.x in
    let f = of_int binary64 (moved x) in
    rw (read x h) (and_i (fits binary32 f) (not (is_nan f)) (moved-fits x (small x h)) (no_nan x h))

pub float_to_bits-result : goal.float_to_bits-result
float_to_bits-result c = rw (read c.args.x c.ranges.x) (no_nan c.args.x c.ranges.x)

pub returns : goal.returns
returns c = rw (read c.args.x c.ranges.x) (moved-bits c.args.x (small c.args.x c.ranges.x))
