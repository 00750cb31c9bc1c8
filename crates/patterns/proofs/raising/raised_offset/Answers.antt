-- The floats of the number and of its nearest power are exact, and so is their difference.
use Rattle.std.proofs.Common.{◌≡◌, ◌^◌, ◌<◌, ◌≤◌, ℤ, nat_abs, arith, to_z-of_z}
use lib.Ieee.{binary32, binary64, of_bits, of_int, sub}
use lib.Ieee.Bits.{nan_bits_is}
use Rattle.designs.specs.Signs.{negative}
use Rattle.designs.proofs.SignedOffsets.{near_le}
use Rattle.designs.proofs.Sizes.{size-sign}
use Rattle.pairs.proofs.Integers.{size16}
use Rattle.patterns.specs.Patterns.{field_power, less_power, power_of, raised_of}
use Rattle.patterns.proofs.ExponentField.{near-at, offset-size}
use Rattle.patterns.proofs.Moved.{moved}
use Rattle.patterns.proofs.Rests.{no_nan, raised-bits, raised-difference, raised-no-nan}
use Rattle.patterns.proofs.raising.raised_offset.Goals as goal
use Rattle.patterns.proofs.raising.raised_offset.Goals.{After-raised-p}

-- the number and its power
module _ (x : ℤ) (size : nat_abs x ≤ 2 ^ 15) where
  power_size : nat_abs (power_of (2 ^ 22) x) ≤ 2 ^ 15
  power_size = rw (size-sign (negative x) (field_power (2 ^ 22) (nat_abs x)), near-at (nat_abs x) size) (near_le 15 (nat_abs x) size)

  left-size : nat_abs (less_power (2 ^ 22) x) < 2 ^ 24
  left-size = omega (arith, offset-size x size)

module _ (c : After-raised-p) where
  size : nat_abs c.args.x ≤ 2 ^ 15
  size = size16 c.ranges.x

  pattern : c.raised-p.result ≡ raised_of c.args.x
  pattern = rw (to_z-of_z c.ranges.x) at c.raised-p.ensures

-- their difference
module _ (c : goal.After-near) where
  abbrev b : After-raised-p
  b = (goal.at.returns c).After-raised-p

  power : c.near.result ≡ raised_of (power_of (2 ^ 22) c.args.x)
  power = c.near.ensures c.args.x (size b) (pattern b)

  float : sub binary32 (of_bits binary32 c.raised-p.result) (of_bits binary32 c.near.result)
      ≡ of_int binary64 (moved (less_power (2 ^ 22) c.args.x))
  float =
      rw (pattern b, power)
      (raised-difference c.args.x (power_of (2 ^ 22) c.args.x) (omega (arith, size b)) (omega (arith, power_size c.args.x (size b)))
      (left-size c.args.x (size b)))

pub float_from_bits-result : goal.float_from_bits-result
float_from_bits-result c = rw (nan_bits_is binary32 c.raised-p.result, pattern c) (no_nan c.args.x (omega (arith, size c)))

pub float_from_bits-result-2 : goal.float_from_bits-result-2
float_from_bits-result-2 c =
    rw (nan_bits_is binary32 c.near.result, power c) (no_nan (power_of (2 ^ 22) c.args.x) (omega (arith, power_size c.args.x (size (b c)))))

pub float_to_bits-result : goal.float_to_bits-result
float_to_bits-result c = raised-no-nan (less_power (2 ^ 22) c.args.x) (float c) (left-size c.args.x (size (b c)))

pub returns : goal.returns
returns c = raised-bits (less_power (2 ^ 22) c.args.x) (float c) (left-size c.args.x (size (b c)))
