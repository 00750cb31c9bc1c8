-- Sums and differences of two raised patterns as floats, in one law: an operation on floats that is exact on numbers of at most 24 bits, and
-- whose result is no larger than both numbers together, has the raised pattern of the result.
use Rattle.std.proofs.Common.{◌≡◌, ℕ, ◌+◌, ◌^◌, ◌<◌, ◌≤◌, not, T, ℤ, ◌-ℤ◌, neg_ℤ, nat_abs, ◌∙◌, ap₂, arith}
use lib.Ieee.{binary32, binary64, Float, is_nan, nan_bits, of_bits, of_int, to_bits}
use lib.Ieee.Bits.{nan_bits_is}
use Rattle.designs.proofs.Sizes.{size-add, size-neg}
use Rattle.patterns.specs.Patterns.{raised_of}
use Rattle.patterns.proofs.Moved.{moved}
use Rattle.patterns.proofs.Rests.{no_nan, raised-bits, raised-no-nan}
use Rattle.many_stages.specs.Strips.{Raised}

-- the pattern of a number is none of no number
pub a-number : {z : ℤ} {p : ℕ} → Raised z p → T (not (nan_bits binary32 p))
a-number {z} {p} r = rw (nan_bits_is binary32 p, r.pattern) (no_nan z (omega (arith, r.small)))

pub size_less : (y z : ℤ) → nat_abs (y -ℤ z) ≤ nat_abs y + nat_abs z
size_less y z = omega (arith, size-add y (neg_ℤ z), size-neg z)

module _ (op : Float → Float → Float) (of : ℤ → ℤ → ℤ) (size : (y z : ℤ) → nat_abs (of y z) ≤ nat_abs y + nat_abs z)
    (exact : (y z : ℤ) → nat_abs y < 2 ^ 24 → nat_abs z < 2 ^ 24 → nat_abs (of y z) < 2 ^ 24
    → op (of_bits binary32 (raised_of y)) (of_bits binary32 (raised_of z)) ≡ of_int binary64 (moved (of y z)))
    {y z : ℤ} {p q : ℕ} (first : Raised y p) (second : Raised z q) where
  small : nat_abs (of y z) < 2 ^ 24
  small = omega (arith, size y z, first.small, second.small)

  float : op (of_bits binary32 p) (of_bits binary32 q) ≡ of_int binary64 (moved (of y z))
  float =
      ap₂ (λ (p q : ℕ). op (of_bits binary32 p) (of_bits binary32 q)) first.pattern second.pattern
      ∙ exact y z (omega (arith, first.small)) (omega (arith, second.small)) small

  pub result-bits : to_bits binary32 (op (of_bits binary32 p) (of_bits binary32 q)) ≡ raised_of (of y z)
  result-bits = raised-bits (of y z) float small

  pub result-no-nan : T (not (is_nan (op (of_bits binary32 p) (of_bits binary32 q))))
  result-no-nan = raised-no-nan (of y z) float small
