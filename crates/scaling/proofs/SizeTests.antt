-- Tests of a signed number are tests of its size, and a cast to binary64 accepts a size of at most 2^53. Each law goes by the two
-- constructors of ℤ.
use mathlib.Core.Path.{◌≡◌}
use mathlib.Core.Logic.{◌⊎◌, inl, inr}
use mathlib.Core.Bool.{true, false, false≢true}
use Prim.Native.Nat.{ℕ, suc, ◌^◌, ◌≤◌, ◌<◌}
use native.Mathlib.Omega.{arith}
use borrow.Author.Tests.{ltb-true, ltb-false}
use lib.Dec.{T, le→leb, lt→ltb}
use lib.IntN.{ℤ, pos, negsuc, nat_abs}
use lib.Ieee.{binary64, in_float}
use lib.Signed.{lt_z}

-- z is below −n − 1, or above n, or neither
pub under : {n : ℕ} (z : ℤ) → lt_z z (negsuc n) ≡ true → suc n < nat_abs z
under (pos a) e = absurd (false≢true e)
under (negsuc a) e = omega (arith, ltb-true)

pub over : {n : ℕ} (z : ℤ) → lt_z (pos n) z ≡ true → n < nat_abs z
over (pos a) e = omega (arith, ltb-true)
over (negsuc a) e = absurd (false≢true e)

pub within : {n m : ℕ} (z : ℤ) → lt_z z (negsuc n) ≡ false → lt_z (pos m) z ≡ false → (nat_abs z ≤ suc n) ⊎ (nat_abs z ≤ m)
within (pos a) d e = inr (omega (arith, ltb-false))
within (negsuc a) d e = inl (omega (arith, ltb-false))

-- what the cast of an integer asks
pub cast-exact : (z : ℤ) → nat_abs z ≤ 2 ^ 53 → T (in_float binary64 z)
unfolding in_float
cast-exact (pos n) h = le→leb n (2 ^ 53) h
cast-exact (negsuc n) h = lt→ltb n (2 ^ 53) h
