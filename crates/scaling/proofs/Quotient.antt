-- The quotient is exact. Its value is that of `odd`, which rounds nothing, and the format holds it because the size is at most 2^53
-- and 2^−k is a multiple of the format's smallest value, 2^−1074.
use mathlib.Core.Path.{◌≡◌, refl, ap}
use mathlib.Core.Bool.{Bool}
use Prim.Native.Nat.{ℕ, zero, suc, ◌+◌, ◌-◌, ◌^◌, ◌≤◌, ◌<◌}
use native.Mathlib.Nat.{zero-add, mul-one, lt_of_lt_of_le}
use native.Mathlib.Omega.{arith}
use borrow.Author.Tests.{le-leb, lt-leb}
use lib.Dec.{T}
use lib.IntN.{ℤ, pos, negsuc, nat_abs}
use lib.Pow.{pow_mono, shl_lt}
use lib.Ieee.{binary64, minus, odd, fits}
use lib.Ieee.Exact.{HasValue, odd_sign}
use lib.Ieee.Fits.{odd-fits}
use Rattle.designs.specs.Signs.{negative}
use Rattle.designs.proofs.Cases.{either-le}
use Rattle.scaling.specs.Quotient.{quotient, Exact}

-- q / 2^k is q × 2^j / 2^l, for l = j + k
minus-raised : (j a b l : ℕ) → j + b ≡ l → minus (j + a) l ≡ minus a b
minus-raised j a b l e =
    either-le b a (λ h. rw (le-leb b a h, le-leb l (j + a) (omega arith)) (ap pos (omega arith)))
    (λ h. rw (lt-leb b a h, lt-leb l (j + a) (omega arith)) (ap negsuc (omega arith)))

odd-raised : (d : ℕ) (s : Bool) (q j k l : ℕ) → j + k ≡ l → odd d s q j l ≡ odd d s q 0 k
unfolding odd
odd-raised d s zero j k l e = refl
odd-raised d s (suc q) j k l e = rw (zero-add, minus-raised j _ k l e)

pub quotient-value : (z : ℤ) (k : ℕ) → HasValue (quotient z k) (negative z) (nat_abs z) (2 ^ k)
unfolding quotient
quotient-value z k = rw (mul-one (nat_abs z)) at (odd_sign 54 (negative z) (nat_abs z) 0 k)

module _ (z : ℤ) (k : ℕ) (small : nat_abs z ≤ 2 ^ 53) (room : k ≤ 1074) where
  pub quotient-held : T (fits binary64 (quotient z k))
  unfolding quotient
  quotient-held =
      let j = 1074 - k in
      let short : nat_abs z < 2 ^ 54 = omega arith in
      let below : 54 + j ≤ 2098 = omega arith in
      rw (odd-raised 54 (negative z) (nat_abs z) j k 1074 (omega arith)) at
      (odd-fits binary64 54 (negative z) (nat_abs z) j short small (lt_of_lt_of_le (shl_lt 54 j short) (pow_mono below)))

  pub quotient-exact : Exact z k (quotient z k)
  unfolding quotient
  quotient-exact = record { held = quotient-held; value = quotient-value z k; plus-zero = λ e. rw e refl }
