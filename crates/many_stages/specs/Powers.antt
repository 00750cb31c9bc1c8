-- Numbers as sums of signed powers of two, none of which is 0. Definitions only.
use Rattle.std.specs.Prelude.{ℕ, zero, suc, ◌*◌, ◌^◌, cond, ℤ, pos, ◌+ℤ◌, ◌-ℤ◌, ◌*ℤ◌, ◌==◌, nat_lt, unsigned_abs}
use Rattle.std.specs.Int.Signed.{shr_z}
use Rattle.designs.specs.Designs.{near_power, rest}
use Rattle.designs.specs.Signs.{negative, with_sign}

-- The size of the power that is taken off a number of size n: 1 of 0, twice a power of two, and of any other size the nearest power. It is
-- never n itself, so that something is left.
unfoldable pub taken_of : ℕ → ℕ
unfolding rest near_power
taken_of zero = 1
taken_of (suc n) = cond (rest (suc n) == 0) (2 * suc n) (2 ^ near_power (suc n))

unfoldable pub next_power : ℤ → ℤ
unfolding taken_of
next_power z = with_sign (negative z) (taken_of (unsigned_abs z))

-- what is left of a number once i such powers are taken off
unfoldable pub left_by : ℕ → ℤ → ℤ
unfolding next_power
left_by zero z = z
left_by (suc i) z = left_by i z -ℤ next_power (left_by i z)

-- Power i, counted from 0, of m + 1 powers that z is the sum of: the last is what the others leave.
abbrev pub power_at : ℕ → ℕ → ℤ → ℤ
power_at m i z = cond (nat_lt i m) (next_power (left_by i z)) (left_by m z)

-- A number of 16 bits as 256 times one from −128 to 128, and another.
abbrev pub high_byte : ℤ → ℤ
high_byte z = shr_z (z +ℤ pos 128) (2 ^ 8)

abbrev pub low_byte : ℤ → ℤ
low_byte z = z -ℤ high_byte z *ℤ pos 256
