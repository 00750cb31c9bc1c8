-- Sums of 32-bit numbers in two numbers of 32 bits. Definitions only.
use Rattle.std.specs.Prelude.{◌≡◌, ℕ, ◌*◌, ◌%◌, ◌^◌, ◌<◌, ◌≤◌, ℤ, pos, ◌+ℤ◌, ◌*ℤ◌, unsigned_abs}
use Rattle.std.specs.Int.Signed.{shr_z}
use Rattle.std.specs.Int.{w32}
use Rattle.std.proofs.Common.{of_z}
use Rattle.strips.specs.declared.sums.Halves.{Halves}

-- the sum of no numbers
abbrev pub no_halves : Halves
no_halves = record { high = pos 0; low = pos 0 }

-- a number's whole part on division by 2^16, and what is left of it, from 0 to 2^16 − 1
abbrev pub high_of : ℤ → ℤ
high_of z = shr_z z (2 ^ 16)

abbrev pub low_of : ℤ → ℕ
low_of z = of_z w32 z % 2 ^ 16

-- the sum with one number more
abbrev pub with_number : Halves → ℤ → Halves
with_number h z = record { high = h.high +ℤ high_of z; low = h.low +ℤ pos (low_of z) }

abbrev pub joined_of : Halves → ℤ
joined_of h = h.high *ℤ pos 65536 +ℤ h.low

-- halves that have room for a number more
pub record Roomy (h : Halves) : Type 0 where
  pub high : unsigned_abs h.high < 2 ^ 30
  pub low : unsigned_abs h.low < 2 ^ 30

-- h is the sum z of n numbers
pub record Held (h : Halves) (z : ℤ) (n : ℕ) : Type 0 where
  pub is : joined_of h ≡ z
  pub high : unsigned_abs h.high ≤ n * 2 ^ 16
  pub low : unsigned_abs h.low ≤ n * 2 ^ 16
