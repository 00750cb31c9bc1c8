-- Operands inside a width: widths that hold every 64-bit number, and what a width of at most 32 bits leaves to the kernels. Each goes by
-- the two constructors of ℤ or by the growth of powers.
use mathlib.Core.Path.{◌≡◌, sym}
use Prim.Native.Nat.{ℕ, suc, ◌-◌, ◌*◌, ◌^◌, ◌≤◌, ◌<◌}
use native.Mathlib.Nat.{le_trans, lt_of_lt_of_le}
use native.Mathlib.Omega.{arith}
use mathlib.Core.Bool.{true}
use borrow.Author.Tests.{le-leb}
use lib.IntN.{ℤ, pos, negsuc, nat_abs}
use lib.Pow.{pow_mono}
use Rattle.designs.specs.Designs.{Design, KeepsBit}
use Rattle.designs.specs.Products.{inside_unsigned, inside_signed}
use Rattle.designs.proofs.Inside.{unsigned-size, signed-size, signed_lt}
use Rattle.products.specs.Signable.{Signable}

-- every number below 2^64 is inside 64 bits and more
below_power : (v a : ℕ) → 63 < v → a < 2 ^ 64 → a ≤ 2 ^ v - 1
below_power v a h l = omega (arith, pow_mono {i = 64} {j = v} h)

pub unsigned-wide : (w a : ℕ) → 63 < w → a < 2 ^ 64 → true ≡ inside_unsigned w a
unsigned-wide w a h l = sym (le-leb a (2 ^ w - 1) (below_power w a h l))

pub signed-wide : (w : ℕ) (a : ℤ) → 63 < w - 1 → nat_abs a ≤ 2 ^ 63 → true ≡ inside_signed w a
signed-wide w (pos a) h l = sym (le-leb a (2 ^ (w - 1) - 1) (below_power (w - 1) a h (omega arith)))
signed-wide w (negsuc a) h l = sym (le-leb (suc a) (2 ^ (w - 1)) (omega (arith, below_power (w - 1) (suc a) h (omega arith))))

-- at any width up to 32, unsigned operands fit the kernels, and so do the sizes of signed ones, whose product leaves room for its sign
module _ (w : ℕ) (few : w ≤ 32) where
  pub unsigned-fits : (a : ℕ) → inside_unsigned w a ≡ true → a < 2 ^ 32
  unsigned-fits a h = lt_of_lt_of_le (unsigned-size w a h) (pow_mono few)

  size_fits : (a : ℤ) → inside_signed w a ≡ true → nat_abs a ≤ 2 ^ 31
  size_fits a h = le_trans (signed-size w a h) (pow_mono {i = w - 1} {j = 31} (omega arith))

  pub signable : 1 ≤ w → (D : Design) → KeepsBit D → (a b : ℤ) → inside_signed w a ≡ true → inside_signed w b ≡ true → Signable D a b
  signable l D k a b h g = record {
    first = size_fits a h;
    second = size_fits b g;
    fits = lt_of_lt_of_le (signed_lt w l D k a b h g) (pow_mono {i = 2 * w - 1} {j = 63} (omega arith));
  }
