-- Operands inside a width of w bits, and their products by any design: unsigned ones are below 2^w and have a product below 2^(2w); signed
-- ones have sizes up to 2^(w−1) and a product below 2^(2w−1) in size, which 2w bits hold with its sign. Each is a test that was passed, or
-- a law of `Widths` at this w.
use mathlib.Core.Path.{◌≡◌, subst}
use Prim.Native.Nat.{ℕ, suc, ◌-◌, ◌*◌, ◌^◌, ◌≤◌, ◌<◌}
use native.Mathlib.Omega.{arith}
use mathlib.Core.Bool.{true}
use borrow.Author.Tests.{leb-true}
use lib.IntN.{ℤ, pos, negsuc, nat_abs}
use lib.Pow.{pow_pos}
use Rattle.designs.specs.Designs.{Design, product, KeepsBit}
use Rattle.designs.specs.Products.{inside_unsigned, inside_signed}
use Rattle.designs.proofs.Widths.{product_lt, size-lt}

module _ (w : ℕ) where
  pub unsigned-size : (a : ℕ) → inside_unsigned w a ≡ true → a < 2 ^ w
  unsigned-size a h = omega (arith, leb-true a (2 ^ w - 1) h, pow_pos w)

  pub signed-size : (a : ℤ) → inside_signed w a ≡ true → nat_abs a ≤ 2 ^ (w - 1)
  signed-size (pos a) h = omega (arith, leb-true a (2 ^ (w - 1) - 1) h)
  signed-size (negsuc a) h = leb-true (suc a) (2 ^ (w - 1)) h

  pub unsigned-lt : (D : Design) (a b : ℕ) → inside_unsigned w a ≡ true → inside_unsigned w b ≡ true → product D a b < 2 ^ (2 * w)
  unsigned-lt D a b h g = subst (λ (n : ℕ). product D a b < 2 ^ n) (omega arith) (product_lt D w w a b (unsigned-size a h) (unsigned-size b g))

  pub signed_lt : 1 ≤ w → (D : Design) → KeepsBit D → (a b : ℤ) → inside_signed w a ≡ true → inside_signed w b ≡ true
      → product D (nat_abs a) (nat_abs b) < 2 ^ (2 * w - 1)
  signed_lt l D k a b h g =
      subst (λ (n : ℕ). product D (nat_abs a) (nat_abs b) < 2 ^ n) (omega arith)
      (size-lt D k (w - 1) (nat_abs a) (nat_abs b) (signed-size a h) (signed-size b g))
