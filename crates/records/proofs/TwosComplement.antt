-- The number that bits stand for by two's complement: where the top bit is set, the machine's difference is the integer's; its size is
-- that of its bits; and it is inside the width of so many bits.
use mathlib.Core.Path.{◌≡◌, sym, ap, ◌∙◌}
use Prim.Native.Nat.{ℕ, suc, ◌-◌, ◌*◌, ◌^◌, ◌≤◌, ◌<◌}
use native.Mathlib.Omega.{arith}
use mathlib.Core.Bool.{true}
use borrow.Author.Tests.{le-leb}
use lib.IntN.{ℤ, pos, negsuc, nat_abs, ◌-ℤ◌}
use lib.Pow.{pow_pos}
use mir.Syntax.{w64}
use mir.Val.{SFits}
use Rattle.designs.specs.Products.{inside_signed}
use Rattle.designs.proofs.Cases.{by-lt}
use Rattle.designs.proofs.Differences.{minus, is-neg}
use Rattle.signs.proofs.Integers.{sized}
use Rattle.records.specs.Fields.{signed}

half : (bits : ℕ) → 1 ≤ bits → 2 ^ bits ≡ 2 * 2 ^ (bits - 1)
half bits h = let e : bits ≡ suc (bits - 1) = omega arith in ap (λ (k : ℕ). 2 ^ k) e ∙ omega arith

module _ (bits n : ℕ) (small : n < 2 ^ bits) where
  -- with the top bit set it is negative
  below : pos n -ℤ pos (2 ^ bits) ≡ negsuc (2 ^ bits - 1 - n)
  below = minus n (2 ^ bits) ∙ sym (is-neg n (2 ^ bits) (2 ^ bits - 1 - n) (omega arith))

  pub below-fits : 2 ^ bits ≤ 2 ^ 62 → SFits w64 (pos n -ℤ pos (2 ^ bits))
  below-fits h = rw below (sized (negsuc (2 ^ bits - 1 - n)) (omega arith))

  pub signed-size : nat_abs (signed bits n) < 2 ^ bits
  signed-size = by-lt (λ (z : ℤ). nat_abs z < 2 ^ bits) n (2 ^ (bits - 1)) (λ h. small) (λ h. rw below (omega (arith, pow_pos (bits - 1))))

  pub signed-inside : 1 ≤ bits → inside_signed bits (signed bits n) ≡ true
  signed-inside h =
      by-lt (λ (z : ℤ). inside_signed bits z ≡ true) n (2 ^ (bits - 1)) (λ l. le-leb n (2 ^ (bits - 1) - 1) (omega arith))
      (λ l. rw below (le-leb (suc (2 ^ bits - 1 - n)) (2 ^ (bits - 1)) (omega (arith, half bits h))))
