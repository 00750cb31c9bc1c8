-- One pair of 16-bit numbers. Its sizes are at most 2^15, so that its true product has at most 31 bits, and so have the design's product and
-- the residue.
use Prim.Native.Nat.{ℕ, ◌^◌, ◌≤◌}
use native.Mathlib.Omega.{arith}
use lib.Ieee.{unlike}
use lib.IntN.{ℤ, nat_abs, ◌*ℤ◌}
use mir.Syntax.{w16}
use mir.Val.{SFits}
use Rattle.designs.specs.Designs.{Design, KeepsBit, product}
use Rattle.designs.specs.Signs.{negative, signed_product, residue}
use Rattle.designs.proofs.Sizes.{size-sign}
use Rattle.pairs.proofs.Integers.{size16, true-size}
use Rattle.patterns.proofs.Pair.{product-size, residue-size}

-- the largest size of a product or a residue
abbrev pub most : ℕ
most = 2147483647

pub record Bounds (D : Design) (w x : ℤ) : Type 0 where
  pub product-size : nat_abs (signed_product D w x) ≤ most
  pub true-size : nat_abs (w *ℤ x) ≤ 2 ^ 30
  pub residue-size : nat_abs (residue D w x) ≤ most

pub bounds : (D : Design) (w x : ℤ) → KeepsBit D → SFits w16 w → SFits w16 x → Bounds D w x
unfolding signed_product
bounds D w x k hw hx =
    record {
      product-size = rw (size-sign (unlike (negative w) (negative x)) (product D (nat_abs w) (nat_abs x))) (omega (arith, product-size D k w x (size16 hw) (size16 hx)));
      true-size = true-size hw hx;
      residue-size = omega (arith, residue-size D k w x (size16 hw) (size16 hx));
    }
