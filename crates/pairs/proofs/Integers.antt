-- Signed machine numbers: widened ones, their sizes and tests, and what fits an i32. Each law goes by the two
-- constructors of ℤ.
use mathlib.Core.Path.{◌≡◌, ap₂, ◌∙◌}
use Prim.Native.Nat.{◌^◌, ◌≤◌, ◌<◌}
use native.Mathlib.Nat.{mul-le-mul}
use native.Mathlib.Omega.{arith}
use lib.Dec.{leb, T}
use lib.IntN.{ℤ, pos, negsuc, nat_abs, ◌*ℤ◌}
use lib.Signed.{mag, nat_abs-le}
use mir.Syntax.{w16, w32, Width}
use mir.Val.{hbits, SFits, to_z, of_z}
use mir.Facts.{to_z-of_z, sfits_widen}
use Rattle.designs.proofs.Sizes.{size-true}

pub size16 : {x : ℤ} → SFits w16 x → nat_abs x ≤ 2 ^ 15
size16 {x} h = nat_abs-le x h.sfits

-- a number of a narrow width in a wider one
pub widens : {v w : Width} {x : ℤ} → T (leb (hbits v) (hbits w)) → SFits v x → SFits w (to_z v (of_z v x))
widens wider h = rw (to_z-of_z h) (sfits_widen wider h)

pub widened : {v : Width} (w : Width) {x : ℤ} → T (leb (hbits v) (hbits w)) → SFits v x → to_z w (of_z w (to_z v (of_z v x))) ≡ x
widened w wider h = rw (to_z-of_z h) (to_z-of_z (sfits_widen wider h))

-- a number of a size below 2^15, or 2^31, fits
pub sized16 : (x : ℤ) → nat_abs x < 2 ^ 15 → SFits w16 x
sized16 (pos n) h = record { sfits = h }
sized16 (negsuc n) h = record { sfits = omega arith }

pub sized : (x : ℤ) → nat_abs x < 2 ^ 31 → SFits w32 x
sized (pos n) h = record { sfits = h }
sized (negsuc n) h = record { sfits = omega arith }

-- a callee's result
pub read_back : {x y : ℤ} → mag x < 2 ^ 31 → x ≡ y → to_z w32 (of_z w32 x) ≡ y
read_back h e = to_z-of_z {w = w32} (record { sfits = h }) ∙ e

pub true-size : {w x : ℤ} → SFits w16 w → SFits w16 x → nat_abs (w *ℤ x) ≤ 2 ^ 30
true-size {w} {x} hw hx = omega (arith, size-true w x, mul-le-mul (size16 hw) (size16 hx))

pub true-fits : {w x : ℤ} → SFits w16 w → SFits w16 x → SFits w32 (w *ℤ x)
true-fits {w} {x} hw hx = sized (w *ℤ x) (omega (arith, true-size hw hx))

-- and read back from a callee's result
pub read-true : {r w x : ℤ} → mag r < 2 ^ 31 → r ≡ to_z w16 (of_z w16 w) *ℤ to_z w16 (of_z w16 x) → SFits w16 w → SFits w16 x
    → to_z w32 (of_z w32 r) ≡ w *ℤ x
read-true h e hw hx = read_back h (e ∙ ap₂ ◌*ℤ◌ (to_z-of_z hw) (to_z-of_z hx))
