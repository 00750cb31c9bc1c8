-- Whether a pair counts: its true product is 0 exactly where one of its numbers is.
use mathlib.Core.Path.{◌≡◌, refl, sym, ap, ◌∙◌}
use Prim.Native.Nat.{ℕ, zero, suc, ◌*◌, ◌<◌}
use native.Mathlib.Omega.{arith}
use lib.IntN.{ℤ, pos, negsuc, nat_abs, ◌*ℤ◌}
use mir.Syntax.{w32}
use mir.Val.{SFits, of_z}
use Rattle.designs.specs.Designs.{unless_zero}
use Rattle.designs.specs.Rows.{nonzero}
use Rattle.designs.proofs.Sizes.{size-true}

-- one of two sizes is 0, or none
none : (A B : ℕ) → A * B ≡ 0 → 0 ≡ unless_zero A B 1
none zero B e = refl
none (suc A) zero e = refl
none (suc A) (suc B) e = absurd (omega arith)

pub both : (A B n : ℕ) → A * B ≡ suc n → (0 < A) × (0 < B) × (1 ≡ unless_zero A B 1)
both zero B n e = absurd (omega arith)
both (suc A) zero n e = absurd (omega arith)
both (suc A) (suc B) n e = (omega arith, omega arith, refl)

-- the bits of a number are 0 exactly where it is
pub size_none : (z : ℤ) → SFits w32 z → of_z w32 z ≡ 0 → nat_abs z ≡ 0
size_none (pos zero) h e = refl
size_none (pos (suc n)) h e = absurd (omega arith)
size_none (negsuc n) h e = absurd (omega (arith, h.sfits))

pub size-some : (z : ℤ) → (of_z w32 z ≡ 0 → ⊥) → (n : ℕ) × (nat_abs z ≡ suc n)
size-some (pos zero) e = absurd (e refl)
size-some (pos (suc n)) e = (n, refl)
size-some (negsuc n) e = (n, refl)

-- by the bits of the true product z
module _ (w x z : ℤ) (truth : z ≡ w *ℤ x) where
  size : nat_abs w * nat_abs x ≡ nat_abs z
  size = sym (ap nat_abs truth ∙ size-true w x)

  pub counts-none : SFits w32 z → of_z w32 z ≡ 0 → 0 ≡ nonzero w x
  counts-none h e = none (nat_abs w) (nat_abs x) (size ∙ size_none z h e)

  pub counts-one : (of_z w32 z ≡ 0 → ⊥) → 1 ≡ nonzero w x
  counts-one e = let n = size-some z e in (both (nat_abs w) (nat_abs x) n.0 (size ∙ n.1)).2
