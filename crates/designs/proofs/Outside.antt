-- What 4 and 20 tell of the operands of a product, whatever the design, the width and the setting: 4 that the first is outside the width,
-- and 20 that the first is inside and the second is not. The refusals that are tried before those of the operands have smaller numbers, and
-- the rest goes by cases.
use mathlib.Core.Path.{◌≡◌, refl, subst}
use Prim.Native.Nat.{ℕ, zero, suc}
use native.Mathlib.Omega.{arith}
use mathlib.Core.Bool.{Bool, true, false}
use mathlib.Core.List.{List}
use lib.Dec.{T, ltb, ltb→lt}
use lib.IntN.{ℤ}
use Rattle.designs.specs.Designs.{product}
use Rattle.designs.specs.Signs.{signed_product}
use Rattle.designs.specs.Outcomes.{refused, Refusal, first, unless_refused}
use Rattle.designs.specs.Products.{design_of, setting_refusals, operand_refusals, refusals, inside_unsigned, inside_signed, unsigned_outcome, signed_outcome}
use Rattle.designs.proofs.Refusals.{among, of-first, of-second, refused-with}
use Rattle.designs.proofs.Tells.{Tells}

operands-tell : (a-inside b-inside : Bool) → Tells (first (operand_refusals a-inside b-inside)) a-inside b-inside
unfolding first operand_refusals
operands-tell false b = (λ e. refl, λ e. absurd (omega arith))
operands-tell true false = (λ e. absurd (omega arith), λ e. (refl, refl))
operands-tell true true = (λ e. absurd (omega arith), λ e. absurd (omega arith))

module _ (design width setting : ℕ) where
  -- what is tried before the operands
  abbrev others : List Refusal
  others = setting_refusals design width setting

  small : T (ltb (first others) 4)
  unfolding setting_refusals
  small = among (λ n. ltb n 4) others tt tt

  first-tells : (a-inside b-inside : Bool) → Tells (first (refusals design width setting a-inside b-inside)) a-inside b-inside
  unfolding refusals setting_refusals
  first-tells a b = go (first others) refl
    where
      go : (n : ℕ) → n ≡ first others → Tells (first (refusals design width setting a b)) a b
      go zero e = subst (λ (k : ℕ). Tells k a b) (of-second others (operand_refusals a b) tt e refl) (operands-tell a b)
      go (suc n) e =
          let l = ltb→lt (first others) 4 small in
          subst (λ (k : ℕ). Tells k a b) (of-first others (operand_refusals a b) e (λ z. omega arith)) (λ f. absurd (omega arith), λ f. absurd (omega arith))

  outcome-tells : {X : Type 0} (a-inside b-inside : Bool) (v : X) {n : ℕ}
      → refused n ≡ unless_refused (first (refusals design width setting a-inside b-inside)) v → Tells n a-inside b-inside
  outcome-tells a-inside b-inside v {n} e =
      subst (λ (k : ℕ). Tells k a-inside b-inside) (refused-with (first (refusals design width setting a-inside b-inside)) n v e).0
      (first-tells a-inside b-inside)

  pub unsigned-tells : (a b : ℕ) {n : ℕ} → refused n ≡ unsigned_outcome design width setting a b → Tells n (inside_unsigned width a) (inside_unsigned width b)
  unfolding unsigned_outcome
  unsigned-tells a b e = outcome-tells (inside_unsigned width a) (inside_unsigned width b) (product (design_of design setting) a b) e

  pub signed-tells : (a b : ℤ) {n : ℕ} → refused n ≡ signed_outcome design width setting a b → Tells n (inside_signed width a) (inside_signed width b)
  unfolding signed_outcome
  signed-tells a b e = outcome-tells (inside_signed width a) (inside_signed width b) (signed_product (design_of design setting) a b) e
