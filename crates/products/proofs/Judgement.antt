-- The judgement of a product, first by its design, width and setting, and then by its operands: the number that is found is the first of the
-- whole list, by the law of a list in two parts.
use mathlib.Core.Path.{◌≡◌, ap₂, ◌∙◌}
use Prim.Native.Nat.{ℕ}
use mathlib.Core.Bool.{Bool}
use Rattle.designs.specs.Outcomes.{first}
use Rattle.designs.specs.Products.{setting_refusals, operand_refusals, refusals}
use Rattle.designs.proofs.Refusals.{of-first, of-second}

module _ (design width setting : ℕ) (a b : Bool) where
  abbrev pub Judged : ℕ → Type 0
  Judged n = n ≡ first (refusals design width setting a b)

  module _ {s : ℕ} (is : s ≡ first (setting_refusals design width setting)) where
    pub by-setting : (s ≡ 0 → ⊥) → Judged s
    unfolding refusals
    by-setting h = of-first (setting_refusals design width setting) (operand_refusals a b) is h

    pub by-operands : s ≡ 0 → {n : ℕ} → n ≡ first (operand_refusals a b) → Judged n
    unfolding refusals setting_refusals
    by-operands z e = e ∙ of-second (setting_refusals design width setting) (operand_refusals a b) tt is z

    -- of operands that have been judged one by one
    pub by-each : s ≡ 0 → {x y : Bool} → x ≡ a → y ≡ b → {n : ℕ} → n ≡ first (operand_refusals x y) → Judged n
    by-each z p q e = by-operands z (e ∙ ap₂ (λ (x y : Bool). first (operand_refusals x y)) p q)
