-- What an accepted design and setting give: of a row no setting is another when it is clamped, and a number that is none of 1 to 4 is 5. So each
-- loop serves the design that is asked for, and the setting of that is in its range.
use mathlib.Core.Path.{◌≡◌, refl, sym, ap, ◌∙◌, subst}
use Prim.Native.Nat.{ℕ, zero, suc, ◌≤◌, ◌<◌}
use native.Mathlib.Omega.{arith}
use mathlib.Core.Bool.{true, ◌&&◌}
use borrow.Author.Tests.{leb-true, not-false}
use lib.Dec.{leb}
use Rattle.designs.specs.Designs.{mitchell, nearest, staged, truncated, twice_truncated}
use Rattle.designs.specs.Outcomes.{first}
use Rattle.designs.specs.Products.{design_of, is_design, takes_setting}
use Rattle.designs.specs.Scoring.{design_refusals, row_width}
use Rattle.designs.proofs.Cases.{both, either_lt}
use Rattle.designs.proofs.Refusals.{none}
use Rattle.patterns.specs.Patterns.{clamped}
use Rattle.patterns.proofs.KeptPatterns.{clamped-is}
use Rattle.strips.specs.Stages.{stages_of}
use Rattle.layers.specs.Blocks.{Ranged}

the_last : (n : ℕ) → 1 ≤ n → n ≤ 5 → (n ≡ 1 → ⊥) → (n ≡ 2 → ⊥) → (n ≡ 3 → ⊥) → (n ≡ 4 → ⊥) → n ≡ 5
the_last n h l a b c d = either_lt n 3 (λ m. absurd (low m)) high
  where
    low : n < 3 → ⊥
    low m = omega (arith, a, b)

    high : 3 ≤ n → n ≡ 5
    high m = omega (arith, c, d)

-- a number from 1 to 5
one_of : (P : ℕ → Type 0) → P 1 → P 2 → P 3 → P 4 → P 5 → (n : ℕ) → 1 ≤ n → n ≤ 5 → P n
one_of P a b c d e zero l m = absurd (omega arith)
one_of P a b c d e (suc zero) l m = a
one_of P a b c d e (suc (suc zero)) l m = b
one_of P a b c d e (suc (suc (suc zero))) l m = c
one_of P a b c d e (suc (suc (suc (suc zero)))) l m = d
one_of P a b c d e (suc (suc (suc (suc (suc zero))))) l m = e
one_of P a b c d e (suc (suc (suc (suc (suc (suc n)))))) l m = absurd (omega arith)

module _ (design setting : ℕ) (e : first (design_refusals design setting) ≡ 0) where
  known : is_design design ≡ true
  unfolding design_refusals
  known = not-false (is_design design) (none (design_refusals design setting) tt e 0)

  takes : takes_setting design row_width setting ≡ true
  unfolding design_refusals
  takes = not-false (takes_setting design row_width setting) (none (design_refusals design setting) tt e 1)

  -- the settings of designs 4 and 5
  kept-is : leb 1 setting && leb setting 15 ≡ true → clamped setting ≡ setting
  kept-is t = let range = both (leb 1 setting) (leb setting 15) t in clamped-is setting (leb-true 1 setting range.0) (leb-true setting 15 range.1)

  -- the design that each loop serves is the one that is asked for
  pub first-is : design ≡ 1 → mitchell ≡ design_of design setting
  first-is d = rw d

  pub second_is : design ≡ 2 → nearest ≡ design_of design setting
  second_is d = rw d

  pub third-is : design ≡ 3 → staged (stages_of setting) ≡ design_of design setting
  third-is d =
      let range = both (leb 1 setting) (leb setting 16) (subst (λ (k : ℕ). takes_setting k row_width setting ≡ true) d takes) in
      ap staged (stages-are setting (leb-true 1 setting range.0) (leb-true setting 16 range.1)) ∙ ap (λ (k : ℕ). design_of k setting) (sym d)
    where
      stages-are : (s : ℕ) → 1 ≤ s → s ≤ 16 → stages_of s ≡ s
      stages-are s a b = omega arith

  pub fourth-is : design ≡ 4 → truncated (clamped setting) ≡ design_of design setting
  fourth-is d =
      ap truncated (kept-is (subst (λ (k : ℕ). takes_setting k row_width setting ≡ true) d takes))
      ∙ ap (λ (k : ℕ). design_of k setting) (sym d)

  pub fifth-is : (design ≡ 1 → ⊥) → (design ≡ 2 → ⊥) → (design ≡ 3 → ⊥) → (design ≡ 4 → ⊥)
      → twice_truncated (clamped setting) ≡ design_of design setting
  fifth-is a b c d =
      let range = both (leb 1 design) (leb design 5) known in
      let five = the_last design (leb-true 1 design range.0) (leb-true design 5 range.1) a b c d in
      ap twice_truncated (kept-is (subst (λ (k : ℕ). takes_setting k row_width setting ≡ true) five takes))
      ∙ ap (λ (k : ℕ). design_of k setting) (sym five)

  pub ranged : Ranged (design_of design setting)
  ranged =
      let range = both (leb 1 design) (leb design 5) known in
      one_of (λ n. design ≡ n → Ranged (design_of design setting)) (λ d. subst Ranged (first-is d) tt) (λ d. subst Ranged (second_is d) tt)
      (λ d. subst Ranged (third-is d) (omega arith, omega arith)) (λ d. subst Ranged (fourth-is d) (omega arith, omega arith))
      (λ d. subst Ranged (fifth-is (λ n. omega arith) (λ n. omega arith) (λ n. omega arith) (λ n. omega arith)) (omega arith, omega arith))
      design (leb-true 1 design range.0) (leb-true design 5 range.1) refl
