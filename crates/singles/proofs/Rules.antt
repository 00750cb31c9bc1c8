-- The outcome of a product, in any format, by cases on its tests: which rule the tests lead to, and, the other way, a claim on the
-- outcome from the claim on each rule.
use mathlib.Core.Path.{◌≡◌}
use Prim.Native.Nat.{ℕ, ◌≤◌, ◌<◌}
use mathlib.Core.Bool.{Bool, true, false, not, ◌&&◌, ◌||◌, cond}
use borrow.Author.Tests.{ltb-false}
use Rattle.designs.specs.Outcomes.{Outcome, accepted, refused}
use Rattle.designs.proofs.Cases.{by_bool}
use Rattle.designs.proofs.Refusals.{by-outcome}
use Rattle.formats.specs.Formats.{Format, is_finite, is_subnormal, is_zero, largest_exponent, pattern}
use Rattle.singles.specs.Singles.{Fields, outcome, operand_refusals, result_outcome, result_refusals, sign_of}

module _ (f : Format) (a b : ℕ) (r : Fields) where
  -- a claim on the outcome, from the claim on each case: a refusal, the zero rule, and the result with its fields
  pub by-rule : (P : Outcome ℕ → Type 0)
      → ((n : ℕ) → P (refused n))
      → (is_zero f a || is_zero f b ≡ true → P (accepted (pattern f (sign_of f a b) 0 0)))
      → (0 < r.exponent → r.exponent ≤ largest_exponent f → P (accepted (pattern f (sign_of f a b) r.exponent r.fraction)))
      → P (outcome f a b r)
  unfolding outcome result_outcome operand_refusals result_refusals
  by-rule P refuse zero result =
      by-outcome P (operand_refusals f a b) tt (λ n _. refuse n)
      (λ _. by_bool (λ z. P (cond z (accepted (pattern f s 0 0)) (result_outcome f s r))) (is_zero f a || is_zero f b) zero
      (λ _. by-outcome P (result_refusals f r.exponent) tt (λ n _. refuse n)
      (λ tests. result (ltb-false r.exponent 1 (tests 1)) (ltb-false (largest_exponent f) r.exponent (tests 0)))))
    where
      s : Bool
      s = sign_of f a b

  -- the outcome, from the tests in their order
  pub not_finite : not (is_finite f a && is_finite f b) ≡ true → refused 8 ≡ outcome f a b r
  unfolding outcome
  not_finite h = simp h

  module _ (finite : not (is_finite f a && is_finite f b) ≡ false) where
    pub subnormal : is_subnormal f a || is_subnormal f b ≡ true → refused 9 ≡ outcome f a b r
    unfolding outcome
    subnormal h = simp (finite, h)

    module _ (served : is_subnormal f a || is_subnormal f b ≡ false) {s : Bool} (sign : s ≡ sign_of f a b) where
      pub zero : is_zero f a || is_zero f b ≡ true → accepted (pattern f s 0 0) ≡ outcome f a b r
      unfolding outcome
      zero h = rw sign (simp (finite, served, h))

      pub nonzero : is_zero f a || is_zero f b ≡ false → result_outcome f s r ≡ outcome f a b r
      unfolding outcome result_outcome
      nonzero h = rw sign (simp (finite, served, h))
