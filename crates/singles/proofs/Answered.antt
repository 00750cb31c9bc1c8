-- What is promised of a product follows from what it is, the answer of its outcome: by cases on the rule that applies, the pattern
-- is a finite number's, so that it is brought back, and where no operand is zero its fields are those of `Nearness`.
use mathlib.Core.Path.{◌≡◌, refl, ap, ◌∙◌, subst⁻¹}
use Prim.Native.Nat.{ℕ, zero-le}
use mathlib.Core.Bool.{false≢true}
use lib.Dec.{lit<}
use lib.Ieee.{Float, to_bits}
use lib.Ieee as Ieee
use Rattle.std.specs.Prelude.{Result, Ok, Err}
use Rattle.designs.specs.Outcomes.{Outcome, accepted, refused}
use Rattle.formats.specs.Formats.{binary32}
use Rattle.formats.proofs.Normals.{not-zero}
use Rattle.formats.proofs.Values.{bits_back}
use Rattle.refusals.specs.Refusals.{answer}
use Rattle.refusals.specs.declared.Refusal.{Refusal}
use Rattle.singles.specs.Singles.{product_fields, sign_of, single_outcome}
use Rattle.singles.specs.Meaning.{NearIfNormal}
use Rattle.singles.specs.Answers.{SingleProduct, as_single, bits_of, pattern_given, single_given}
use Rattle.singles.proofs.Rules.{by-rule}
use Rattle.singles.proofs.Nearness.{fraction-lt, near}

-- an outcome with the pattern of its value, and so is what is given
abbrev as_pattern : Outcome Float → Outcome ℕ
as_pattern (accepted x) = accepted (to_bits Ieee.binary32 x)
as_pattern (refused n) = refused n

patterns : (r : Result Float Refusal) → single_given r ≡ as_pattern (answer r)
patterns (Ok x) = refl
patterns (Err r) = refl

-- of a product's answer, its pattern gives the outcome that the answer gives
pub bits-given : (r : Result Float Refusal) → pattern_given (bits_of r) ≡ single_given r
bits-given (Ok x) = refl
bits-given (Err r) = refl

module _ (a b : ℕ) where
  given : as_pattern (as_single (single_outcome a b)) ≡ single_outcome a b
  unfolding single_outcome
  given =
      by-rule binary32 a b (product_fields binary32 a b) (λ o. as_pattern (as_single o) ≡ o) (λ n. refl)
      (λ z. ap accepted (bits_back (sign_of binary32 a b) 0 0 zero-le (lit< tt)))
      (λ h l. ap accepted (bits_back (sign_of binary32 a b) _ _ l (fraction-lt binary32 a b)))

  means : NearIfNormal binary32 a b (single_outcome a b)
  unfolding single_outcome
  means =
      by-rule binary32 a b (product_fields binary32 a b) (NearIfNormal binary32 a b) (λ n. tt)
      (λ z n m. absurd (false≢true (simp (not-zero binary32 a n, not-zero binary32 b m) at z))) (λ h l n m. near binary32 a b h l)

  pub answered : (r : Result Float Refusal) → answer r ≡ as_single (single_outcome a b) → SingleProduct a b r
  answered r e =
      let outcome = patterns r ∙ ap as_pattern e ∙ given in
      record { outcome = outcome; value = e; near = subst⁻¹ (NearIfNormal binary32 a b) outcome means }
