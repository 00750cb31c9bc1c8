-- Judging in parts. A refusal of the first part is one of the whole, and where the first part refuses nothing, the second decides: so goes the
-- law of a list of refusals in two parts, since no refusal has the number 0.
use mathlib.Core.Path.{◌≡◌, ◌∙◌, refl}
use Prim.Native.Nat.{ℕ}
use native.Mathlib.Omega.{arith}
use mathlib.Core.List.{List, ◌++◌}
use Rattle.std.specs.Prelude.{true, false, Result, Ok, Err, is_err}
use Rattle.designs.specs.Outcomes.{Refusal, accepted, first, refused, unless_refused}
use Rattle.designs.proofs.Refusals.{Numbered, gives, of-first, of-second, refuses}
use Rattle.refusals.specs.Methods.{Judged}
use Rattle.refusals.specs.Refusals.{number, refused_by}
use Rattle.refusals.specs.declared.Refusal as D
use Rattle.refusals.specs.declared.methods.Method.{Method}

-- no refusal has the number 0
pub numbered : (r : D.Refusal) → number r ≡ 0 → ⊥
numbered r e = grind arith

module _ (xs ys : List Refusal) {design setting : ℕ} where
  pub refused_first : {r : D.Refusal} → Judged xs design setting (Err r) → Judged (xs ++ ys) design setting (Err r)
  refused_first {r} judged = record { refusal = of-first xs ys judged.refusal (numbered r); method = judged.method }

  module _ {m : Method} (numbers : Numbered xs) (judged : Judged xs design setting (Ok m)) where
    pub refused_second : {r : D.Refusal} → number r ≡ first ys → Judged (xs ++ ys) design setting (Err r)
    refused_second e = record { refusal = e ∙ of-second xs ys numbers judged.refusal refl; method = tt }

    pub taken : 0 ≡ first ys → Judged (xs ++ ys) design setting (Ok m)
    taken e = record { refusal = e ∙ of-second xs ys numbers judged.refusal refl; method = judged.method }

-- an operation that is refused, and one that is not
pub refuse : {X : Type 0} (v : X) (r : D.Refusal) {n : ℕ} → number r ≡ n → refused (number r) ≡ unless_refused n v
refuse v r e = refuses v e (numbered r)

pub give : {X : Type 0} (v : X) {n : ℕ} → 0 ≡ n → accepted v ≡ unless_refused n v
give v e = gives v e refl

-- what a test of a result says of its number
pub accepted_by : {X : Type 0} (r : Result X D.Refusal) → is_err r ≡ false → refused_by r ≡ 0
accepted_by (Ok x) e = refl
accepted_by (Err r) e = cc

pub not_accepted : {X : Type 0} (r : Result X D.Refusal) → is_err r ≡ true → refused_by r ≡ 0 → ⊥
not_accepted (Ok x) e = cc
not_accepted (Err r) e = numbered r
