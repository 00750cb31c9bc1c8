-- How an operation answers: with a value, or with the number of the first refusal that applies. Definitions only.
use Rattle.std.specs.Prelude.{ℕ, zero, suc, Bool, cond, List, [], ◌∷◌}

-- The answer of an operation: a value, or the number of a refusal.
pub data Outcome (X : Type 0) : Type 0 where
  accepted : X → Outcome X
  refused : ℕ → Outcome X

-- A refusal: its number, and whether it applies.
pub record Refusal : Type 0 where
  pub number : ℕ
  pub applies : Bool

infix 70 ◌when◌
abbrev pub ◌when◌ : ℕ → Bool → Refusal
n when b = record { number = n; applies = b }

-- The number of the first refusal that applies, or 0.
unfoldable pub first : List Refusal → ℕ
first [] = 0
first (r ∷ rs) = cond r.applies r.number (first rs)

-- The outcome o unless a refusal applies.
abbrev pub otherwise : {X : Type 0} → ℕ → Outcome X → Outcome X
otherwise zero o = o
otherwise (suc n) o = refused (suc n)

-- The value v unless a refusal applies.
abbrev pub unless_refused : {X : Type 0} → ℕ → X → Outcome X
unless_refused n v = otherwise n (accepted v)
