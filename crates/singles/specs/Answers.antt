-- The numbers and values that docs/SCOPE.md gives for each case of the answers, and what is promised of a product. Definitions only.
use Rattle.std.specs.Prelude.{◌≡◌, ℕ, Result, Ok, Err, Float}
use Rattle.std.specs.Float.Ieee.{of_bits, to_bits}
use Rattle.std.specs.Float.Ieee as Ieee
use Rattle.designs.specs.Outcomes.{Outcome, accepted, refused}
use Rattle.formats.specs.Formats.{binary32}
use Rattle.singles.specs.Singles.{single_outcome}
use Rattle.singles.specs.Meaning.{NearIfNormal}
use Rattle.refusals.specs.Refusals.{answer, answer_by}
use Rattle.refusals.specs.declared.Refusal.{Refusal}

-- The outcome that an answer is, a value being given by its pattern.
abbrev pub single_given : Result Float Refusal → Outcome ℕ
single_given = answer_by (to_bits Ieee.binary32)

abbrev pub pattern_given : Result ℕ Refusal → Outcome ℕ
pattern_given = answer

-- The pattern of an answer's value, in an answer whose refusals are of any type.
abbrev pub bits_of : {E : Type 0} → Result Float E → Result ℕ E
bits_of (Ok x) = Ok (to_bits Ieee.binary32 x)
bits_of (Err e) = Err e

-- an outcome with the binary32 value of its pattern
abbrev pub as_single : Outcome ℕ → Outcome Float
as_single (accepted p) = accepted (of_bits Ieee.binary32 p)
as_single (refused n) = refused n

-- What is promised of a product: its whole outcome, by the pattern; that its value is the float of that pattern; and what that
-- means as a number.
pub record SingleProduct (a b : ℕ) (r : Result Float Refusal) : Type 0 where
  pub outcome : single_given r ≡ single_outcome a b
  pub value : answer r ≡ as_single (single_outcome a b)
  pub near : NearIfNormal binary32 a b (single_given r)
