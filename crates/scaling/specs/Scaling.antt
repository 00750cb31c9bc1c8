-- What handing out a score gives for any input (docs/SCOPE.md, "Handing out a score"). Definitions only.
use Rattle.std.specs.Prelude.{ℕ, ◌^◌, ◌||◌, List, [], ◌∷◌, ltb, ℤ, pos, nat_abs, Result}
use Rattle.designs.specs.Outcomes.{Outcome, accepted, refused, Refusal, ◌when◌, first, unless_refused}
use Rattle.scaling.specs.Quotient.{quotient, Exact}
use Rattle.scaling.specs.declared.Quotients.{Quotients}
use Rattle.refusals.specs.Refusals.{answer, number}
use Rattle.refusals.specs.declared.Refusal as D
use Rattle.refusals.specs.declared.Refusal.TheVariants as R

-- The outcome that an answer is.
abbrev pub scaled_given : Result Quotients D.Refusal → Outcome Quotients
scaled_given = answer

-- The refusals, in order.
abbrev pub shift_too_large : ℕ → Refusal
shift_too_large shift = number R.ShiftTooLarge when ltb 40 shift

abbrev pub size_too_large : ℤ → ℕ → Refusal
size_too_large score magnitude_sum = number R.SizeTooLarge when (ltb (2 ^ 53) (nat_abs score) || ltb (2 ^ 53) magnitude_sum)

abbrev pub refusals : ℤ → ℕ → ℕ → List Refusal
refusals score magnitude_sum shift = shift_too_large shift ∷ size_too_large score magnitude_sum ∷ []

-- Both values, score / 2^shift and T / 2^shift, or the refusal. T is a natural number: the operation has it as a `u64`.
unfoldable pub scaled_outcome : ℤ → ℕ → ℕ → Outcome Quotients
unfolding first quotient
scaled_outcome score magnitude_sum shift =
    unless_refused (first (refusals score magnitude_sum shift))
    (record { score = quotient score shift; magnitude_sum = quotient (pos magnitude_sum) shift })

-- Of an accepted outcome: neither of its two values was rounded.
abbrev pub BothExact : ℤ → ℕ → ℕ → Outcome Quotients → Type 0
BothExact score magnitude_sum shift (accepted v) = Exact score shift v.score × Exact (pos magnitude_sum) shift v.magnitude_sum
BothExact score magnitude_sum shift (refused n) = Unit {0}
