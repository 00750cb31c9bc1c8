-- The outcome that an answer is. Definitions only.
use Rattle.std.specs.Prelude.{ℕ, ℤ, Result}
use Rattle.designs.specs.Outcomes.{Outcome}
use Rattle.refusals.specs.Refusals.{answer}
use Rattle.refusals.specs.declared.Refusal.{Refusal}

abbrev pub unsigned_given : Result ℕ Refusal → Outcome ℕ
unsigned_given = answer

abbrev pub signed_given : Result ℤ Refusal → Outcome ℤ
signed_given = answer
