-- The struct of an answer is that of its outcome: by the two cases of the answer, of a value and of a refusal.
use Rattle.std.specs.Prelude.{◌≡◌, ℕ, ℤ, pos, Result, Ok, Err}
use Rattle.std.specs.Float.{Float, binary32}
use Rattle.std.specs.Float.Ieee.{of_bits}
use Rattle.std.proofs.Common.{refl, sym}
use Rattle.designs.specs.Outcomes.{Outcome, accepted, refused}
use Rattle.refusals.specs.Refusals.{answer, number}
use Rattle.refusals.specs.declared.Refusal.{Refusal}
use Rattle.scaling.specs.Quotient.{plus_zero}
use Rattle.scaling.specs.declared.Quotients.{Quotients}
use Rattle.singles.specs.Answers.{as_single}
use Rattle.capi.specs.Structs.{laid, signed_struct, scaled_struct, single_struct}

pub signed-laid : (r : Result ℤ Refusal) {o : Outcome ℤ} {p : ℤ × ℕ} → answer r ≡ o → p ≡ laid r (pos 0) → record { product = p.0; refusal = p.1 } ≡ signed_struct o
signed-laid (Ok v) e l = rw (l, sym e) refl
signed-laid (Err n) e l = rw (l, sym e) refl

pub scaled-laid : (r : Result Quotients Refusal) {o : Outcome Quotients} {p : Quotients × ℕ} {z : Float} → z ≡ plus_zero → answer r ≡ o → p ≡ laid r (record { score = z; magnitude_sum = z })
    → record { score = p.0.score; magnitude_sum = p.0.magnitude_sum; refusal = p.1 } ≡ scaled_struct o
scaled-laid (Ok v) zero e l = rw (l, sym e) refl
scaled-laid (Err n) zero e l = rw (l, sym e, zero) refl

-- the value is that of the pattern
pub single-laid : (r : Result Float Refusal) (o : Outcome ℕ) {p : Float × ℕ} → answer r ≡ as_single o → p ≡ laid r (of_bits binary32 0) → record { value = p.0; refusal = p.1 } ≡ single_struct o
single-laid (Ok v) (accepted n) e l = let same : v ≡ of_bits binary32 n = cc in rw (l, same) refl
single-laid (Ok v) (refused n) e l = cc
single-laid (Err r) (accepted n) e l = cc
single-laid (Err r) (refused n) e l = let same : number r ≡ n = cc in rw (l, same) refl
