-- How an outcome is laid out for C: a refusal of 0 with the value, or the refusal's number with every other field 0. Definitions only.
use Rattle.std.specs.Prelude.{ℕ, ℤ, pos, Result, Ok, Err}
use Rattle.std.specs.Float.{binary32}
use Rattle.std.specs.Float.Ieee.{of_bits}
use Rattle.designs.specs.Outcomes.{Outcome, accepted, refused}
use Rattle.refusals.specs.Refusals.{number}
use Rattle.refusals.specs.declared.Refusal.{Refusal}
use Rattle.scaling.specs.Quotient.{plus_zero}
use Rattle.scaling.specs.declared.Quotients.{Quotients}
use Rattle.capi.specs.declared.UnsignedProduct.{UnsignedProduct}
use Rattle.capi.specs.declared.SignedProduct.{SignedProduct}
use Rattle.capi.specs.declared.SingleProduct.{SingleProduct}
use Rattle.capi.specs.declared.Scaled.{Scaled as CScaled}

-- the value and 0, or zeros and the number
abbrev pub laid : {X : Type 0} → Result X Refusal → X → X × ℕ
laid (Ok v) zeros = (v, 0)
laid (Err r) zeros = (zeros, number r)

abbrev pub unsigned_struct : Outcome ℕ → UnsignedProduct
unsigned_struct (accepted v) = record { product = v; refusal = 0 }
unsigned_struct (refused n) = record { product = 0; refusal = n }

abbrev pub signed_struct : Outcome ℤ → SignedProduct
signed_struct (accepted v) = record { product = v; refusal = 0 }
signed_struct (refused n) = record { product = pos 0; refusal = n }

abbrev pub scaled_struct : Outcome Quotients → CScaled
scaled_struct (accepted v) = record { score = v.score; magnitude_sum = v.magnitude_sum; refusal = 0 }
scaled_struct (refused n) = record { score = plus_zero; magnitude_sum = plus_zero; refusal = n }

-- the value of a pattern
abbrev pub single_struct : Outcome ℕ → SingleProduct
single_struct (accepted p) = record { value = of_bits binary32 p; refusal = 0 }
single_struct (refused n) = record { value = of_bits binary32 0; refusal = n }
