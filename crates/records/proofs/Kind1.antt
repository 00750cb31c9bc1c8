-- A record of kind 1 is refused with neither 4 nor 20: either would tell of an operand outside the width, and each of the record's has 16
-- bits and so is inside. Assumes that the body's elements are bytes, as those of a slice of bytes are.
use mathlib.Core.Path.{◌≡◌, refl, sym, ◌∙◌}
use Prim.Native.Nat.{ℕ, ◌+◌, ◌<◌}
use native.Mathlib.Omega.{arith}
use mathlib.Core.Bool.{true, false≢true}
use mathlib.Core.List.{List}
use lib.ListN.{get_or}
use Rattle.designs.specs.Outcomes.{refused}
use Rattle.designs.specs.Products.{inside_signed}
use Rattle.designs.proofs.Outside.{signed-tells}
use Rattle.designs.proofs.Tells.{Tells}
use Rattle.records.specs.Fields.{field8, field16, signed}
use Rattle.records.specs.Kinds.{signed_record}
use Rattle.records.proofs.TwosComplement.{signed-inside}

module _ (b : List ℕ) (bytes : (i : ℕ) → get_or b i 0 < 256) where
  inside : (i : ℕ) → inside_signed 16 (signed 16 (field16 b i)) ≡ true
  inside i = signed-inside 16 (field16 b i) (omega (arith, bytes i, bytes (i + 1))) (omega arith)

  told : {n : ℕ} → refused n ≡ signed_record b → Tells n (inside_signed 16 (signed 16 (field16 b 2))) (inside_signed 16 (signed 16 (field16 b 4)))
  unfolding signed_record
  told e = signed-tells (field8 b 0) 16 (field8 b 1) (signed 16 (field16 b 2)) (signed 16 (field16 b 4)) e

  pub not-4 : refused 4 ≡ signed_record b → ⊥
  not-4 e = false≢true (sym ((told e).0 refl) ∙ inside 2)

  pub not-20 : refused 20 ≡ signed_record b → ⊥
  not-20 e = false≢true (sym ((told e).1 refl).1 ∙ inside 4)
