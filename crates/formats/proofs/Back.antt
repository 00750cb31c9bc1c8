-- The fields of a pattern that is made of a sign, an exponent field and a fraction field are those three, in any format: the pattern
-- is their digits, so dividing by the weights brings them back.
use mathlib.Core.Path.{◌≡◌, refl, ap, ◌∙◌}
use Prim.Native.Nat.{ℕ, ◌+◌, ◌*◌, ◌/◌, ◌^◌, ◌<◌}
use native.Mathlib.Nat.{add_comm}
use mathlib.Core.Bool.{Bool, true, false, cond}
use lib.Dec.{eqb}
use lib.Pow.{high, low, shr-shr}
use Rattle.formats.specs.Formats.{Format, exponent_field, fraction_field, hidden, is_minus, pattern}

module _ (f : Format) (minus : Bool) (E e : ℕ) (h_e : E < 2 ^ f.exponent_bits) (he : e < hidden f) where
  -- the pattern without its fraction field
  upper : pattern f minus E e / hidden f ≡ cond minus 1 0 * 2 ^ f.exponent_bits + E
  upper = high (cond minus 1 0 * 2 ^ f.exponent_bits + E) f.fraction_bits he

  pub fraction-back : fraction_field f (pattern f minus E e) ≡ e
  fraction-back = low (cond minus 1 0 * 2 ^ f.exponent_bits + E) f.fraction_bits he

  pub exponent-back : exponent_field f (pattern f minus E e) ≡ E
  exponent-back = rw upper (low (cond minus 1 0) f.exponent_bits h_e)

  pub minus-back : is_minus f (pattern f minus E e) ≡ minus
  minus-back = ap (λ (s : ℕ). eqb s 1) bit ∙ told minus
    where
      bit : pattern f minus E e / 2 ^ (f.exponent_bits + f.fraction_bits) ≡ cond minus 1 0
      bit =
          rw (add_comm f.exponent_bits f.fraction_bits, ← shr-shr (pattern f minus E e) f.fraction_bits f.exponent_bits, upper)
          (high (cond minus 1 0) f.exponent_bits h_e)

      told : (t : Bool) → eqb (cond t 1 0) 1 ≡ t
      told true = refl
      told false = refl
