-- The widths as bits of a number: where one computed test finds that the lowest 64 bits are set just at the widths, so is any of them, and
-- no width is beyond.
use mathlib.Core.Path.{◌≡◌, refl}
use Prim.Native.Nat.{ℕ, ◌/◌, ◌^◌, ◌≤◌, ◌<◌}
use native.Mathlib.Omega.{arith}
use mathlib.Core.Bool.{Bool, true, false, beq}
use lib.Bits.{bit_and}
use lib.Dec.{T, eqb}
use Rattle.designs.specs.Lists.{every_below}
use Rattle.designs.specs.Products.{is_width}
use Rattle.designs.proofs.Cases.{by_bool}
use Rattle.designs.proofs.Lists.{of-below}
use Rattle.designs.proofs.Settings.{width-bounds}

abbrev pub bit : ℕ → ℕ → Bool
bit n w = eqb (bit_and (n / 2 ^ w) 1) 1

alike : (a b : Bool) → T (beq a b) → a ≡ b
alike true true h = refl
alike true false h = absurd h
alike false true h = absurd h
alike false false h = refl

pub within : (n w : ℕ) → T (every_below (λ (k : ℕ). beq (bit n k) (is_width k)) 64) → w < 64 → bit n w ≡ is_width w
within n w h l = alike (bit n w) (is_width w) (of-below (λ (k : ℕ). beq (bit n k) (is_width k)) 64 w h l)

pub beyond : (w : ℕ) → 64 ≤ w → false ≡ is_width w
beyond w h = by_bool (λ (b : Bool). false ≡ b) (is_width w) (λ e. absurd (omega (arith, (width-bounds w e).1))) (λ _. refl)
