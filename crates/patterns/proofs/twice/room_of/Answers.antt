-- The kept bits of x and the carry are at most 2^t, which stands at 2^23.
use Rattle.std.proofs.Common.{◌≡◌, ℕ, ◌+◌, ◌-◌, ◌*◌, ◌^◌, ◌≤◌, nat_abs, ap, ◌∙◌, ap₂, mul-le-mul_right, arith, to_z-of_z}
use Rattle.designs.specs.Designs.{kept}
use Rattle.designs.proofs.Parts.{up_to}
use Rattle.designs.proofs.Truncated.{kept-lt}
use Rattle.patterns.specs.Patterns.{clamped}
use Rattle.patterns.proofs.twice.room_of.Goals as goal

module _ (c : goal.After-last_place) where
  abbrev t : ℕ
  t = clamped c.args.kept_bits

  abbrev A : ℕ
  A = nat_abs c.args.x

  taken : c.fraction_of.result + c.last_place.result ≡ kept t A * 2 ^ (23 - t) + 2 ^ (23 - t)
  taken =
      ap₂ ◌+◌ (c.fraction_of.ensures ∙ ap (λ (A : ℕ). kept t A * 2 ^ (23 - t)) (ap nat_abs (to_z-of_z c.ranges.x)))
      (c.last_place.ensures ∙ ap (λ (t : ℕ). 2 ^ (23 - t)) c.of.ensures)

  small : c.fraction_of.result + c.last_place.result ≤ 2 ^ 23
  small = omega (arith, taken, up_to 23 t (omega arith), mul-le-mul_right (2 ^ (23 - t)) (kept-lt t A))

pub overflow_add-result : goal.overflow_add-result
overflow_add-result c = record { fits = omega (arith, small c) }

pub overflow_sub-result : goal.overflow_sub-result
overflow_sub-result c = small c
