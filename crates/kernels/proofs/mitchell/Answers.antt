-- `mitchell` adds both rests, each shifted by the other's power, and takes the greater of the two cases.
use Rattle.std.proofs.Common.{◌≡◌, ℕ, ◌+◌, ◌*◌, ◌^◌, max, ap, ◌∙◌, ap₂, arith}
use Rattle.designs.specs.Designs.{mitchell, product, rest}
use Rattle.kernels.proofs.Zero.{zero}
use Rattle.kernels.proofs.MitchellSteps.{Sum, sum}
use Rattle.kernels.proofs.mitchell.Goals as goal
use Rattle.kernels.proofs.mitchell.Goals.{After-shifted}

-- the operands' powers and their sum, when both rests have been shifted
module _ (c : After-shifted) where
  abbrev K : ℕ
  K = 2 ^ c.in-Some.a.log

  abbrev M : ℕ
  M = 2 ^ c.in-Some.b.log

  sum_at : Sum 32 c.in-Some.a.value c.in-Some.b.value c.in-Some.a.log c.in-Some.b.log
  sum_at =
      let (ea, eb) = c.in-Some.ensures.some in
      let a = c.in-Some.a.split in
      let b = c.in-Some.b.split in
      sum 32 _ _ _ _ a.some b.some (omega (arith, c.ranges.a.fits)) (omega (arith, c.ranges.b.fits)) a.log b.log

  y_is : c.shifted-y.result ≡ rest c.in-Some.b.value * K
  y_is = c.shifted-y.ensures ∙ ap (λ (x : ℕ). x * K) c.in-Some.b.split.left

  s_is : c.shifted.result + c.shifted-y.result ≡ rest c.in-Some.a.value * M + rest c.in-Some.b.value * K
  s_is = ap₂ ◌+◌ (c.shifted.ensures ∙ ap (λ (x : ℕ). x * M) c.in-Some.a.split.left) y_is

pub returns-in_default : goal.returns-in_default
returns-in_default c = zero mitchell _ _ c.in_default.ensures.none

pub overflow_add-shifted : goal.overflow_add-shifted
overflow_add-shifted c =
    let b = (goal.at.overflow_add-shifted c).After-shifted in
    record { fits = omega (arith, y_is b, (sum_at b).whole, (sum_at b).small, (sum_at b).room) }

pub overflow_add-s-2 : goal.overflow_add-s-2
overflow_add-s-2 c =
    let b = (goal.at.overflow_add-s-2 c).After-shifted in
    record { fits = omega (arith, s_is b, (sum_at b).small, (sum_at b).room) }

pub returns : goal.returns
returns c =
    let b = (goal.at.returns c).After-shifted in
    let (ea, eb) = c.in-Some.ensures.some in
    c.max.ensures
    ∙ ap₂ max (ap₂ ◌+◌ c.shifted-2.ensures (y_is b) ∙ (sum_at b).whole) (ap₂ ◌+◌ (s_is b) (s_is b))
    ∙ (sum_at b).is ∙ ap₂ (product mitchell) ea eb
