-- `nearest` computes modulo 2^64 what fits 64 bits.
use Rattle.std.proofs.Common.{◌∙◌, ap₂, arith}
use Rattle.designs.specs.Designs.{nearest, product}
use Rattle.kernels.proofs.NearestSteps.{nearest-wrapped}
use Rattle.kernels.proofs.Zero.{zero}
use Rattle.kernels.proofs.nearest.Goals as goal

pub returns-in_default : goal.returns-in_default
returns-in_default c = zero nearest _ _ c.in_default.ensures.none

pub returns : goal.returns
returns c =
    let a = c.in-Some.a in
    let b = c.in-Some.b in
    let (ea, eb) = c.in-Some.ensures.some in
    c.wrapping_add_u64.ensures.value
    ∙ rw c.shifted.ensures
    (nearest-wrapped 32 a.value b.value c.near_power-k.result c.near_power-m.result c.wrapping_sub_u64-r.result
    a.split.some b.split.some (omega (arith, c.ranges.a.fits)) (omega (arith, c.ranges.b.fits)) c.near_power-k.ensures.is c.near_power-m.ensures.is
    (rw c.power.ensures at c.wrapping_sub_u64-r.ensures.value))
    ∙ ap₂ (product nearest) ea eb
