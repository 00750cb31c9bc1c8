-- `near_power` reads the bit of 2 × x below its leading one.
use Rattle.std.proofs.Common.{◌≡◌, ℕ, ◌+◌, ◌/◌, ◌%◌, ◌^◌, ◌<◌, ap, ◌∙◌, arith, bit_and}
use lib.Bits.{and_mask}
use Rattle.kernels.proofs.NearestSteps.{lead, bit-mod}
use Rattle.kernels.proofs.near_power.Goals as goal

bit : (x k twice : ℕ) → twice ≡ (x + x) % 2 ^ 32 → k < 32 → bit_and (twice / 2 ^ k) 1 ≡ (x + x) / 2 ^ k % 2
bit x k twice e h = and_mask _ 1 ∙ ap (λ (y : ℕ). y / 2 ^ k % 2) e ∙ bit-mod 32 (x + x) k h

pub returns : goal.returns
returns c =
    let x = c.args.x.split in
    let read = bit c.args.x.value c.args.x.log _ c.wrapping_add_u32-twice.ensures.value x.small in
    record { is = omega (arith, lead _ _ x.some x.log, read); small = omega (arith, read, x.small) }
