-- Both halves of the number fit beside those of the sum, and are what the machine's shift and mask give of it.
use Rattle.std.proofs.Common.{◌≡◌, ℤ, pos, ◌+ℤ◌, ap, ◌∙◌, ap₂, arith, to_z-of_z, w32, SFits, to_z, of_z}
use lib.Bits.{and_mask, bit_and}
use lib.Signed.{shr_z}
use mir.Facts.{to_z_pos}
use Rattle.designs.proofs.Sizes.{size-add}
use Rattle.pairs.proofs.Integers.{sized}
use Rattle.signs.proofs.Integers.{read_as}
use Rattle.strips.specs.Halves.{high_of, low_of, Roomy}
use Rattle.strips.specs.declared.sums.Halves.{Halves}
use Rattle.strips.proofs.HalfSums.{high_small, low_small}
use Rattle.strips.proofs.sums.with.Goals as goal

module _ (h : Halves) (z : ℤ) (room : Roomy h) (z_fits : SFits w32 z) where
  high_fits : SFits w32 (high_of z)
  high_fits = sized (high_of z) (omega (arith, high_small z z_fits.sfits))

  high_is : to_z w32 (of_z w32 h.high) +ℤ to_z w32 (of_z w32 (shr_z (to_z w32 (of_z w32 z)) 65536)) ≡ h.high +ℤ high_of z
  high_is =
      ap₂ ◌+ℤ◌ (to_z-of_z (sized h.high (omega (arith, room.high))))
      (ap (λ (y : ℤ). to_z w32 (of_z w32 (shr_z y 65536))) (to_z-of_z z_fits) ∙ to_z-of_z high_fits)

  high-room : SFits w32 (h.high +ℤ high_of z)
  high-room = sized (h.high +ℤ high_of z) (omega (arith, size-add h.high (high_of z), room.high, high_small z z_fits.sfits))

  low-is : to_z w32 (of_z w32 h.low) +ℤ to_z w32 (bit_and (of_z w32 z) 65535) ≡ h.low +ℤ pos (low_of z)
  low-is =
      ap₂ ◌+ℤ◌ (to_z-of_z (sized h.low (omega (arith, room.low))))
      (ap (to_z w32) (and_mask (of_z w32 z) 16) ∙ to_z_pos w32 {n = low_of z} (omega (arith, low_small z)))

  low-room : SFits w32 (h.low +ℤ pos (low_of z))
  low-room = sized (h.low +ℤ pos (low_of z)) (omega (arith, size-add h.low (pos (low_of z)), room.low, low_small z))

pub returns : goal.returns
returns c =
    let h = c.args.halves in
    let z = c.args.z in
    ap₂ (λ (high low : ℤ). record { high = high; low = low })
    (read_as (high_is h z c.requires c.ranges.z) (high-room h z c.requires c.ranges.z))
    (read_as (low-is h z c.requires c.ranges.z) (low-room h z c.requires c.ranges.z))
