-- Both terms of the difference fit an i32, and the difference is a byte.
use Rattle.std.proofs.Common.{◌≡◌, ℤ, pos, ◌-ℤ◌, ◌*ℤ◌, ap, ◌∙◌, ap₂, arith, to_z-of_z, w16, w32, SFits, to_z, of_z}
use Rattle.designs.proofs.Sizes.{size-true}
use Rattle.pairs.proofs.Integers.{sized, sized16, widened}
use Rattle.signs.proofs.Integers.{fits-as, read_as}
use Rattle.many_stages.specs.Powers.{high_byte, low_byte}
use Rattle.many_stages.proofs.Bytes.{high_small, low_small}
use Rattle.many_stages.proofs.powers.low_byte.Goals as goal

abbrev wide : ℤ → ℤ
wide y = to_z w32 (of_z w32 (to_z w16 (of_z w16 y)))

module _ {x : ℤ} (h : SFits w16 x) where
  times-fits : SFits w32 (high_byte x *ℤ pos 256)
  times-fits = sized (high_byte x *ℤ pos 256) (omega (arith, size-true (high_byte x) (pos 256), high_small x h.sfits))

  low_fits : SFits w16 (low_byte x)
  low_fits = sized16 (low_byte x) (omega (arith, low_small x h.sfits))

  module _ {r : ℤ} (h' : SFits w16 r) (e : r ≡ high_byte (to_z w16 (of_z w16 x))) where
    times-is : wide r *ℤ pos 256 ≡ high_byte x *ℤ pos 256
    times-is = ap (λ (y : ℤ). y *ℤ pos 256) (widened w32 tt h' ∙ e ∙ ap high_byte (to_z-of_z h))

    less-is : wide x -ℤ to_z w32 (of_z w32 (wide r *ℤ pos 256)) ≡ low_byte x
    less-is = ap₂ ◌-ℤ◌ (widened w32 tt h) (read_as times-is times-fits)

    low-is : to_z w32 (of_z w32 (wide x -ℤ to_z w32 (of_z w32 (wide r *ℤ pos 256)))) ≡ low_byte x
    low-is = read_as less-is (sized (low_byte x) (omega (arith, low_small x h.sfits)))

pub overflow_cast-result-3 : goal.overflow_cast-result-3
overflow_cast-result-3 c = fits-as (low-is c.ranges.x (record { sfits = c.high_byte.type_inv }) c.high_byte.ensures) (low_fits c.ranges.x)

pub returns : goal.returns
returns c = read_as (low-is c.ranges.x (record { sfits = c.high_byte.type_inv }) c.high_byte.ensures) (low_fits c.ranges.x)
