-- The residue of design 2 is the product of what its powers leave, for every pair.
use Rattle.std.proofs.Common.{◌≡◌, ◌*ℤ◌, sym, ◌∙◌, ap₂, to_z-of_z, w32, SFits, to_z, of_z}
use Rattle.designs.specs.Designs.{nearest}
use Rattle.designs.specs.Signs.{residue}
use Rattle.signs.proofs.Integers.{fits-as, read_as}
use Rattle.pairs.proofs.Integers.{read_back, size16}
use Rattle.patterns.proofs.ExponentField.{nearest-is}
use Rattle.patterns.proofs.Pair.{residue-fits}
use Rattle.patterns.proofs.methods.NearestMultiplier.residue.Goals as goal

module _ (c : goal.After-offset-2) where
  is : to_z w32 (of_z w32 c.offset.result) *ℤ to_z w32 (of_z w32 c.offset-2.result) ≡ residue nearest c.args.w c.args.x
  is =
      ap₂ ◌*ℤ◌ (read_back c.offset.type_inv (rw (to_z-of_z c.ranges.w) at c.offset.ensures))
      (read_back c.offset-2.type_inv (rw (to_z-of_z c.ranges.x) at c.offset-2.ensures))
      ∙ sym (nearest-is c.args.w c.args.x (size16 c.ranges.w) (size16 c.ranges.x))

  fits : SFits w32 (residue nearest c.args.w c.args.x)
  fits = residue-fits nearest tt c.args.w c.args.x (size16 c.ranges.w) (size16 c.ranges.x)

pub overflow_mul-result : goal.overflow_mul-result
overflow_mul-result c = fits-as (is c) (fits c)

pub returns : goal.returns
returns c = read_as (is c) (fits c)
