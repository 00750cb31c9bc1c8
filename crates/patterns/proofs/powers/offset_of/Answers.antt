-- What the nearest power leaves of 16 bits has 16 bits.
use Rattle.std.proofs.Common.{◌≡◌, ◌^◌, ap, ◌∙◌, to_z-of_z, w16, w32, SFits, to_z, of_z}
use Rattle.patterns.specs.Patterns.{less_power}
use Rattle.signs.proofs.Integers.{fits-as, read_as}
use Rattle.pairs.proofs.Integers.{read_back, size16, sized16}
use Rattle.patterns.proofs.ExponentField.{offset-size}
use Rattle.patterns.proofs.powers.offset_of.Goals as goal

module _ (c : goal.After-offset) where
  is : to_z w32 (of_z w32 c.offset.result) ≡ less_power (2 ^ 22) c.args.x
  is = read_back c.offset.type_inv (c.offset.ensures ∙ ap (less_power (2 ^ 22)) (to_z-of_z c.ranges.x))

  fits : SFits w16 (less_power (2 ^ 22) c.args.x)
  fits = sized16 _ (offset-size c.args.x (size16 c.ranges.x))

pub overflow_cast-result : goal.overflow_cast-result
overflow_cast-result c = fits-as (is c) (fits c)

pub returns : goal.returns
returns c = read_as (is c) (fits c)
