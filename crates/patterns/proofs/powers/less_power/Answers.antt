-- The power that the masked pattern stands for is taken off the number.
use Rattle.std.proofs.Common.{◌≡◌, ◌+◌, ◌-◌, ◌^◌, ◌-ℤ◌, nat_abs, ap₂, arith, to_z-of_z, w32, SFits, to_z, of_z}
use lib.Bits.{bit_and}
use Rattle.designs.specs.Signs.{negative, with_sign}
use Rattle.patterns.specs.Patterns.{field_power, less_power, pattern_of, Stands}
use Rattle.patterns.proofs.ExponentField.{less-fits, pattern-room, power-of}
use Rattle.signs.proofs.Integers.{fits-as, read_as}
use Rattle.pairs.proofs.Integers.{read_back}
use Rattle.patterns.proofs.powers.less_power.Goals as goal
use Rattle.patterns.proofs.powers.less_power.Goals.{After-pattern_of}

module _ (c : After-pattern_of) where
  bits : c.pattern_of.result ≡ pattern_of c.args.x
  bits = rw (to_z-of_z c.ranges.x) at c.pattern_of.ensures

  stands : Stands (bit_and (c.pattern_of.result + c.args.carry) (2 ^ 32 - 2 ^ 23))
      (with_sign (negative c.args.x) (field_power c.args.carry (nat_abs c.args.x)))
  stands = power-of c.args.carry c.requires.1 c.args.x c.pattern_of.result bits c.requires.0

pub overflow_add-pattern_of : goal.overflow_add-pattern_of
overflow_add-pattern_of c = record { fits = omega (arith, bits c, pattern-room c.args.carry c.requires.1 c.args.x c.requires.0) }

pub whole-requires : goal.whole-requires
whole-requires c = (_, stands c)

module _ (c : goal.After-whole) where
  less : to_z w32 (of_z w32 c.args.x) -ℤ to_z w32 (of_z w32 c.whole.result) ≡ less_power c.args.carry c.args.x
  less = ap₂ ◌-ℤ◌ (to_z-of_z c.ranges.x) (read_back c.whole.type_inv (c.whole.ensures _ (stands (goal.at.returns c).After-pattern_of)))

  fits : SFits w32 (less_power c.args.carry c.args.x)
  fits = less-fits c.args.carry c.requires.1 c.args.x c.requires.0

pub overflow_sub-result : goal.overflow_sub-result
overflow_sub-result c = fits-as (less c) (fits c)

pub returns : goal.returns
returns c = read_as (less c) (fits c)
