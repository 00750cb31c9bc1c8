-- Every 64-bit number is inside a width of 65 bits or more.
use Rattle.std.proofs.Common.{arith}
use Rattle.signs.proofs.Integers.{size-le}
use Rattle.products.proofs.InsideWidth.{signed-wide}
use Rattle.products.proofs.operands.inside_signed.Goals as goal

pub returns-in-None : goal.returns-in-None
returns-in-None c =
    signed-wide c.args.width c.args.a (omega (arith, c.in-None.ensures, c.saturating_sub.ensures)) (size-le c.args.a c.ranges.a)
