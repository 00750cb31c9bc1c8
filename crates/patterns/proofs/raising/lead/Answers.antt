-- Without its fraction a pattern is that of the leading power.
use Rattle.std.proofs.Common.{◌≡◌, ◌+◌, ◌%◌, ◌^◌, arith}
use Rattle.patterns.proofs.ExponentField.{power-raised}
use Rattle.patterns.proofs.raising.lead.Goals as goal

pub returns : goal.returns
returns c z l e =
    let same : c.args.p ≡ (c.args.p + 0) % 2 ^ 32 = omega (arith, c.ranges.p.fits) in
    rw (same, e) (power-raised 0 (omega arith) z l)
