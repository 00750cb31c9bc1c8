-- What the turn asks is what the law of a turn asks, for any residues and row that the caller names.
use Rattle.std.proofs.Common.{arith, w64, to_z-of_z}
use lib.Signed.{nat_abs-le}
use Rattle.pairs.proofs.Integers.{widened}
use Rattle.rows.proofs.Turn.{roomy, turn}
use Rattle.rows.proofs.sums.turn.Goals as goal

pub with_pair-requires : goal.with_pair-requires
with_pair-requires c =
    let ok = c.requires.1.1.1.1 in
    rw (widened w64 tt c.ranges.residue) (roomy ok.reached (omega (arith, ok.few)), omega (arith, nat_abs-le c.args.residue c.ranges.residue.sfits))

pub returns : goal.returns
returns c =
    let wide = widened w64 tt c.ranges.residue in
    let added = simp (to_z-of_z c.ranges.w, to_z-of_z c.ranges.x, wide) at c.with_pair.ensures in
    λ z ws fs before ok. rw (added, wide) (turn ok c.ranges.w c.ranges.x (nat_abs-le c.args.residue c.ranges.residue.sfits))
