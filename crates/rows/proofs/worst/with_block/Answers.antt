-- A block that is not worse keeps the worst, and of a worse one the first place is looked for.
use Rattle.std.proofs.Common.{◌≡◌, ℕ, ℤ, pos, nat_abs, ap, ◌∙◌, w32, SFits, to_z, of_z, to_z-of_z}
use Rattle.rows.proofs.Block.{not-worse, worse}
use Rattle.rows.proofs.First.{of-front}
use Rattle.rows.proofs.worst.with_block.Goals as goal

-- the size that is read is the largest, for any residues that the caller names
size_is : {largest : ℤ} {most : ℕ} → SFits w32 largest → largest ≡ pos most → nat_abs (to_z w32 (of_z w32 largest)) ≡ most
size_is h e = ap nat_abs (to_z-of_z h ∙ e)

pub returns-then-size-worst : goal.returns-then-size-worst
returns-then-size-worst c z ok = not-worse ok (rw (size_is c.ranges.largest ok.is) at c.if-size-worst.true)

pub returns : goal.returns
returns c z ok =
    let size = size_is c.ranges.largest ok.is in
    rw size (worse ok (rw size at c.if-size-worst.false) (of-front ok.in_block.places (rw size at c.first_of.ensures)))
