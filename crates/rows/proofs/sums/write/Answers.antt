-- A turn writes the next residue of the block; at most 4,096 of them, of at most 2^31 in size, add up to a sum that fits.
use Rattle.std.proofs.Common.{rules, ◌≡◌, ℕ, ◌-◌, ◌^◌, ◌≤◌, List, ℤ, nat_abs, ◌+ℤ◌, ap, ◌∙◌, arith, w32, w64, SFits, to_z, of_z, to_z-of_z}
use lib.Signed.{nat_abs-le}
use Rattle.designs.proofs.Sizes.{size-add}
use Rattle.pairs.proofs.Integers.{widened}
use Rattle.patterns.specs.Blocks.{place}
use Rattle.signs.proofs.Integers.{fits-as, sized}
use Rattle.rows.specs.Totals.{Writable, Written}
use Rattle.rows.proofs.Turn.{written_next}
use Rattle.rows.proofs.sums.write.Goals as goal

pub loop-at-init : goal.loop-at-init
loop-at-init c = (c.requires.1.1.in_block.upward, λ z before ok. ok.written)

-- a residue of the block, the next to be written
module _ (c : goal.After-residue-1) where
  -- what has been written so far
  so_far : (z : ℕ → ℤ) (before : List ℤ) → Writable z before c.args.residues.now c.args.error c.args.block.now c.args.from c.args.end
      → Written z before c.loop-at.residues c.loop-at.at (to_z w64 c.loop-at.all-bits)
  so_far z before ok = c.loop-at.invariant.1 z before (rw (to_z-of_z c.ranges.error) ok)

  abbrev residue : ℤ
  residue = place c.args.block.now (c.loop-at.at - c.args.from)

  fits : SFits w32 residue
  fits = search rules

  wide : to_z w64 (of_z w64 (to_z w32 (of_z w32 residue))) ≡ residue
  wide = widened w64 tt fits

  small : nat_abs residue ≤ 2 ^ 31
  small = nat_abs-le residue fits.sfits

  abbrev sum : ℤ
  sum = to_z w64 c.loop-at.all-bits +ℤ residue

  sum_is : to_z w64 c.loop-at.all-bits +ℤ to_z w64 (of_z w64 (to_z w32 (of_z w32 residue))) ≡ sum
  sum_is = ap (λ (r : ℤ). to_z w64 c.loop-at.all-bits +ℤ r) wide

  sum_fits : SFits w64 sum
  sum_fits =
      let asked = c.requires.1.1 in
      sized sum
      (omega (arith, size-add (to_z w64 c.loop-at.all-bits) residue, small, (so_far _ _ asked).small, c.loop-at.invariant.0, asked.in_block.pairs))

pub overflow_add-all : goal.overflow_add-all
overflow_add-all c = fits-as (sum_is c) (sum_fits c)

pub loop-at-preserved : goal.loop-at-preserved
loop-at-preserved c = (
  omega arith,
  λ z before ok. let asked = rw (to_z-of_z c.ranges.error) at ok in
      rw (wide c, to_z-of_z (sum_fits c))
      (written_next (so_far c z before asked) (omega (arith, asked.room))
      (asked.in_block.filled (c.loop-at.at - c.args.from) (omega arith) ∙ ap z (omega arith)) (small c)),
)

pub returns : goal.returns
returns c z before ok =
    let end : c.args.end ≡ c.loop-at.at = omega (arith, c.loop-at-test.false, c.loop-at.invariant.0) in
    rw end (c.loop-at.invariant.1 z before (rw (to_z-of_z c.ranges.error) ok))
