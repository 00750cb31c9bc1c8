-- What the block's pairs add, what is written of it and what is the worst with it make what is reached at its end.
use Rattle.std.proofs.Common.{rules, ◌≡◌, ℕ, List, ℤ, ◌∙◌, arith, w32, w64, SFits, to_z, of_z, to_z-of_z}
use Rattle.signs.proofs.Integers.{sized}
use Rattle.blocks.specs.declared.sums.BlockSums.{BlockSums}
use Rattle.blocks.proofs.Adding.{largest, zeros}
use Rattle.rows.specs.Totals.{Addable, Writable}
use Rattle.rows.specs.Worst.{Comparable}
use Rattle.rows.specs.declared.sums.Sums.{Sums}
use Rattle.rows.proofs.Block.{truth-more}
use Rattle.rows.proofs.Turn.{roomy}
use Rattle.rows.proofs.sums.add.Goals as goal

-- what the caller asks, and with it what the callees ask
module _ {z : ℕ → ℤ} {ws fs before places block : List ℤ} {s : Sums} {all : BlockSums} {from end : ℕ}
    (ok : Addable z ws fs before places s all block from end) where
  writable : Writable z before places (to_z w64 (of_z w64 s.error)) block from end
  writable =
      let error = to_z-of_z (sized s.error (omega (arith, ok.reached.written.small, ok.in_block.upward, ok.in_block.pairs))) in
      record { written = rw error ok.reached.written; in_block = ok.in_block; room = ok.room }

  comparable : SFits w32 all.largest → Comparable z s.worst (to_z w32 (of_z w32 all.largest)) block from end
  comparable fits = record { so_far = ok.reached.worst; in_block = ok.in_block; is = to_z-of_z fits ∙ largest ok.adds }

pub write-error-requires : goal.write-error-requires
write-error-requires c = (_, (_, writable c.requires.1.1.1.1))

pub with_block-worst-requires : goal.with_block-worst-requires
with_block-worst-requires c = (_, comparable c.requires.1.1.1.1 (search rules))

pub with_all-requires : goal.with_all-requires
with_all-requires c =
    let ok = c.requires.1.1.1.1 in
    (roomy ok.reached (omega (arith, ok.in_block.upward, ok.in_block.pairs)), omega (arith, zeros ok.adds, ok.in_block.few))

pub returns : goal.returns
returns c z ws fs before ok =
    let error : to_z w64 (of_z w64 c.write-error.result) ≡ c.write-error.result = to_z-of_z {w = w64} (record { sfits = c.write-error.type_inv }) in
    rw c.with_all.ensures
    (record {
      truth = truth-more _ _ ok.reached.truth ok.in_block.upward ok.adds;
      written = rw error (c.write-error.ensures z before (writable ok));
      worst = c.with_block-worst.ensures z (comparable ok (search rules));
    })
