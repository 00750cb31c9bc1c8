-- A row that goes by blocks, by any design. A block takes a part of the row, whose place k is place at + k of the row; so a block that is
-- taken of the part holds the residues of the row's pairs and their sums, and can be added.
use mathlib.Core.Path.{◌≡◌, ap₂, ◌∙◌, subst}
use Prim.Native.Nat.{ℕ, min, ◌+◌, ◌-◌, ◌≤◌, ◌<◌}
use native.Mathlib.Omega.{arith}
use mathlib.Core.List.{List}
use lib.IntN.{ℤ, pos}
use lib.ListN.{length, take, drop, length-drop}
use lib.Seq.{get_or-take, get_or-drop, length-take-le}
use Rattle.designs.specs.Designs.{Design}
use Rattle.designs.specs.Signs.{residue}
use Rattle.patterns.specs.Blocks.{place}
use Rattle.blocks.specs.Residues.{of_pair}
use Rattle.blocks.specs.Filled.{Filled}
use Rattle.blocks.specs.Sums.{Adds, taken}
use Rattle.blocks.specs.declared.sums.BlockSums.{BlockSums}
use Rattle.blocks.proofs.Adding.{added-as}
use Rattle.rows.specs.Answers.{Ready}
use Rattle.rows.specs.Totals.{Addable, Going, no_sums, Reached}
use Rattle.rows.specs.declared.sums.Sums.{Sums}
use Rattle.rows.proofs.Turn.{nothing}

-- the numbers from `from` up to `end`, as the code lends them
abbrev part : List ℤ → ℕ → ℕ → List ℤ
part ws from end = take (end - from) (drop from ws)

module _ (ws : List ℤ) (from end : ℕ) (inside : end ≤ length ws) where
  part_length : length (part ws from end) ≡ end - from
  part_length = length-take-le (end - from) (drop from ws) (omega (arith, length-drop from ws))

  part_at : (k : ℕ) → k < end - from → place (part ws from end) k ≡ place ws (from + k)
  part_at k h = get_or-take (end - from) (drop from ws) k (pos 0) h ∙ get_or-drop from ws k (pos 0)

-- what a loop over blocks keeps: a row that can be scored has been reached as far as pair `at`, and goes on to pair `to`
pub record Blocks (D : Design) (size : ℕ) (ws fs before after : List ℤ) (to at : ℕ) (s : Sums) (block : List ℤ) : Type 0 where
  pub ready : Ready D ws fs before
  pub within : to ≤ length ws
  pub inside : at ≤ to
  pub reached : Reached (of_pair (residue D) ws fs) ws fs before after at s
  pub places : length block ≡ size

-- no block is to be taken
pub none : {D : Design} {ws fs before : List ℤ} {to : ℕ} {s : Sums} → to ≡ 0 → s ≡ no_sums → Going D ws fs before before to s
none z e = rw (z, e) (record { inside = omega arith; reached = nothing _ _ _ _ })

module _ {D : Design} {size : ℕ} {ws fs before : List ℤ} {to : ℕ} {block : List ℤ} where
  pub begun : Ready D ws fs before × (to ≤ length ws) → {s : Sums} → s ≡ no_sums → length block ≡ size → Blocks D size ws fs before before to 0 s block
  begun (ready, within) e places = record { ready = ready; within = within; inside = omega arith; reached = rw e (nothing _ _ _ _); places = places }

  pub ended : {after : List ℤ} {at : ℕ} {s : Sums} → Blocks D size ws fs before after to at s block → to ≤ at → Going D ws fs before after to s
  ended {after} {at} {s} loop h =
      let end : at ≡ to = omega (arith, loop.inside) in
      record { inside = loop.within; reached = subst (λ (n : ℕ). Reached (of_pair (residue D) ws fs) ws fs before after n s) end loop.reached }

-- the next n pairs can be added from a block
abbrev pub NextBlock : Design → List ℤ → List ℤ → List ℤ → List ℤ → ℕ → Sums → ℕ → BlockSums → List ℤ → Type 0
NextBlock D ws fs before after at s n all block = Addable (of_pair (residue D) ws fs) ws fs before after s all block at (at + n)

-- a turn: they are at most 64, and go no further than pair `to`
module _ {D : Design} {size : ℕ} {ws fs before after block : List ℤ} {at n to : ℕ} {s : Sums} (loop : Blocks D size ws fs before after to at s block) (count : n ≡ min (to - at) 64) where
  abbrev end : ℕ
  end = at + n

  in_row : end ≤ length ws
  in_row = omega (arith, loop.inside, loop.within)

  in_frame : end ≤ length fs
  in_frame = omega (arith, in_row, loop.ready.lengths)

  -- the part that the block takes
  abbrev us : List ℤ
  us = part ws at end

  abbrev vs : List ℤ
  vs = part fs at end

  all-taken : taken us vs ≡ end - at
  all-taken = omega (arith, part_length ws at end in_row, part_length fs at end in_frame)

  addable : {all : BlockSums} {block' : List ℤ} → 64 ≤ length block' → ((k : ℕ) → k < taken us vs → place block' k ≡ of_pair (residue D) us vs k)
      → Adds (of_pair (residue D) us vs) (place us) (place vs) (taken us vs) all → NextBlock D ws fs before after at s n all block'
  addable {all} room holds adds =
      let weight = part_at ws at end in_row in
      let number = part_at fs at end in_frame in
      record {
        reached = loop.reached;
        in_block =
            record {
              upward = omega arith;
              pairs = omega (arith, in_row, loop.ready.pairs);
              few = omega arith;
              places = omega arith;
              filled = λ k h. holds k (omega (arith, all-taken)) ∙ ap₂ (residue D) (weight k h) (number k h);
            };
        room = omega (arith, in_row, loop.ready.places);
        adds = added-as (λ k h. (ap₂ (residue D) (weight k h) (number k h), weight k h, number k h)) (rw all-taken at adds);
      }

  pub on : {after' block' : List ℤ} {s' : Sums} → length block' ≡ length block → Reached (of_pair (residue D) ws fs) ws fs before after' end s' → Blocks D size ws fs before after' to end s' block'
  on same reached = record { ready = loop.ready; within = loop.within; inside = omega (arith, loop.inside); reached = reached; places = same ∙ loop.places }

  pub fewer-left : at < to → to - end < to - at
  fewer-left h = omega arith

  pub filled : {all : BlockSums} {block' : List ℤ} → 64 ≤ size → Filled D us vs block block' all → NextBlock D ws fs before after at s n all block'
  filled room by = addable (omega (arith, by.size, loop.places)) by.first by.adds
