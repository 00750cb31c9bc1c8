-- The patterns are those of the weights, and then of what the stages leave of them; so the two sums are those of the products with their
-- offsets.
use Rattle.std.proofs.Common.{◌≡◌, ℕ, ◌≤◌, min, List, length, ℤ, ◌-ℤ◌, ap, ◌∙◌, ap₂, arith, rules, w64, to_z, of_z}
use Rattle.designs.specs.Designs.{staged}
use Rattle.designs.specs.Signs.{left_ℤ, signed_product}
use Rattle.signs.proofs.Integers.{fits-as, read_as, read_back}
use Rattle.patterns.specs.Blocks.{place}
use Rattle.blocks.specs.Counts.{total}
use Rattle.blocks.specs.Residues.{of_pair}
use Rattle.many_stages.specs.Strips.{Coded, excess_of, Patterned, Ready, ReadyRests}
use Rattle.many_stages.proofs.Patterned.{as-many}
use Rattle.many_stages.proofs.RowSums.{first_fits, products, residues, sum_fits, sum_is, summed}
use Rattle.many_stages.proofs.Stages.{short-left}
use Rattle.many_stages.proofs.sums.sum.Goals as goal

-- the weights, and what the stages leave of them
module _ (row : List ℤ) {s n : ℕ} {part : List ℤ} {left held : List ℕ} (coded : Coded s part held) (many : 4 ≤ s)
    (e : n ≡ min (length row) (length part)) (p : Patterned n (place row) left) where
  ready : Ready s n part (place row) left held
  ready = record { coded = coded; inside = omega (arith, e); patterns = p }

  rests-ready : {left' : List ℕ} → Patterned n (λ k. left_ℤ s (place row k)) left' → ReadyRests s n part (λ k. left_ℤ s (place row k)) left' held
  rests-ready q =
      record {
        ready = record { coded = coded; inside = omega (arith, e); patterns = q };
        many = many;
        short = λ k h. short-left s (place row k) many (p.small k h);
      }

pub whole-products-requires : goal.whole-products-requires
whole-products-requires c =
    (_, _, _, _, omega (arith, c.raise.auto.left, c.excess-over.auto.left, c.fewer-n.ensures, c.requires.0.few), ready c.args.row.now c.requires.0 c.args.stages.many c.fewer-n.ensures (as-many (omega (arith, c.excess-over.auto.left, c.fewer-n.ensures, c.requires.0.few)) (c.raise.ensures (λ z. z) (λ x y small made. search rules)).0))

pub leave-requires : goal.leave-requires
leave-requires c = (_, _, c.raise.auto.left, (c.raise.ensures (λ z. z) (λ x y small made. search rules)).0)

pub rests-residues-requires : goal.rests-residues-requires
rests-residues-requires c =
    let weights : Patterned c.fewer-n.result (place c.args.row.now) c.raise.new.left = (as-many (omega (arith, c.excess-over.auto.left, c.fewer-n.ensures, c.requires.0.few)) (c.raise.ensures (λ z. z) (λ x y small made. search rules)).0) in
    (_, _, _, _, omega (arith, c.leave.auto.left, c.raise.auto.left, c.excess-over.auto.left, c.fewer-n.ensures, c.requires.0.few), rests-ready c.args.row.now c.requires.0 c.args.stages.many c.fewer-n.ensures weights (c.leave.ensures _ _ (omega (arith, c.raise.auto.left, c.excess-over.auto.left, c.fewer-n.ensures, c.requires.0.few)) weights))

-- the sums
module _ (c : goal.After-rests-residues) where
  abbrev s : ℕ
  s = c.args.stages.count

  abbrev row : List ℤ
  row = c.args.row.now

  abbrev part : List ℤ
  part = c.args.part.now

  abbrev coded : Coded s part c.args.held.now
  coded = c.requires.0

  weights : Patterned c.fewer-n.result (place row) c.raise.new.left
  weights = as-many (omega (arith, c.excess-over.auto.left, c.fewer-n.ensures, c.requires.0.few)) (c.raise.ensures (λ z. z) (λ x y small made. search rules)).0

  size : length c.raise.new.left ≡ c.fewer-n.result
  size = omega (arith, c.raise.auto.left, c.excess-over.auto.left, c.fewer-n.ensures, c.requires.0.few)

  less-is : to_z w64 (of_z w64 c.whole-products.result) -ℤ to_z w64 (of_z w64 c.rests-residues.result)
      ≡ products s row part c.fewer-n.ensures weights.small coded.small coded.few
      -ℤ residues s row part c.fewer-n.ensures weights.small coded.small coded.few
  less-is =
      ap₂ ◌-ℤ◌ (read_back _ c.whole-products.type_inv ∙ c.whole-products.ensures _ _ _ _ size (ready row coded c.args.stages.many c.fewer-n.ensures weights))
      (read_back _ c.rests-residues.type_inv
      ∙ c.rests-residues.ensures _ _ _ _ (c.leave.auto.left ∙ size) (rests-ready row coded c.args.stages.many c.fewer-n.ensures weights (c.leave.ensures _ _ size weights)))

  -- less what the offsets add
  total-is : to_z w64 (of_z w64 (to_z w64 (of_z w64 c.whole-products.result) -ℤ to_z w64 (of_z w64 c.rests-residues.result)))
      -ℤ to_z w64 (of_z w64 c.excess-over.result) ≡ total (of_pair (signed_product (staged s)) row part) c.fewer-n.result
  total-is =
      ap₂ ◌-ℤ◌ (read_as less-is (first_fits s row part c.fewer-n.ensures weights.small coded.small coded.few))
      (read_back _ c.excess-over.type_inv ∙ c.excess-over.ensures ∙ ap (excess_of s (place part)) (omega (arith, c.fewer-n.ensures, c.requires.0.few)))
      ∙ sum_is s row part c.fewer-n.ensures weights.small coded.small coded.few

pub overflow_sub-result : goal.overflow_sub-result
overflow_sub-result c =
    fits-as (less-is c)
    (first_fits c.args.stages.count c.args.row.now c.args.part.now c.fewer-n.ensures (weights c).small c.requires.0.small c.requires.0.few)

pub overflow_sub-result-2 : goal.overflow_sub-result-2
overflow_sub-result-2 c =
    fits-as (total-is c)
    (sum_fits c.args.stages.count c.args.row.now c.args.part.now c.fewer-n.ensures (weights c).small c.requires.0.small c.requires.0.few)

pub returns : goal.returns
returns c =
    let s = c.args.stages.count in
    let row = c.args.row.now in
    let part = c.args.part.now in
    let e = c.fewer-n.ensures in
    let p = weights c in
    let coded = c.requires.0 in
    summed s row part e p.small coded.small coded.few (read_as (total-is c) (sum_fits s row part e p.small coded.small coded.few))
