-- A turn adds the product of this stage to those so far, and leaves the pattern of what the stage leaves of the weight.
use Rattle.std.proofs.Common.{◌≡◌, suc, ◌<◌, ◌≤◌, List, get_or, ℤ, ◌+ℤ◌, ap, ◌∙◌, arith, to_z-of_z, w32, SFits, to_z, of_z, rules}
use Rattle.designs.specs.Designs.{staged}
use Rattle.designs.specs.Signs.{left_ℤ, signed_product}
use Rattle.signs.proofs.Integers.{fits-as, read_as}
use Rattle.pairs.proofs.Integers.{read_back}
use Rattle.patterns.specs.Blocks.{place}
use Rattle.patterns.specs.Patterns.{raised_of}
use Rattle.patterns.proofs.Blocks.{next-done, none_done}
use Rattle.strips.specs.Stages.{Multiplying, pairs_of}
use Rattle.strips.specs.Strips.{started}
use Rattle.strips.proofs.EachStage.{left-small, logs, more-fits, multiplied, next-filled, none_filled, one_more, stage-more, still}
use Rattle.strips.proofs.stages.multiply.Goals.{After-so_far-before, After-stage}
use Rattle.strips.proofs.stages.multiply.Goals as goal

-- the pair of a turn
module _ (c : After-so_far-before) (row part : List ℤ) (m : Multiplying c.args.i row part c.args.held.now c.args.left.now c.args.found.now) where
  inside : c.loop-j.j < pairs_of row part
  inside = omega (arith, c.loop-j-test.true, m.size)

  pattern : get_or c.loop-j.left c.loop-j.j 0 ≡ raised_of (left_ℤ c.args.i (place row c.loop-j.j))
  pattern = still m.walked (c.loop-j.invariant row part m).patterns inside

-- the products so far, and this stage's
module _ (c : After-stage) (row part : List ℤ) (m : Multiplying c.args.i row part c.args.held.now c.args.left.now c.args.found.now) where
  abbrev pair : After-so_far-before
  pair = (goal.at.overflow_add-found c).After-so_far-before

  abbrev w : ℤ
  w = place row c.loop-j.j

  abbrev x : ℤ
  x = place part c.loop-j.j

  before-is : to_z w32 (of_z w32 c.so_far-before.result) ≡ signed_product (staged c.args.i) w x
  before-is =
      let fits : SFits w32 (place c.loop-j.found c.loop-j.j) = search rules in
      read_back c.so_far-before.type_inv
      (c.so_far-before.ensures ∙ ap (started c.args.i) (to_z-of_z fits ∙ (c.loop-j.invariant row part m).products.later c.loop-j.j (omega arith)))
      ∙ m.found.at c.loop-j.j (inside pair row part m)

  stage_is : to_z w32 (of_z w32 c.stage.result) ≡ signed_product (staged 1) (left_ℤ c.args.i w) (left_ℤ c.args.i x)
  stage_is = read_back c.stage.type_inv (c.stage.ensures _ _ (logs m.coded m.walked (inside pair row part m) (pattern pair row part m)))

  sum_is : to_z w32 (of_z w32 c.so_far-before.result) +ℤ to_z w32 (of_z w32 c.stage.result) ≡ signed_product (staged (suc c.args.i)) w x
  sum_is = stage-more c.args.i w x before-is stage_is

  sum_fits : SFits w32 (signed_product (staged (suc c.args.i)) w x)
  sum_fits = more-fits m.coded m.walked (inside pair row part m)

pub loop-j-init : goal.loop-j-init
loop-j-init c row part m = record { patterns = none_filled _ _; products = none_done _ _ }

pub stage-requires : goal.stage-requires
stage-requires c =
    let m = c.requires.2 in
    let turn = (goal.at.stage-requires c).After-so_far-before in
    (_, _, logs m.coded m.walked (inside turn _ _ m) (pattern turn _ _ m))

pub overflow_add-found : goal.overflow_add-found
overflow_add-found c = fits-as (sum_is c _ _ c.requires.2) (sum_fits c _ _ c.requires.2)

pub rest-requires : goal.rest-requires
rest-requires c =
    let m = c.requires.2 in
    let turn = (goal.at.rest-requires c).After-so_far-before in
    (_, left-small m.walked (inside turn _ _ m), pattern turn _ _ m)

pub loop-j-preserved : goal.loop-j-preserved
loop-j-preserved c row part m =
    let stage = (goal.at.loop-j-preserved c).After-stage in
    let turn = pair stage row part m in
    let before = c.loop-j.invariant row part m in
    let few : c.loop-j.j < 64 = omega (arith, inside turn row part m, m.coded.few) in
    record {
      patterns =
          next-filled before.patterns (omega (arith, c.loop-j-test.true))
          (c.rest.ensures _ (left-small m.walked (inside turn row part m)) (pattern turn row part m));
      products = next-done _ c.loop-j.j _ before.products (omega (arith, few, m.found.size)) (read_as (sum_is stage row part m) (sum_fits stage row part m));
    }

pub returns : goal.returns
returns c row part m =
    let all : pairs_of row part ≤ c.loop-j.j = omega (arith, c.loop-j-test.false, m.size) in
    let after = c.loop-j.invariant row part m in
    (one_more m.walked after.patterns all, multiplied m.found after.products all)
