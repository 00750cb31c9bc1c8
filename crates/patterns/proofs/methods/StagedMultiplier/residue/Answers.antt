-- The kernel's product is taken off with the true product's sign.
use Rattle.std.proofs.Common.{◌≡◌, ◌^◌, ◌<◌, ◌*ℤ◌, nat_abs, ap, ◌∙◌, ap₂, arith, to_z-of_z, w32, to_z, of_z}
use Rattle.designs.specs.Designs.{product, staged}
use Rattle.pairs.proofs.Integers.{read_back, read-true, size16, true-size}
use Rattle.patterns.proofs.Pair.{less-size-is, product-size}
use Rattle.patterns.proofs.methods.StagedMultiplier.residue.Goals as goal
use Rattle.patterns.proofs.methods.StagedMultiplier.residue.Goals.{After-staged}

module _ (c : After-staged) where
  truth : to_z w32 (of_z w32 c.true_product.result) ≡ c.args.w *ℤ c.args.x
  truth = read-true c.true_product.type_inv c.true_product.ensures c.ranges.w c.ranges.x

  size : c.staged.result ≡ product (staged c.args.self.stages) (nat_abs c.args.w) (nat_abs c.args.x)
  size =
      c.staged.ensures
      ∙ ap₂ (product (staged c.args.self.stages))
      (c.size.ensures ∙ ap nat_abs (to_z-of_z c.ranges.w)) (c.size-2.ensures ∙ ap nat_abs (to_z-of_z c.ranges.x))

  small : c.staged.result < 2 ^ 31
  small = rw size (product-size (staged c.args.self.stages) tt c.args.w c.args.x (size16 c.ranges.w) (size16 c.ranges.x))

pub overflow_cast-staged : goal.overflow_cast-staged
overflow_cast-staged c = record { fits = omega (arith, small (goal.at.overflow_cast-staged c).After-staged) }

pub less_size-requires : goal.less_size-requires
less_size-requires c =
    let s = (goal.at.less_size-requires c).After-staged in
    (small s, rw (truth s) (omega (arith, true-size c.ranges.w c.ranges.x)))

pub returns : goal.returns
returns c =
    let s = (goal.at.returns c).After-staged in
    read_back c.less_size.type_inv (c.less_size.ensures ∙ less-size-is (staged c.args.self.stages) c.args.w c.args.x (truth s) (size s))
