-- Both stages are of the sizes, and their sum, which has at most 31 bits, is taken off with the true product's sign.
use Rattle.std.proofs.Common.{◌≡◌, ℕ, ◌+◌, ◌^◌, ◌<◌, ◌≤◌, Bool, ◌*ℤ◌, nat_abs, sym, ap, ◌∙◌, ap₂, arith, to_z-of_z, w32, to_z, of_z}
use Rattle.designs.specs.Designs.{left_over, product, total_below, truncated, twice_truncated}
use Rattle.designs.specs.Signs.{residue}
use Rattle.pairs.proofs.Integers.{read_back, read-true, size16, true-size}
use Rattle.patterns.proofs.Pair.{less-size-is, product-size}
use Rattle.patterns.proofs.SecondStage.{by-stages, left-logs, left-small, low-both, low-none}
use Rattle.patterns.proofs.methods.TwiceTruncatedMultiplier.residue.Goals as goal
use Rattle.patterns.proofs.methods.TwiceTruncatedMultiplier.residue.Goals.{After-is_low-low}

module _ (c : After-is_low-low) where
  abbrev t : ℕ
  t = c.of-t.result.count

  abbrev A : ℕ
  A = c.size-a.result

  abbrev B : ℕ
  B = c.size-b.result

  abbrev low : Bool
  low = c.is_low-low.result

  first : A ≡ nat_abs c.args.w
  first = c.size-a.ensures ∙ ap nat_abs (to_z-of_z c.ranges.w)

  second : B ≡ nat_abs c.args.x
  second = c.size-b.ensures ∙ ap nat_abs (to_z-of_z c.ranges.x)

  first-small : A ≤ 2 ^ 15
  first-small = omega (arith, first, size16 c.ranges.w)

  second-small : B ≤ 2 ^ 15
  second-small = omega (arith, second, size16 c.ranges.x)

  some : 0 < t
  some = omega arith

  low_is : 0 < A → 0 < B → low ≡ total_below t A B
  low_is ha hb = c.is_low-low.ensures ∙ low-both t A B ha hb

  truth : to_z w32 (of_z w32 c.true_product-z.result) ≡ c.args.w *ℤ c.args.x
  truth = read-true c.true_product-z.type_inv c.true_product-z.ensures c.ranges.w c.ranges.x

  -- the sum of both stages
  module _ {p q x y : ℕ} (ep : p ≡ product (truncated t) A B) (ex : x ≡ left_over low A) (ey : y ≡ left_over low B)
      (eq : q ≡ product (truncated 2) x y) where
    sum : p + q ≡ product (twice_truncated t) (nat_abs c.args.w) (nat_abs c.args.x)
    sum =
        ap₂ ◌+◌ ep (eq ∙ ap₂ (product (truncated 2)) ex ey) ∙ sym (by-stages t A B low low_is)
        ∙ ap₂ (product (twice_truncated t)) first second

    small : p + q < 2 ^ 31
    small = rw sum (product-size (twice_truncated t) some c.args.w c.args.x (size16 c.ranges.w) (size16 c.ranges.x))

pub left_over-requires : goal.left_over-requires
left_over-requires c =
    (first-small (goal.at.left_over-requires c).After-is_low-low, λ e. (low-none c.of-t.result.count _ _ (sym c.is_low-low.ensures ∙ e)).0)

pub left_over-requires-2 : goal.left_over-requires-2
left_over-requires-2 c =
    (second-small (goal.at.left_over-requires-2 c).After-is_low-low, λ e. (low-none c.of-t.result.count _ _ (sym c.is_low-low.ensures ∙ e)).1)

pub second_stage-requires : goal.second_stage-requires
second_stage-requires c =
    let s = (goal.at.second_stage-requires c).After-is_low-low in
    rw (c.left_over.ensures, c.left_over-2.ensures) (
      left-small (low s) (A s) (first-small s),
      left-small (low s) (B s) (second-small s),
      left-logs (t s) (A s) (B s) (low s) (low_is s) (some s) (first-small s) (second-small s),
    )

pub overflow_add-first_stage : goal.overflow_add-first_stage
overflow_add-first_stage c =
    let s = (goal.at.overflow_add-first_stage c).After-is_low-low in
    let l = small s c.first_stage.ensures c.left_over.ensures c.left_over-2.ensures c.second_stage.ensures in
    record { fits = omega arith }

pub less_size-requires : goal.less_size-requires
less_size-requires c =
    let s = (goal.at.less_size-requires c).After-is_low-low in (
      small s c.first_stage.ensures c.left_over.ensures c.left_over-2.ensures c.second_stage.ensures,
      rw (truth s) (omega (arith, true-size c.ranges.w c.ranges.x)),
    )

pub returns : goal.returns
returns c =
    let s = (goal.at.returns c).After-is_low-low in
    let e = sum s c.first_stage.ensures c.left_over.ensures c.left_over-2.ensures c.second_stage.ensures in
    read_back c.less_size.type_inv (c.less_size.ensures ∙ less-size-is (twice_truncated (t s)) c.args.w c.args.x (truth s) e)
    ∙ ap (λ (t : ℕ). residue (twice_truncated t) c.args.w c.args.x) c.of-t.ensures
