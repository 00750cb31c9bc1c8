-- A turn puts what the first of the stages leaves of a weight and of a number of the frame to their places; a number of 16 bits is small.
use Rattle.std.proofs.Common.{◌≡◌, ℕ, ◌^◌, ◌<◌, ◌≤◌, min, ℤ, nat_abs, ap, ◌∙◌, arith, w16, w32, SFits, to_z, of_z, rules, below_more}
use lib.Signed.{mag}
use Rattle.designs.specs.Signs.{left_ℤ}
use Rattle.designs.proofs.SignedLeft.{left-size}
use Rattle.patterns.specs.Blocks.{place}
use Rattle.patterns.proofs.Blocks.{all-of-both, both_small, done-small, next-of-both, none-of-both}
use Rattle.pairs.proofs.Integers.{read_back, size16, widened}
use Rattle.patterns.proofs.stages.begin.Goals as goal

-- what the first stage leaves of a 16-bit number, as a callee gives it; and that it is small
module _ (stages : ℕ) {z : ℤ} (fits : SFits w16 z) where
  given : {r : ℤ} → mag r < 2 ^ 31 → r ≡ left_ℤ (min stages 1) (to_z w32 (of_z w32 (to_z w16 (of_z w16 z))))
      → to_z w32 (of_z w32 r) ≡ left_ℤ (min stages 1) z
  given ok is = read_back ok (is ∙ ap (left_ℤ (min stages 1)) (widened w32 tt fits))

  small : nat_abs (left_ℤ (min stages 1) z) ≤ 2 ^ 15
  small = omega (arith, left-size (min stages 1) z, size16 fits)

pub loop-i-init : goal.loop-i-init
loop-i-init c = (none-of-both, λ j h. absurd (omega arith))

pub loop-i-preserved : goal.loop-i-preserved
loop-i-preserved c =
    let w_fits : SFits w16 (place c.args.weights.now c.loop-i.i) = search rules in
    let x_fits : SFits w16 (place c.args.frame.now c.loop-i.i) = search rules in
    let stages = c.args.stages in (
      next-of-both _ _ c.loop-i.invariant.0 c.loop-i-test.true c.requires.places
          (given stages w_fits c.first_rest.type_inv c.first_rest.ensures)
          (given stages x_fits c.first_rest-in-loop-i.type_inv c.first_rest-in-loop-i.ensures),
      below_more _ _ c.loop-i.invariant.1 (small stages w_fits, small stages x_fits),
    )

pub returns : goal.returns
returns c =
    let left = left_ℤ (min c.args.stages 1) in
    let ws = place c.args.weights.now in
    let fs = place c.args.frame.now in
    let done = all-of-both left c.args.n ws fs c.loop-i.invariant.0 c.loop-i-test.false in
    record {
      done = done;
      small = done-small done c.requires.places (both_small left c.args.n ws fs (λ j h. c.loop-i.invariant.1 j (omega arith)));
    }
