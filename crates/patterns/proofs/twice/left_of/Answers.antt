-- The sign is taken off; of 0 nothing is left, whichever case is asked for.
use Rattle.std.proofs.Common.{◌≡◌, pos, nat_abs, sym, ap, ◌∙◌, arith, to_z-of_z, w16, SFits}
use Rattle.designs.specs.Designs.{left_over}
use Rattle.pairs.proofs.Integers.{size16, sized16}
use Rattle.patterns.proofs.SecondStage.{left-none, left-small}
use Rattle.patterns.proofs.twice.left_of.Goals as goal

pub returns-then-n-eq0 : goal.returns-then-n-eq0
returns-then-n-eq0 c =
    ap pos (sym (left-none c.args.low (nat_abs c.args.x) (sym (c.size-n.ensures ∙ ap nat_abs (to_z-of_z c.ranges.x)) ∙ c.if-n-eq0.true)))

is : (c : goal.After-left_over) → c.left_over.result ≡ left_over c.args.low (nat_abs c.args.x)
is c = c.left_over.ensures ∙ ap (left_over c.args.low) (c.size-n.ensures ∙ ap nat_abs (to_z-of_z c.ranges.x))

fits : (c : goal.After-left_over) → SFits w16 (pos c.left_over.result)
fits c = sized16 _ (omega (arith, is c, left-small c.args.low (nat_abs c.args.x) (size16 c.ranges.x)))

pub overflow_cast-result : goal.overflow_cast-result
overflow_cast-result c = fits c

pub returns : goal.returns
returns c = to_z-of_z (fits c) ∙ ap pos (is c)
