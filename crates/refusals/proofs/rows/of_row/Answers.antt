-- `of_row` judges the design, and then makes the tests of the pairs and of the places in their order, as `row_refusals` joins their lists.
use Rattle.std.proofs.Common.{rules}
use Rattle.std.proofs.lemmas.Result.{err_from_is_err_and}
use Rattle.designs.specs.Outcomes.{first}
use Rattle.designs.specs.Scoring.{design_refusals, pair_refusals, row_refusals}
use Rattle.refusals.proofs.Judging.{refused_first, refused_second, taken}
use Rattle.refusals.proofs.rows.of_row.Goals as goal

pub returns-in_err-method : goal.returns-in_err-method
unfolding row_refusals
returns-in_err-method c =
    let p = err_from_is_err_and c.from_residual.result c.from_residual.ensures.1 in
    rw (p.1, p.2) (refused_first _ _ c.in_err-method.ensures)

pub returns-then-weights-frame : goal.returns-then-weights-frame
unfolding row_refusals pair_refusals design_refusals first
returns-then-weights-frame c = refused_second _ _ tt c.in_ok-method.ensures (search rules)

pub returns-then-weights-gt-MOST_PAIRS : goal.returns-then-weights-gt-MOST_PAIRS
unfolding row_refusals pair_refusals design_refusals first
returns-then-weights-gt-MOST_PAIRS c = refused_second _ _ tt c.in_ok-method.ensures (search rules)

pub returns-then-places-weights : goal.returns-then-places-weights
unfolding row_refusals pair_refusals design_refusals first
returns-then-places-weights c = refused_second _ _ tt c.in_ok-method.ensures (search rules)

pub returns : goal.returns
unfolding row_refusals pair_refusals design_refusals first
returns c = taken _ _ tt c.in_ok-method.ensures (search rules)
