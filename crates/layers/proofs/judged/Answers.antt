-- The design is judged, then the store's shape, and then the tests of the frame and of the places are made, as `layer_refusals` joins their
-- lists.
use Rattle.std.proofs.Common.{rules, sym, [], ◌∷◌, ◌/◌}
use Rattle.std.proofs.lemmas.Result.{err_from_is_err_and}
use Rattle.designs.specs.Outcomes.{first}
use Rattle.designs.specs.Scoring.{design_refusals, lengths_differ}
use Rattle.designs.proofs.Refusals.{of-first}
use Rattle.refusals.proofs.Judging.{numbered, refused_first, refused_second, taken}
use Rattle.stores.specs.Stores.{shape_refusals}
use Rattle.stores.proofs.FoundRow.{shaped}
use Rattle.layers.specs.Layers.{layer_refusals, scores_too_short}
use Rattle.layers.proofs.judged.Goals as goal

pub returns-in_err-method : goal.returns-in_err-method
unfolding layer_refusals
returns-in_err-method c =
    let p = err_from_is_err_and c.from_residual.result c.from_residual.ensures.1 in
    rw (p.1, p.2) (refused_first _ _ c.in_err-method.ensures)

pub returns-in_err-shape_refusal : goal.returns-in_err-shape_refusal
unfolding layer_refusals
returns-in_err-shape_refusal c =
    let p = err_from_is_err_and c.from_residual-in_err-shape_refusal.result c.from_residual-in_err-shape_refusal.ensures.1 in
    let shape = shape_refusals c.args.length c.args.columns in
    let lent = lengths_differ c.args.columns c.args.frame ∷ scores_too_short c.args.places (c.args.length / c.args.columns) ∷ [] in
    rw (p.1, p.2) (refused_second _ _ tt c.in_ok-method.ensures (of-first shape lent c.in_err-shape_refusal.ensures (numbered _)))

pub returns-then-columns-frame : goal.returns-then-columns-frame
unfolding layer_refusals design_refusals first
returns-then-columns-frame c = refused_second _ _ tt c.in_ok-method.ensures (search rules)

pub nonzero_div-length : goal.nonzero_div-length
nonzero_div-length c = (shaped _ _ (sym c.in_ok-shape_refusal.ensures)).some

pub returns-then-places-length : goal.returns-then-places-length
unfolding layer_refusals design_refusals first
returns-then-places-length c = refused_second _ _ tt c.in_ok-method.ensures (search rules)

pub returns : goal.returns
unfolding layer_refusals design_refusals first
returns c = taken _ _ tt c.in_ok-method.ensures (search rules)
