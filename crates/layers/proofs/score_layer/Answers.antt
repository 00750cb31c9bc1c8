-- The layer is judged, and what is accepted is scored, by the design that is asked for, into as many places as there are rows.
use Rattle.std.proofs.Common.{arith, length, ◌/◌, sym, subst}
use Rattle.std.proofs.Math.ListN.{length-take}
use Rattle.std.proofs.lemmas.Result.{err_from_is_err_and}
use Rattle.layers.specs.Blocks.{Ranged}
use Rattle.layers.proofs.Accepted.{ranged}
use Rattle.layers.proofs.EachBlock.{as-asked}
use Rattle.layers.proofs.LayerOutcome.{framed, Ready, ready, refuse, score}
use Rattle.layers.proofs.score_layer.Goals.{In_ok-method}
use Rattle.layers.proofs.score_layer.Goals as goal

settled : (c : In_ok-method) → Ready c.args.design c.args.setting c.args.store.now c.args.columns c.args.frame.now c.args.scores.now
settled c = ready _ _ _ _ _ _ c.in_ok-method.ensures.refusal

pub returns-in_err-method : goal.returns-in_err-method
returns-in_err-method c =
    let p = err_from_is_err_and c.from_residual.result c.from_residual.ensures.1 in
    rw (p.1, p.2) (refuse _ _ _ _ _ _ _ c.in_err-method.ensures.refusal)

pub nonzero_div-rows : goal.nonzero_div-rows
nonzero_div-rows c = (settled (goal.at.nonzero_div-rows c).In_ok-method).shape.some

pub slice_bounds-by_method-end : goal.slice_bounds-by_method-end
slice_bounds-by_method-end c = (settled (goal.at.slice_bounds-by_method-end c).In_ok-method).places

pub slice_bounds-by_method-end-2 : goal.slice_bounds-by_method-end-2
slice_bounds-by_method-end-2 c =
    omega (
      arith,
      length-take (length c.args.store.now / c.args.columns) c.args.scores.now,
      (settled (goal.at.slice_bounds-by_method-end-2 c).In_ok-method).places,
    )

pub by_method-requires : goal.by_method-requires
by_method-requires c =
    let accepted = settled (goal.at.by_method-requires c).In_ok-method in
    (framed _ _ _ _ _ _ accepted, subst Ranged (sym c.in_ok-method.ensures.method) (ranged _ _ accepted.known))

pub returns : goal.returns
returns c = score _ _ _ _ _ _ c.in_ok-method.ensures.refusal (as-asked _ _ _ c.in_ok-method.ensures.method c.by_method.ensures)
