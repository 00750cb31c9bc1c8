-- `row_refusal` judges the store's shape and then the row, as `store_refusals` joins their lists.
use Rattle.std.proofs.Common.{rules, sym, length, [], ◌∷◌}
use Rattle.std.proofs.lemmas.Result.{err_from_is_err_and}
use Rattle.designs.specs.Outcomes.{first}
use Rattle.designs.proofs.Refusals.{of-first}
use Rattle.refusals.proofs.Judging.{numbered}
use Rattle.stores.specs.Stores.{shape_refusals, no_such_row, store_refusal}
use Rattle.stores.proofs.FoundRow.{shaped}
use Rattle.stores.proofs.row_refusal.Goals as goal

pub returns-in_err-shape_refusal : goal.returns-in_err-shape_refusal
unfolding store_refusal
returns-in_err-shape_refusal c =
    let p = err_from_is_err_and c.from_residual.result c.from_residual.ensures.1 in
    let shape = shape_refusals (length c.args.store.now) c.args.columns in
    let row = no_such_row (length c.args.store.now) c.args.columns c.args.row ∷ [] in
    rw (p.1, p.2) (of-first shape row c.in_err-shape_refusal.ensures (numbered _))

pub nonzero_div-store : goal.nonzero_div-store
nonzero_div-store c = (shaped _ _ (sym c.in_ok-shape_refusal.ensures)).some

pub returns-then-row-store : goal.returns-then-row-store
unfolding store_refusal first
returns-then-row-store c = search rules

pub returns : goal.returns
unfolding store_refusal first
returns c = search rules
