-- `row_part` takes its part where `row_refusal` refuses nothing: there the row ends at or before the store's end, so the part is one of the
-- store's and its place fits.
use Rattle.std.proofs.Common.{arith, refl, sym, ◌≡◌, ◌∙◌, length}
use Rattle.std.proofs.lemmas.List.{length-take, length-drop}
use Rattle.refusals.proofs.Judging.{accepted_by, not_accepted}
use Rattle.stores.specs.Stores.{store_refusal}
use Rattle.stores.proofs.FoundRow.{Found, found}
use Rattle.stores.proofs.Handed.{nothing-handed, row-handed}
use Rattle.stores.proofs.row_part.Goals as goal
use Rattle.stores.proofs.row_part.Goals.{Else-is_err}

-- the row is accepted
judged : (c : Else-is_err) → store_refusal (length c.args.store.now) c.args.columns c.args.row ≡ 0
judged c = sym c.row_refusal.ensures ∙ accepted_by c.row_refusal.result (sym c.is_err.ensures.value ∙ c.if-is_err.false)

settled : (c : Else-is_err) → Found (length c.args.store.now) c.args.columns c.args.row
settled c = found _ _ _ (judged c)

pub overflow_mul-start : goal.overflow_mul-start
overflow_mul-start c = omega (arith, settled c)

pub overflow_add-end : goal.overflow_add-end
overflow_add-end c = omega (arith, settled c)

pub offset_bounds-store-start : goal.offset_bounds-store-start
offset_bounds-store-start c = omega (arith, settled c)

pub slice_bounds-view-end : goal.slice_bounds-view-end
slice_bounds-view-end c = omega (arith, settled c)

pub returns-then-is_err : goal.returns-then-is_err
returns-then-is_err c =
    let refused = not_accepted c.row_refusal.result (sym c.is_err.ensures.value ∙ c.if-is_err.true) in
    nothing-handed _ _ _ (λ e. refused (c.row_refusal.ensures ∙ e)) (record { block = refl; place = refl; elements = refl; count = refl })

pub returns : goal.returns
returns c =
    let here = (goal.at.returns c).Else-is_err in
    let inside : Found (length c.args.store.now) c.args.columns c.args.row = settled here in
    row-handed c.args.store _ _ (judged here)
    (record { block = refl; place = refl; elements = refl; count = simp (length-take, length-drop) (omega arith) }) refl (omega arith)
