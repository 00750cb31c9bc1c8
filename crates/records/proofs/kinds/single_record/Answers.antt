-- `single_record` gives the outcome of the single product of its two fields, by its pattern.
use Rattle.std.proofs.Common.{ap, ap₂, ◌∙◌, arith, w64}
use Rattle.std.proofs.lemmas.Int.{to_z_pos}
use Rattle.std.proofs.lemmas.Result.{err_from_is_err_and}
use Rattle.designs.specs.Outcomes.{accepted}
use Rattle.singles.specs.Answers.{pattern_given}
use Rattle.singles.specs.Singles.{single_outcome}
use Rattle.singles.proofs.Answered.{bits-given}
use Rattle.records.specs.Kinds.{natural, single_record}
use Rattle.records.proofs.kinds.single_record.Goals as goal

pub returns-in_err-pattern : goal.returns-in_err-pattern
unfolding single_record
returns-in_err-pattern c =
    let p = err_from_is_err_and c.from_residual.result c.from_residual.ensures.1 in
    rw (p.1, p.2)
    (ap natural
    (ap pattern_given c.in_err-pattern.ensures ∙ bits-given c.single_product.result ∙ c.single_product.ensures.outcome
    ∙ ap₂ single_outcome c.four_bytes-x.ensures c.four_bytes-y.ensures))

pub returns : goal.returns
unfolding single_record
returns c =
    ap accepted (to_z_pos w64 c.in_ok-pattern.pattern (omega arith))
    ∙ ap natural
    (ap pattern_given c.in_ok-pattern.ensures ∙ bits-given c.single_product.result ∙ c.single_product.ensures.outcome
    ∙ ap₂ single_outcome c.four_bytes-x.ensures c.four_bytes-y.ensures)
