-- `first_record` frames the record, and hands the body of one that is whole to its kind.
use Rattle.std.proofs.Common.{arith, ap, ◌≡◌, ◌+◌, ◌≤◌, length}
use lib.ListN.{length-take, length-drop}
use Rattle.refusals.proofs.Judging.{numbered}
use Rattle.refusals.specs.Refusals.{refused_by}
use Rattle.records.specs.Answers.{number}
use Rattle.records.specs.Kinds.{kind_of}
use Rattle.records.proofs.Framing.{whole-frame}
use Rattle.records.proofs.Sequence.{refused-record, whole-record}
use Rattle.records.proofs.first_record.Goals as goal
use Rattle.records.proofs.first_record.Goals.{In-Ok}

-- the kind's byte and its body are there
there : (c : In-Ok)
    → (c.first_frame-kind.result.used ≡ 1 + (kind_of (number c.in-Ok.known)).body) × (c.first_frame-kind.result.used ≤ length c.args.s.now)
there c = whole-frame _ c.first_frame-kind.result _ c.in-Ok.is c.first_frame-kind.ensures.frame c.first_frame-kind.ensures.kind

pub slice_bounds-answer-count : goal.slice_bounds-answer-count
slice_bounds-answer-count c = omega (arith, there c)

pub slice_bounds-answer-start : goal.slice_bounds-answer-start
slice_bounds-answer-start c = omega (arith, there c)

pub slice_bounds-answer-end : goal.slice_bounds-answer-end
slice_bounds-answer-end c = omega (arith, there c)

pub answer-answer-requires : goal.answer-answer-requires
answer-answer-requires c = simp (length-take, length-drop) (omega (arith, there (goal.at.answer-answer-requires c).In-Ok))

pub returns-in-Ok : goal.returns-in-Ok
returns-in-Ok c =
    let e = rw c.in-Ok.is at c.first_frame-kind.ensures.kind in
    whole-record _ c.first_frame-kind.ensures.frame (ap refused_by c.in-Ok.is) (rw e at c.answer-answer.ensures)

pub returns-in-Err : goal.returns-in-Err
returns-in-Err c =
    let r = ap refused_by c.in-Err.is in
    rw r at (refused-record _ c.first_frame-kind.ensures.frame (rw r (numbered c.in-Err.refusal)))
