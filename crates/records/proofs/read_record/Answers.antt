-- `read_record` reads the rest of the input where there is any.
use Rattle.std.proofs.Common.{ap, ◌∙◌}
use borrow.Author.Tests.{lt-ltb, le-ltb}
use Rattle.records.specs.Records.{next_at, found, record_of}
use Rattle.records.proofs.Sequence.{tail}
use Rattle.records.proofs.read_record.Goals as goal

pub returns-then-at-input : goal.returns-then-at-input
unfolding next_at
returns-then-at-input c =
    simp (lt-ltb _ _ c.if-at-input.true) (ap found (c.first_record.ensures ∙ ap record_of (tail c.args.input.now c.args.at)))

pub returns-else-at-input : goal.returns-else-at-input
unfolding next_at
returns-else-at-input c = simp (le-ltb _ _ c.if-at-input.false)
