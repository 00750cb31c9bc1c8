-- `next` reads the first record of what is left, and leaves what follows it; where nothing is left there are no records.
use Rattle.std.proofs.Common.{rules, arith}
use Rattle.records.specs.Records.{records_of}
use Rattle.records.proofs.Sequence.{fewer, first-and-rest, forward, no-records}
use Rattle.records.proofs.RecordsIterator.next.Goals as goal

pub returns-then-is_empty-clause-steps : goal.returns-then-is_empty-clause-steps
unfolding records_of
returns-then-is_empty-clause-steps c =
    let none = no-records _ c.args.self.now.left.now (search rules) in (none, none)

pub slice_bounds-self-count : goal.slice_bounds-self-count
slice_bounds-self-count c = (forward _ c.first_record-entry.ensures (search rules)).1

pub slice_bounds-self-start : goal.slice_bounds-self-start
slice_bounds-self-start c = omega (arith, (forward _ c.first_record-entry.ensures (search rules)).1)

pub returns-clause-steps : goal.returns-clause-steps
returns-clause-steps c = first-and-rest _ c.first_record-entry.ensures (search rules)

pub returns-clause-goes : goal.returns-clause-goes
returns-clause-goes c =
    record { on = λ _. (tt, tt, fewer _ c.first_record-entry.ensures (search rules)); keeps = tt; rests = λ _. tt }
