-- `put_records` keeps between two turns what `Going` says of the place reached: writing what is left makes the whole.
use Rattle.std.proofs.Common.{ℕ}
use Rattle.records.specs.Answers.{records_left}
use Rattle.transcripts.specs.Answers.{tally_given}
use Rattle.transcripts.proofs.Turns.{Going}
use Rattle.transcripts.proofs.writers.Text.put_records.Given as goal

abbrev pub invariant-loop-entry : goal.invariant-loop-entry
invariant-loop-entry l = (at : ℕ) × Going l.s at (records_left l.entry-iterator) l.fn.self l.self (tally_given l.tally)
