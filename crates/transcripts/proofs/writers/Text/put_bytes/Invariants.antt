-- The loop's invariant: the first bytes of the text are written.
use Rattle.std.proofs.Common.{take}
use Rattle.transcripts.specs.Answers.{Appended}
use Rattle.transcripts.proofs.writers.Text.put_bytes.Given as goal

abbrev pub invariant-loop-b : goal.invariant-loop-b
invariant-loop-b l = Appended l.fn.self (take l.b-index l.text) l.self
