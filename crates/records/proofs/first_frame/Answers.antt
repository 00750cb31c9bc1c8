-- `first_frame` is the frame of what the reading gave: a whole record takes its kind's byte and its body, and one that is refused all that is left.
use Rattle.std.proofs.Common.{arith}
use Rattle.records.proofs.Framing.{framed-refused, framed-whole, has_body}
use Rattle.records.proofs.first_frame.Goals as goal

pub overflow_add-used : goal.overflow_add-used
overflow_add-used c = omega (arith, (has_body c.in-Ok.known).1)

pub returns-in-Ok-clause-frame : goal.returns-in-Ok-clause-frame
returns-in-Ok-clause-frame c = framed-whole _ c.first_byte-kind.ensures _ c.in-Ok.ensures c.body_length.ensures

pub returns-in-Err-clause-frame : goal.returns-in-Err-clause-frame
returns-in-Err-clause-frame c = rw c.in-Err.is (framed-refused _ c.first_byte-kind.ensures _ c.in-Err.ensures)
