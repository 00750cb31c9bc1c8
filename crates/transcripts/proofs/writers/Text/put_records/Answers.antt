-- A turn writes the line of the record that was read, which has room, and goes forward; at the end what is left is the total.
use Rattle.std.proofs.Common.{arith, ◌+◌}
use Rattle.transcripts.proofs.Turns.{done, line-room, start, total-room, turn}
use Rattle.transcripts.proofs.writers.Text.put_records.Goals as goal

pub loop-entry-init : goal.loop-entry-init
loop-entry-init c =
    let tally = c.default-tally.ensures in
    (0, rw (c.into_iter-entry-iterator.ensures.into_iter_gives, c.read_records-entry-items.ensures, tally.0, tally.1) (start _ _ c.requires))

pub put_line-requires : goal.put_line-requires
put_line-requires c = line-room (rw c.in-Some.ensures.steps at c.loop-entry.invariant.1)

pub count-requires : goal.count-requires
count-requires c = let g = c.loop-entry.invariant.1 in (omega (arith, g.inside, g.few-bytes), omega (arith, g.inside, g.few-bytes))

pub loop-entry-preserved : goal.loop-entry-preserved
loop-entry-preserved c =
    (c.loop-entry.invariant.0 + c.in-Some.entry.used, rw c.count.ensures (turn (rw c.in-Some.ensures.steps at c.loop-entry.invariant.1) c.put_line.ensures))

pub put_total-requires : goal.put_total-requires
put_total-requires c = total-room (rw c.in-None.ensures.steps.0 at c.loop-entry.invariant.1)

pub returns : goal.returns
returns c = done (rw c.in-None.ensures.steps.0 at c.loop-entry.invariant.1) c.put_total.ensures
