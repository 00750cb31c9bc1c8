-- `put_refusal` writes the line of the one record that an unread input stands as, and the total that counts it.
use Rattle.transcripts.specs.Lines.{printed}
use Rattle.transcripts.proofs.Writing.{fit, room, then}
use Rattle.transcripts.proofs.writers.Text.put_refusal.Goals as goal

pub put_line-requires : goal.put_line-requires
unfolding printed
put_line-requires c = fit _ c.requires

pub put_total-requires : goal.put_total-requires
unfolding printed
put_total-requires c = simp (c.count.ensures, c.default-tally.ensures.0, c.default-tally.ensures.1) (room _ c.put_line.ensures c.requires)

pub returns : goal.returns
unfolding printed
returns c =
    then c.put_line.ensures
    (simp (c.count.ensures, c.default-tally.ensures.0, c.default-tally.ensures.1) at c.put_total.ensures)
