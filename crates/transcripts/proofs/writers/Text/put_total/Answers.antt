-- `put_total` writes the word and the two counts, field after field.
use Rattle.transcripts.specs.Lines.{total_line}
use Rattle.transcripts.proofs.Writing.{fit, room, then}
use Rattle.transcripts.proofs.writers.Text.put_total.Goals as goal

pub put_bytes-requires : goal.put_bytes-requires
unfolding total_line
put_bytes-requires c = fit _ c.requires

pub put_number-requires : goal.put_number-requires
unfolding total_line
put_number-requires c = fit _ (fit _ (room _ c.put_bytes.ensures c.requires))

pub put-requires : goal.put-requires
unfolding total_line
put-requires c = room _ c.put_number.ensures (fit _ (room _ c.put_bytes.ensures c.requires))

pub put_number-requires-2 : goal.put_number-requires-2
unfolding total_line
put_number-requires-2 c = fit _ (room _ (then c.put_number.ensures c.put.ensures) (room _ c.put_bytes.ensures c.requires))

pub end_line-requires : goal.end_line-requires
unfolding total_line
end_line-requires c = room _ c.put_number-2.ensures (room _ (then c.put_number.ensures c.put.ensures) (room _ c.put_bytes.ensures c.requires))

pub returns : goal.returns
unfolding total_line
returns c = then c.put_bytes.ensures (then (then c.put_number.ensures c.put.ensures) (then c.put_number-2.ensures c.end_line.ensures))
