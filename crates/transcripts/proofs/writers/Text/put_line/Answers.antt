-- `put_line` writes the kind, the word of the answer with the result, which is read back from its bits, or the refusal, and the line feed.
use Rattle.std.proofs.Common.{rules, ◌≡◌, ◌++◌, ℕ, ℤ, List, append_assoc}
use Rattle.signs.proofs.Integers.{read_back}
use Rattle.designs.specs.Outcomes.{Outcome, accepted, refused}
use Rattle.refusals.specs.Refusals.{answer, number}
use Rattle.transcripts.specs.Answers.{Appended}
use Rattle.transcripts.specs.Text.{ascii, decimal, signed_decimal}
use Rattle.transcripts.specs.Lines.{line, outcome_text}
use Rattle.transcripts.proofs.Writing.{fit, room, then}
use Rattle.transcripts.proofs.writers.Text.put_line.Goals as goal
use Rattle.transcripts.proofs.writers.Text.put_line.Goals.{in-Ok, in-Err, Joined-outcome}

-- the line in the pieces that are written
abbrev word : Outcome ℤ → List ℕ
word (accepted v) = ascii " ok " ++ signed_decimal v
word (refused n) = ascii " no " ++ decimal n

pieces : (k : ℕ) (o : Outcome ℤ) → line k o ≡ decimal k ++ (word o ++ ascii "\n")
unfolding line outcome_text
pieces k (accepted v) = append_assoc (decimal k) (ascii " ") _
pieces k (refused n) = append_assoc (decimal k) (ascii " ") _

pub put_number-requires : goal.put_number-requires
put_number-requires c = fit _ (rw pieces at c.requires)

pub put_bytes-requires : goal.put_bytes-requires
put_bytes-requires c = fit (signed_decimal c.in-Ok.v) (fit (ascii "\n") (room _ c.put_number.ensures (rw (pieces, c.in-Ok.is) at c.requires)))

pub put_signed-requires : goal.put_signed-requires
put_signed-requires c =
    rw (read_back c.in-Ok.v (search rules)) (room _ c.put_bytes.ensures (fit _ (room _ c.put_number.ensures (rw (pieces, c.in-Ok.is) at c.requires))))

pub put_bytes-requires-in-Err : goal.put_bytes-requires-in-Err
put_bytes-requires-in-Err c = fit (decimal (number c.in-Err.refusal)) (fit (ascii "\n") (room _ c.put_number.ensures (rw (pieces, c.in-Err.is) at c.requires)))

pub put_number-requires-in-Err : goal.put_number-requires-in-Err
put_number-requires-in-Err c =
    rw c.from.ensures (room _ c.put_bytes-in-Err.ensures (fit _ (room _ c.put_number.ensures (rw (pieces, c.in-Err.is) at c.requires))))

-- what is written between the kind and the line feed
worded : (c : Joined-outcome) → Appended c.put_number.new.self (word (answer c.args.outcome)) c.match-outcome.self
worded c =
    elim c.match-outcome.branch [
      | in-Ok w ↦ rw (w.self-is, w.in-Ok.is) (then w.put_bytes.ensures (rw (read_back w.in-Ok.v (search rules)) at w.put_signed.ensures))
      | in-Err w ↦ rw (w.self-is, w.in-Err.is) (then w.put_bytes-in-Err.ensures (rw w.from.ensures at w.put_number-in-Err.ensures))
    ]

pub end_line-requires : goal.end_line-requires
end_line-requires c = room _ (worded (goal.at.end_line-requires c).Joined-outcome) (room _ c.put_number.ensures (rw pieces at c.requires))

pub returns : goal.returns
returns c = rw pieces (then c.put_number.ensures (then (worded (goal.at.returns c).Joined-outcome) c.end_line.ensures))
