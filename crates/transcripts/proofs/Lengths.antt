-- How long a transcript can be. Every record that is read whole pays for its line with its bytes; beyond that there is at most one line of a
-- record that ends the reading, and the total.
use mathlib.Core.Path.{refl}
use Prim.Native.Nat.{ℕ, zero, suc, ◌+◌, ◌-◌, ◌*◌, ◌≤◌}
use native.Mathlib.Omega.{arith}
use mathlib.Core.List.{List, [], ◌∷◌, ◌++◌}
use lib.IntN.{ℤ}
use lib.ListN.{length, take, drop, length-append, length-drop, length-take, get_or-eq_default}
use lib.Seq.{drop-length, get_or-take, get_or-drop}
use Rattle.designs.specs.Outcomes.{Outcome, refused}
use Rattle.designs.proofs.Cases.{either_lt}
use Rattle.records.specs.Kinds.{kind_of}
use Rattle.records.specs.Frames.{reading_refusals}
use Rattle.records.specs.Records.{Record, records_within, records_of}
use Rattle.records.proofs.Sequence.{by-record, no-records}
use Rattle.transcripts.specs.Transcripts.{input_most}
use Rattle.transcripts.specs.Lines.{Tally, none, counted, line, total_line, printed}
use Rattle.transcripts.proofs.Decimals.{decimal-length}
use Rattle.transcripts.proofs.KindLengths.{Bytes, line-length, pays, refusal-length, refusal_most, table_bytes, table_line}
use Rattle.transcripts.proofs.Turns.{Within, counts}

-- the longest line of a record that the reading refuses, "255 no 17", and the longest total, "total 65536 65536"
abbrev end_line : ℕ
end_line = 10

abbrev total_most : ℕ
total_most = 18

-- the places that hold any transcript
abbrev pub transcript_most : ℕ
transcript_most = 245760

total-length : {t : Tally} {n : ℕ} → Within t n → n ≤ input_most → length (total_line t) ≤ total_most
unfolding total_line
total-length {t} w h = simp length-append (omega (arith, decimal-length 4 t.accepted (omega arith), decimal-length 4 t.refused (omega arith)))

part_bytes : (s : List ℕ) (m n : ℕ) → Bytes s → Bytes (take m (drop n s))
part_bytes s m n h i =
    either_lt i m (λ l. rw (get_or-take m (drop n s) i 0 l, get_or-drop n s i 0) (h (n + i)))
    (λ l. rw (get_or-eq_default (take m (drop n s)) 0 {n = i} (omega (arith, length-take m (drop n s)))) (omega arith))

drop-bytes : (s : List ℕ) (n : ℕ) → Bytes s → Bytes (drop n s)
drop-bytes s n h i = rw (get_or-drop n s i 0) (h (n + i))

-- the bytes printed of an input, times table_bytes, are at most this
abbrev most : List ℕ → ℕ
most s = table_line * length s + table_bytes * (end_line + total_most)

printed-length : (f : ℕ) (s : List ℕ) {t : Tally} {n : ℕ} → Bytes s → Within t n → n + length s ≤ input_most
    → table_bytes * length (printed t (records_within f s)) ≤ most s
unfolding printed records_within reading_refusals
printed-length zero s bs w h = omega (arith, total-length w (omega arith))
printed-length (suc f) [] bs w h = omega (arith, total-length w (omega arith))
printed-length (suc f) (x ∷ y) {t} {n} bs w h =
    by-record (λ (r : Record). table_bytes * length (line r.kind r.outcome ++ printed (counted t r.outcome) (records_within f (drop r.used s))) ≤ most s) s
    (λ r e. let o : Outcome ℤ = refused r in
    rw (drop-length s, no-records f [] refl, length-append (line x o) (total_line (counted t o)))
    (omega (
      arith,
      line-length 2 x refusal_most o (omega (arith, bs 0)) (refusal-length (reading_refusals own (length s)) tt r e),
      total-length {n = n + 1} (counts o (omega arith) w) (omega arith),
    )))
    (λ known fits. let b = take (1 + own - 1) (drop 1 s) in
    let o : Outcome ℤ = (kind_of x).outcome b in
    let rest = drop (1 + own) s in
    rw (length-append (line x o) (printed (counted t o) (records_within f rest)))
    (omega (
      arith,
      pays x b (part_bytes s (1 + own - 1) 1 bs) known,
      length-drop (1 + own) s,
      printed-length f rest {n = n + (1 + own)} (drop-bytes s (1 + own) bs) (counts o (omega arith) w) (omega (arith, length-drop (1 + own) s)),
    )))
  where
    s : List ℕ
    s = x ∷ y

    -- the body's length
    own : ℕ
    own = (kind_of x).body

pub transcript-length : (s : List ℕ) → Bytes s → length s ≤ input_most → length (printed none (records_of s)) ≤ transcript_most
unfolding records_of
transcript-length s bs h = omega (arith, printed-length (length s) s {t = none} {n = 0} bs (omega arith) (omega arith))
