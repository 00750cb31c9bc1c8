-- The loop over the records: what holds between two turns, a turn, and the end. Between two turns, writing what is still to be printed writes
-- the whole, and there is room for it; each count is at most the records read, and the bytes read, since every record takes at least one.
-- What is said of text and of records read holds of any list of records; places, and the bytes read, are of those that an input holds.
use mathlib.Core.Path.{◌≡◌, refl, ap, ◌∙◌}
use Prim.Native.Nat.{ℕ, ◌+◌, ◌-◌, ◌≤◌, ◌<◌}
use native.Mathlib.Omega.{arith}
use mathlib.Core.List.{List, [], ◌∷◌}
use lib.IntN.{ℤ}
use lib.ListN.{length, drop, get_or, length-drop}
use lib.Seq.{drop-drop}
use Rattle.designs.specs.Outcomes.{Outcome, accepted, refused}
use Rattle.designs.proofs.Cases.{either_lt}
use Rattle.records.specs.Records.{Record, record_of, records_of}
use Rattle.records.proofs.Sequence.{moves, no-records, records-next}
use Rattle.transcripts.specs.Answers.{HasRoom, Appended}
use Rattle.transcripts.specs.Lines.{Tally, none, counted, line, total_line, printed}
use Rattle.transcripts.specs.declared.writers.Text.{Text}
use Rattle.transcripts.proofs.Writing.{fit, room, then}

-- no count of a tally is more than n
pub record Within (t : Tally) (n : ℕ) : Type 0 where
  pub accepted-few : t.accepted ≤ n
  pub refused-few : t.refused ≤ n

-- a record counts at most once
pub counts : {t : Tally} {n m : ℕ} (o : Outcome ℤ) → n < m → Within t n → Within (counted t o) m
counts (accepted v) h w = omega arith
counts (refused r) h w = omega arith

-- between two turns, where of all records rs are still to be printed
pub record Printing (all rs : List Record) (text₀ text : Text) (t : Tally) : Type 0 where
  pub part : length rs ≤ length all
  pub few : Within t (length all - length rs)
  pub has_room : HasRoom text (printed t rs)
  pub finish : {u : Text} → Appended text (printed t rs) u → Appended text₀ (printed none all) u

pub none-printed : (all : List Record) (text : Text) → HasRoom text (printed none all) → Printing all all text text none
none-printed all text h = record { part = omega arith; few = omega arith; has_room = h; finish = λ p. p }

-- with a record's line the next turn goes on
module _ {all rs : List Record} {text₀ text : Text} {t : Tally} {x : Record} (g : Printing all (x ∷ rs) text₀ text t) where
  pub line-fits : HasRoom text (line x.kind x.outcome)
  unfolding printed
  line-fits = fit _ g.has_room

  pub more-printed : {u : Text} → Appended text (line x.kind x.outcome) u → Printing all rs text₀ u (counted t x.outcome)
  unfolding printed
  more-printed p =
      record {
        part = omega (arith, g.part);
        few = counts x.outcome (omega (arith, g.part)) g.few;
        has_room = room _ p g.has_room;
        finish = λ q. g.finish (then p q);
      }

-- and at the end nothing is left but the total
module _ {all : List Record} {text₀ text : Text} {t : Tally} (g : Printing all [] text₀ text t) where
  pub total-fits : HasRoom text (total_line t)
  unfolding printed
  total-fits = g.has_room

  pub all-printed : {u : Text} → Appended text (total_line t) u → Appended text₀ (printed none all) u
  unfolding printed
  all-printed p = g.finish p

-- the records that are still to be read, where a part of the input is
abbrev pub left : List ℕ → ℕ → List Record
left s at = records_of (drop at s)

-- of these the first is x, and then come rs
module _ (s : List ℕ) (at : ℕ) {x : Record} {rs : List Record} (are : x ∷ rs ≡ left s at) where
  some : 0 < length (drop at s)
  unfolding records_of
  some =
      either_lt 0 (length (drop at s)) (λ h. h)
      (λ h. absurd (omega (arith, ap length (are ∙ no-records (length (drop at s)) (drop at s) (omega arith)))))

  next : x ∷ rs ≡ record_of (drop at s) ∷ records_of (drop (record_of (drop at s)).used (drop at s))
  next = are ∙ records-next (drop at s) some

  is : x ≡ record_of (drop at s)
  is = ap (λ (l : List Record). get_or l 0 x) next

  -- the record goes forward, and reading goes on behind the bytes that it took
  pub forward : (0 < x.used) × (at + x.used ≤ length s)
  forward = rw is (omega (arith, moves (drop at s) some, length-drop at s))

  pub behind : rs ≡ left s (at + x.used)
  behind = ap (λ (l : List Record). drop 1 l) next ∙ rw (← is, drop-drop x.used at s)

-- between two turns, where the input is read up to `at`, and the records rs are left: what `Printing` says, the place, and that
-- no count passes it
pub record Going (s : List ℕ) (at : ℕ) (rs : List Record) (text₀ text : Text) (t : Tally) : Type 0 where
  pub inside : at ≤ length s
  pub are : rs ≡ left s at
  pub part : length rs ≤ length (records_of s)
  pub few : Within t (length (records_of s) - length rs)
  pub few-bytes : Within t at
  pub has_room : HasRoom text (printed t rs)
  pub finish : {u : Text} → Appended text (printed t rs) u → Appended text₀ (printed none (records_of s)) u

-- the one from the other
pub placed : {s : List ℕ} {at : ℕ} {rs : List Record} {text₀ text : Text} {t : Tally} → at ≤ length s → rs ≡ left s at → Within t at
    → Printing (records_of s) rs text₀ text t → Going s at rs text₀ text t
placed inside are few g =
    record { inside = inside; are = are; part = g.part; few = g.few; few-bytes = few; has_room = g.has_room; finish = g.finish }

pub printing : {s : List ℕ} {at : ℕ} {rs : List Record} {text₀ text : Text} {t : Tally} → Going s at rs text₀ text t
    → Printing (records_of s) rs text₀ text t
printing g = record { part = g.part; few = g.few; has_room = g.has_room; finish = g.finish }

pub start : (s : List ℕ) (text : Text) → HasRoom text (printed none (records_of s)) → Going s 0 (records_of s) text text none
start s text h = placed (omega arith) refl (omega arith) (none-printed (records_of s) text h)

-- with a record's line the next turn goes on, behind the bytes that the record took
module _ {s : List ℕ} {at : ℕ} {x : Record} {rs : List Record} {text₀ text : Text} {t : Tally} (g : Going s at (x ∷ rs) text₀ text t) where
  pub line-room : HasRoom text (line x.kind x.outcome)
  line-room = line-fits (printing g)

  pub turn : {u : Text} → Appended text (line x.kind x.outcome) u → Going s (at + x.used) rs text₀ u (counted t x.outcome)
  turn p =
      let on = forward s at g.are in
      placed on.1 (behind s at g.are) (counts x.outcome (omega (arith, on)) g.few-bytes) (more-printed (printing g) p)

-- and at the end nothing is left but the total
module _ {s : List ℕ} {at : ℕ} {text₀ text : Text} {t : Tally} (g : Going s at [] text₀ text t) where
  pub total-room : HasRoom text (total_line t)
  total-room = total-fits (printing g)

  pub done : {u : Text} → Appended text (total_line t) u → Appended text₀ (printed none (records_of s)) u
  done p = all-printed (printing g) p
