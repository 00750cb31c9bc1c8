-- The records of an input, one after the other. The first is as its frame says, and takes at least one byte and no more than there are; so as
-- many records as bytes are enough, and what follows the first is what the rest of the input holds.
use mathlib.Core.Path.{◌≡◌, refl, sym, ap, ◌∙◌}
use Prim.Native.Nat.{ℕ, zero, suc, ◌+◌, ◌-◌, ◌≤◌, ◌<◌}
use native.Mathlib.Omega.{arith}
use mathlib.Core.List.{List, [], ◌∷◌}
use lib.IntN.{ℤ}
use lib.ListN.{length, take, drop, length-drop}
use lib.Seq.{take_all}
use Rattle.designs.specs.Outcomes.{Outcome, refused, first}
use Rattle.designs.proofs.Refusals.{refused-is}
use Rattle.records.specs.Kinds.{kind_of}
use Rattle.records.specs.Frames.{Frame, frame}
use Rattle.records.specs.Records.{Record, evaluated, record_of, records_within, records_of}
use Rattle.records.proofs.Framing.{kind, body, refusals, by-frame}

-- the part that the code lends is the rest of the input
pub tail : (s : List ℕ) (at : ℕ) → take (length s - at) (drop at s) ≡ drop at s
tail s at = take_all (length s - at) (drop at s) (omega (arith, length-drop at s))

-- the record of a frame, by the frame's refusal
module _ (s : List ℕ) {f : Frame} (e : f ≡ frame s) where
  abbrev with : Outcome ℤ → Record
  with o = record { kind = f.kind; outcome = o; used = f.used }

  abbrev given : Outcome ℤ
  given = (kind_of f.kind).outcome (take (f.used - 1) (drop 1 s))

  pub refused-record : (f.refusal ≡ 0 → ⊥) → with (refused f.refusal) ≡ record_of s
  unfolding record_of
  refused-record h = ap with (refused-is f.refusal given h) ∙ ap (evaluated s) e

  pub whole-record : {o : Outcome ℤ} → f.refusal ≡ 0 → o ≡ given → with o ≡ record_of s
  unfolding record_of
  whole-record z eo = ap with (eo ∙ rw z) ∙ ap (evaluated s) e

-- a claim on the first record, from the claim on one that the reading refuses and on one whose body is there
pub by-record : (P : Record → Type 0) (s : List ℕ) → ((n : ℕ) → first (refusals s) ≡ n → P (record { kind = kind s; outcome = refused n; used = length s }))
    → (0 < body s → 1 + body s ≤ length s → P (evaluated s (record { kind = kind s; refusal = 0; used = 1 + body s }))) → P (record_of s)
unfolding record_of
by-record P s refuse give = by-frame s (λ (f : Frame). P (evaluated s f)) (λ n e. refuse (suc n) e) give

-- a record goes forward, and not past the end
pub moves : (s : List ℕ) → 0 < length s → (0 < (record_of s).used) × ((record_of s).used ≤ length s)
moves s h = by-record (λ (r : Record). (0 < r.used) × (r.used ≤ length s)) s (λ n _. omega arith) (λ _ l. omega arith)

-- an input that has ended has no records
pub no-records : (f : ℕ) (s : List ℕ) → length s ≡ 0 → records_within f s ≡ []
unfolding records_within
no-records zero s h = refl
no-records (suc f) [] h = refl
no-records (suc f) (x ∷ s) h = absurd (omega arith)

-- there are no more than were allowed, and so no more than bytes
few-within : (most : ℕ) (s : List ℕ) → length (records_within most s) ≤ most
unfolding records_within
few-within zero s = omega arith
few-within (suc most) [] = omega arith
few-within (suc most) (x ∷ s) = omega (arith, few-within most (drop (record_of (x ∷ s)).used (x ∷ s)))

pub few : (s : List ℕ) → length (records_of s) ≤ length s
unfolding records_of
few s = few-within (length s) s

-- what is left after the first record
module _ (x : ℕ) (s : List ℕ) where
  abbrev rest : List ℕ
  rest = drop (record_of (x ∷ s)).used (x ∷ s)

  shorter : length rest ≤ length s
  shorter = omega (arith, moves (x ∷ s) (omega arith), length-drop (record_of (x ∷ s)).used (x ∷ s))

-- more than as many as there are bytes changes nothing
enough : (f g : ℕ) (s : List ℕ) → length s ≤ f → length s ≤ g → records_within f s ≡ records_within g s
unfolding records_within
enough zero g s h k = sym (no-records g s (omega arith))
enough (suc f) zero s h k = no-records (suc f) s (omega arith)
enough (suc f) (suc g) [] h k = refl
enough (suc f) (suc g) (x ∷ s) h k =
    ap (λ (l : List Record). record_of (x ∷ s) ∷ l) (enough f g (rest x s) (omega (arith, shorter x s)) (omega (arith, shorter x s)))

-- so an input that has not ended has the first record and those of the rest
pub records-next : (s : List ℕ) → 0 < length s → records_of s ≡ record_of s ∷ records_of (drop (record_of s).used s)
unfolding records_of
records-next [] h = absurd (omega arith)
records-next (x ∷ s) h = ap (λ (l : List Record). record_of (x ∷ s) ∷ l) (enough (length s) (length (rest x s)) (rest x s) (shorter x s) (omega arith))

-- the record x that is read at the start of s, and what follows it, as the code lends it
module _ (s : List ℕ) {x : Record} (read : x ≡ record_of s) (some : 0 < length s) where
  pub forward : (0 < x.used) × (x.used ≤ length s)
  forward = rw read (moves s some)

  pub first-and-rest : records_of s ≡ x ∷ records_of (take (length s - x.used) (drop x.used s))
  first-and-rest = records-next s some ∙ rw (← read, tail s x.used)

  pub fewer : length (records_of (take (length s - x.used) (drop x.used s))) < length (records_of s)
  fewer = rw first-and-rest (omega arith)
