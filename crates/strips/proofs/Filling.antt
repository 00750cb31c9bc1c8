-- A loop that makes codes of a part of a frame, number by number: one turn more is one code more, whatever a number becomes.
use Rattle.std.proofs.Common.{◌≡◌, ℕ, ◌+◌, ◌^◌, ◌<◌, ◌≤◌, List, length, get_or, set, ℤ, nat_abs, refl, ap, ◌∙◌, arith, length-set, get_or-set_other, get_or-set_same, to_z-of_z, w16, to_z, of_z}
use lib.Signed.{mag, nat_abs-le}
use Rattle.designs.proofs.Cases.{either_lt}
use Rattle.patterns.specs.Blocks.{place}
use Rattle.strips.specs.Codes.{Coded}

-- the first j codes
pub record Filled (f : ℤ → ℕ) (part : List ℤ) (before codes : List ℕ) (j : ℕ) : Type 0 where
  pub inside : j ≤ length part
  pub size : length codes ≡ length before
  pub at : (k : ℕ) → k < j → (get_or codes k 0 ≡ f (place part k)) × (nat_abs (place part k) ≤ 2 ^ 15)

module _ {f : ℤ → ℕ} {part : List ℤ} {before : List ℕ} where
  pub none : Filled f part before before 0
  none = record { inside = omega arith; size = refl; at = λ k h. absurd (omega arith) }

  -- a number as it is read, and its code as a callee gives it
  pub next : {codes : List ℕ} {j q : ℕ} → Filled f part before codes j → j < length part → length part ≤ length before → mag (place part j) < 2 ^ 15
      → q ≡ f (to_z w16 (of_z w16 (place part j))) → Filled f part before (set codes j q) (j + 1)
  next {codes} {j} {q} filled h room fits e =
      record {
        inside = omega arith;
        size = length-set codes j q ∙ filled.size;
        at = λ k l. either_lt k j (λ m. (get_or-set_other codes j k q 0 (λ e. omega arith) ∙ (filled.at k m).0, (filled.at k m).1)) (λ m. here k (omega arith));
      }
    where
      here : (k : ℕ) → k ≡ j → (get_or (set codes j q) k 0 ≡ f (place part k)) × (nat_abs (place part k) ≤ 2 ^ 15)
      here k m = rw m (get_or-set_same codes j q 0 (omega (arith, filled.size)) ∙ e ∙ ap f (to_z-of_z {w = w16} (record { sfits = fits })), nat_abs-le (place part j) fits)

  pub all : {codes : List ℕ} {j : ℕ} → Filled f part before codes j → length part ≤ j → length part ≤ 64 → Coded f part codes
  all filled h few = record { few = few; at = λ k l. filled.at k (omega arith) }
