-- Loops over places for codes. One turn more is one code more; and where a power is taken off each number, one code and one pattern of what is
-- left.
use Rattle.std.proofs.Common.{◌≡◌, ℕ, ◌+◌, ◌^◌, ◌<◌, ◌≤◌, List, length, get_or, set, ℤ, ◌-ℤ◌, nat_abs, refl, ◌∙◌, arith, length-set, get_or-set_other, get_or-set_same}
use Rattle.designs.proofs.Cases.{either_lt}
use Rattle.patterns.specs.Patterns.{raised_of}
use Rattle.strips.specs.Codes.{code_of}
use Rattle.strips.proofs.EachStage as each
use Rattle.many_stages.specs.Powers.{next_power}
use Rattle.many_stages.specs.Strips.{Filled, Patterned, Raised, Stepping}
use Rattle.many_stages.proofs.NextPowers.{left-short, power_size}
use Rattle.many_stages.proofs.Patterned.{still}
use Rattle.many_stages.proofs.Stages.{mag-size}

module _ {at : ℕ} {g : ℕ → ℤ} {before : List ℕ} where
  pub none-coded : Filled at 0 g before before
  none-coded = record { size = refl; here = λ k h. absurd (omega arith); front = λ i h. refl }

  pub next-coded : {after : List ℕ} {j v : ℕ} → Filled at j g before after → at + j < length before → v ≡ code_of (g j) → Filled at (j + 1) g before (set after (at + j) v)
  next-coded {after} {j} {v} d l e =
      record {
        size = length-set after (at + j) v ∙ d.size;
        here = λ k h. either_lt k j (λ m. get_or-set_other after (at + j) (at + k) v 0 (λ q. omega arith) ∙ d.here k m) (λ m. last k (omega arith));
        front = λ i h. get_or-set_other after (at + j) i v 0 (λ q. omega arith) ∙ d.front i h;
      }
    where
      last : (k : ℕ) → k ≡ j → get_or (set after (at + j) v) (at + k) 0 ≡ code_of (g k)
      last k q = rw q (get_or-set_same after (at + j) v 0 (omega (arith, d.size)) ∙ e)

  pub all_coded : {after : List ℕ} {j n : ℕ} → Filled at j g before after → n ≤ j → Filled at n g before after
  all_coded d h = record { size = d.size; here = λ k l. d.here k (omega arith); front = d.front }

-- the first j powers are taken off
pub record Taking (f : ℕ → ℤ) (at : ℕ) (left₀ held₀ left held : List ℕ) (j : ℕ) : Type 0 where
  pub rests : each.Filled (λ k. raised_of (f k -ℤ next_power (f k))) j left₀ left
  pub codes : Filled at j (λ k. next_power (f k)) held₀ held

pub none-taken : {f : ℕ → ℤ} {at : ℕ} {left held : List ℕ} → Taking f at left held left held 0
none-taken = record { rests = each.none_filled _ _; codes = none-coded }

module _ {n : ℕ} {f : ℕ → ℤ} {at : ℕ} {left₀ held₀ : List ℕ} (s : Stepping n f at left₀ held₀) {left held : List ℕ} {j : ℕ} (t : Taking f at left₀ held₀ left held j) where
  module _ (h : j < n) where
    pub in_left : j < length left
    in_left = omega (arith, s.numbers.patterns.room, t.rests.size)

    pub in_held : at + j < length held
    in_held = omega (arith, s.places, t.codes.size)

    -- the number of a turn
    pub short : nat_abs (f j) ≤ 2 ^ 12
    short = omega (arith, s.numbers.short j h)

    pub number : get_or left j 0 ≡ raised_of (f j)
    number = still s.numbers.patterns t.rests h

    pub number-raised : Raised (f j) (get_or left j 0)
    number-raised = record { small = omega (arith, short); pattern = number }

    pub power-raised : {p : ℕ} → p ≡ raised_of (next_power (f j)) → Raised (next_power (f j)) p
    power-raised e = record { small = omega (arith, power_size (f j) (s.numbers.short j h)); pattern = e }

    pub next-taken : {p v : ℕ} → v ≡ code_of (next_power (f j)) → p ≡ raised_of (f j -ℤ next_power (f j)) → Taking f at left₀ held₀ (set left j p) (set held (at + j) v) (j + 1)
    next-taken ev ep =
        record {
          rests = each.next-filled t.rests (omega (arith, s.numbers.patterns.room)) ep;
          codes = next-coded t.codes (omega (arith, s.places)) ev;
        }

  pub powers-taken : n ≤ j → Patterned n (λ k. f k -ℤ next_power (f k)) left × Filled at n (λ k. next_power (f k)) held₀ held
  powers-taken h = (
    record {
      room = omega (arith, s.numbers.patterns.room, t.rests.size);
      small = λ k l. mag-size (f k -ℤ next_power (f k)) (omega (arith, left-short (f k) (s.numbers.short k l)));
      at = λ k l. t.rests.first k (omega arith);
    },
    all_coded t.codes h,
  )
