-- A strip of the frame. Each run of powers that are taken off adds 128 places with codes and leaves the places before, so that after m runs and
-- the last there are the codes of m + 1 powers.
use Rattle.std.proofs.Common.{◌≡◌, ℕ, zero, suc, ◌+◌, ◌*◌, ◌^◌, ◌<◌, ◌≤◌, List, length, get_or, ℤ, ◌-ℤ◌, nat_abs, sym, refl, ap, ◌∙◌, subst, add-one, arith}
use lib.Signed.{mag}
use Rattle.designs.specs.Signs.{left_ℤ}
use Rattle.designs.proofs.Cases.{by-lt, either_lt}
use Rattle.patterns.specs.Blocks.{place}
use Rattle.strips.specs.Codes.{code_of}
use Rattle.many_stages.specs.Powers.{high_byte, left_by, low_byte, next_power}
use Rattle.many_stages.specs.Strips.{Coded, Filled, Patterned, Powered, Short, Stepping}
use Rattle.many_stages.proofs.Bytes.{high_small, low_small}
use Rattle.many_stages.proofs.NextPowers.{left-next, left-short, left-some, left-zero}
use Rattle.many_stages.proofs.Patterned.{patterned-as}
use Rattle.many_stages.proofs.Stages.{short-left}

-- what is left is never 0, once a power is taken off
pub by-some : (i : ℕ) (z : ℤ) → 1 ≤ i → 0 < nat_abs (left_by i z)
by-some zero z h = absurd (omega arith)
by-some (suc i) z h = rw (left-next i z) (left-some (left_by i z))

-- a place of run q, before the one of run i
run-before : (at : ℕ) {place : ℕ} (i q k : ℕ) → place ≡ at + 128 * i → q < i → k < 128 → at + 128 * q + k < place
run-before at i q k e g h = omega arith

-- i powers of n numbers are taken off
pub record Spreading (at n : ℕ) (f : ℕ → ℤ) (before left held : List ℕ) (i : ℕ) : Type 0 where
  pub numbers : Short n (λ k. left_by i (f k)) left
  pub size : length held ≡ length before
  pub here : (q : ℕ) → q < i → (k : ℕ) → k < n → get_or held (at + 128 * q + k) 0 ≡ code_of (next_power (left_by q (f k)))
  pub front : (p : ℕ) → p < at → get_or held p 0 ≡ get_or before p 0

module _ {at n : ℕ} {f : ℕ → ℤ} {before : List ℕ} where
  pub none-spread : {left : List ℕ} → Short n f left → Spreading at n f before left before 0
  none-spread s =
      record {
        numbers = record { patterns = patterned-as (λ k. sym (left-zero (f k))) s.patterns; short = λ k h. rw (left-zero (f k)) (s.short k h) };
        size = refl;
        here = λ q h. absurd (omega arith);
        front = λ p h. refl;
      }

  module _ {left held : List ℕ} {i : ℕ} (s : Spreading at n f before left held i) where
    pub stepping : {place : ℕ} → place ≡ at + 128 * i → at + 128 * i + n ≤ length before → Stepping n (λ k. left_by i (f k)) place left held
    stepping e room = record { numbers = s.numbers; places = omega (arith, s.size) }

    -- one run more
    pub next-spread : {place : ℕ} {left' held' : List ℕ} → place ≡ at + 128 * i → n ≤ 128
        → Patterned n (λ k. left_by i (f k) -ℤ next_power (left_by i (f k))) left' × Filled place n (λ k. next_power (left_by i (f k))) held held'
        → Spreading at n f before left' held' (i + 1)
    next-spread {place} {left'} {held'} e few (rests, codes) =
        record {
          numbers = rw (add-one i) (record {
            patterns = patterned-as (λ k. sym (left-next i (f k))) rests;
            short = λ k h. rw (left-next i (f k)) (left-short (left_by i (f k)) (s.numbers.short k h));
          });
          size = codes.size ∙ s.size;
          here = λ q h k l. either_lt q i
              (λ g. codes.front (at + 128 * q + k) (run-before at i q k e g (omega arith)) ∙ s.here q g k l)
              (λ g. last q (omega arith) k l);
          front = λ p h. codes.front p (omega arith) ∙ s.front p h;
        }
      where
        last : (q : ℕ) → q ≡ i → (k : ℕ) → k < n → get_or held' (at + 128 * q + k) 0 ≡ code_of (next_power (left_by q (f k)))
        last q g k h = rw g (ap (λ (p : ℕ). get_or held' p 0) (omega arith) ∙ codes.here k h)

    -- the last powers are what is left
    pub all-spread : {m place : ℕ} {held' : List ℕ} → i ≡ m → place ≡ at + 128 * m → n ≤ 128 → Filled place n (λ k. left_by i (f k)) held held' → Powered m at n f before held'
    all-spread {m} {place} {held'} all e few codes =
        subst (λ (q : ℕ). Powered q at n f before held') all
        (record {
          size = codes.size ∙ s.size;
          here = λ q h k l. by-lt (λ (y : ℤ). get_or held' (at + 128 * q + k) 0 ≡ code_of y) q i
              (λ g. codes.front (at + 128 * q + k) (run-before at i q k (omega arith) g (omega arith)) ∙ s.here q g k l)
              (λ g. ap (λ (p : ℕ). get_or held' p 0) (same q k (omega arith)) ∙ codes.here k l);
          front = λ p h. codes.front p (omega arith) ∙ s.front p h;
        })
      where
        same : (q k : ℕ) → q ≡ i → at + 128 * q + k ≡ place + k
        same q k g = rw g (omega arith)

-- bytes, and what four stages or more leave, are short
module _ (part : List ℤ) {n : ℕ} (fits : (k : ℕ) → k < n → mag (place part k) < 2 ^ 15) {left : List ℕ} where
  pub short-high : Patterned n (λ k. high_byte (place part k)) left → Short n (λ k. high_byte (place part k)) left
  short-high p = record { patterns = p; short = λ k h. omega (arith, high_small (place part k) (fits k h)) }

  pub short-low : Patterned n (λ k. low_byte (place part k)) left → Short n (λ k. low_byte (place part k)) left
  short-low p = record { patterns = p; short = λ k h. omega (arith, low_small (place part k) (fits k h)) }

  pub short-rests : {s : ℕ} → 4 ≤ s → Patterned n (λ k. left_ℤ s (place part k)) left → Short n (λ k. left_ℤ s (place part k)) left
  short-rests {s} many p = record { patterns = p; short = λ k h. short-left s (place part k) many (fits k h) }

-- three runs make the codes of a part
pub strip-coded : {s : ℕ} (part : List ℤ) {held₀ held₁ held₂ held₃ : List ℕ} → ((k : ℕ) → k < length part → mag (place part k) < 2 ^ 15) → length part ≤ 128
    → Powered 3 0 (length part) (λ k. high_byte (place part k)) held₀ held₁ → Powered 3 512 (length part) (λ k. low_byte (place part k)) held₁ held₂
    → Powered 5 1024 (length part) (λ k. left_ℤ s (place part k)) held₂ held₃ → Coded s part held₃
strip-coded part {held₁ = held₁} fits few high low left =
    record {
      few = few;
      small = fits;
      high = λ i h k l. left.front (128 * i + k) (omega arith) ∙ low.front (128 * i + k) (omega arith) ∙ ap (λ (p : ℕ). get_or held₁ p 0) (omega arith) ∙ high.here i h k l;
      low = λ i h k l. left.front (512 + 128 * i + k) (omega arith) ∙ low.here i h k l;
      left = left.here;
    }
