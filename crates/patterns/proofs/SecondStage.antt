-- Design 5 by patterns of sizes. The cut patterns less their exponent fields say whether S < 2^t; what the first stage leaves of a number
-- are its low bits, or these turned; and the second stage, read two places higher, is a whole number. It has 31 bits: what is left of a
-- number has a leading power below the number's own, and of two numbers of 2^15 nothing is left.
use Rattle.std.proofs.Common.{◌≡◌, ℕ, zero, suc, ◌+◌, ◌-◌, ◌*◌, ◌/◌, ◌%◌, ◌^◌, ◌<◌, ◌≤◌, Bool, true, false, pos, sym, refl, ap, ◌∙◌, ap₂, le_antisymm, mul-le-mul_left, mul-pos, sub-add_cancel, arith, pow_pos, pow_mono, lt-ltb, eq-eqb, ne_eqb}
use mathlib.Core.Bool.{false≢true}
use lib.Arith.{digits_mod}
use lib.Bits.{bit_and, and_mask, and_zero_l}
use Rattle.designs.specs.Codes.{kept_code}
use Rattle.designs.specs.Designs.{formula, kept, left_over, log2, product, rest, total, total_below, truncated, twice_truncated}
use Rattle.designs.proofs.Carried.{carried, carried-lt}
use Rattle.designs.proofs.Cases.{either_lt}
use Rattle.designs.proofs.Codes.{log2-le-bits}
use Rattle.designs.proofs.KeptCodes.{kept-raised}
use Rattle.designs.proofs.Parts.{log2-below, log2-le, parts, rest_lt, rest-zero, up_to}
use Rattle.designs.proofs.Truncated.{kept-none, total-lt, truncation-at}
use Rattle.designs.proofs.TwiceTruncated.{twice-is}
use Rattle.designs.proofs.Widths.{power-kept, power-rest}
use Rattle.designs.proofs.Zeros.{product_is, zero_left, zero_right}
use Rattle.patterns.specs.Patterns.{field_power, is_low, log_pattern, masked_by, pattern_of, Stands}
use Rattle.patterns.proofs.ExponentField.{field_at, lead-at}
use Rattle.patterns.proofs.KeptPatterns.{code-small, cut_at}
use Rattle.patterns.proofs.Pair.{log-sum}
use Rattle.patterns.proofs.Values.{nothing, stands}

-- a cut pattern less its exponent field
fraction-at : (t A : ℕ) → t ≤ 15 → A ≤ 2 ^ 15 → bit_and (pattern_of (pos A)) (2 ^ 32 - 2 ^ (23 - t)) ≡ bit_and (pattern_of (pos A)) (2 ^ 32 - 2 ^ 23) + kept t A * 2 ^ (23 - t)
unfolding kept_code pattern_of
fraction-at t zero ht l =
    and_zero_l (2 ^ 32 - 2 ^ (23 - t)) ∙ omega (arith, and_zero_l (2 ^ 32 - 2 ^ 23), ap (λ (x : ℕ). x * 2 ^ (23 - t)) (kept-none t 0 rest-zero))
fraction-at t (suc n) ht l = cut_at t ht (pos (suc n)) (omega arith) l ∙ omega (arith, field_at (suc n) l)

pub fraction-is : (t A p : ℕ) → t ≤ 15 → A ≤ 2 ^ 15 → p ≡ pattern_of (pos A) → bit_and p (2 ^ 32 - 2 ^ (23 - t)) ≡ bit_and p (2 ^ 32 - 2 ^ 23) + kept t A * 2 ^ (23 - t)
fraction-is t A p ht l e = rw e (fraction-at t A ht l)

-- the bits below the leading one, and the same turned
module _ (A : ℕ) (p : 0 < A) where
  low_bits : bit_and A (2 ^ log2 A - 1) ≡ rest A
  low_bits = and_mask A (log2 A) ∙ ap (λ (x : ℕ). x % 2 ^ log2 A) (parts A p ∙ omega arith) ∙ digits_mod 1 (rest_lt A)

  turned-bits : A < 2 ^ 32 → bit_and (2 ^ 32 - 1 - A) (2 ^ log2 A - 1) ≡ 2 ^ log2 A - rest A - 1
  turned-bits l =
      and_mask (2 ^ 32 - 1 - A) (log2 A) ∙ ap (λ (x : ℕ). x % 2 ^ log2 A) split
      ∙ digits_mod (2 ^ (32 - log2 A) - 2) (omega (arith, rest_lt A))
    where
      k_lt : log2 A < 32
      k_lt = log2-below 32 A p l

      twice : 2 ≤ 2 ^ (32 - log2 A)
      twice = pow_mono {i = 1} {j = 32 - log2 A} (omega (arith, k_lt))

      split : 2 ^ 32 - 1 - A ≡ (2 ^ (32 - log2 A) - 2) * 2 ^ log2 A + (2 ^ log2 A - rest A - 1)
      split = omega (arith, parts A p, rest_lt A, up_to 32 (log2 A) (omega (arith, k_lt)), ap (λ (z : ℕ). z * 2 ^ log2 A) (sub-add_cancel twice))

-- the leading power of a number, less 1
pub below_at : (A below : ℕ) → 0 < A → A ≤ 2 ^ 15 → below < 2 ^ 32 → (below + 1) % 2 ^ 32 ≡ field_power 0 A → below ≡ 2 ^ log2 A - 1
below_at zero below p l h e = absurd (omega arith)
below_at (suc n) below p l h e = omega (arith, e ∙ lead-at (suc n) l, pow_pos (log2 (suc n)), log2-le (suc n) (omega arith))

-- what is left of a number, where `below` is that
pub left-low : (A below : ℕ) → (0 < A → below ≡ 2 ^ log2 A - 1) → bit_and A below ≡ left_over true A
unfolding left_over
left-low zero below e = and_zero_l below ∙ sym rest-zero
left-low (suc A) below e = ap (bit_and (suc A)) (e (omega arith)) ∙ low_bits (suc A) (omega arith)

pub left-high : (A below : ℕ) → 0 < A → A < 2 ^ 32 → below ≡ 2 ^ log2 A - 1 → bit_and (2 ^ 32 - 1 - A) below ≡ left_over false A
unfolding left_over
left-high A below p l e = ap (bit_and (2 ^ 32 - 1 - A)) e ∙ turned-bits A p l

pub left-none : (low : Bool) (A : ℕ) → A ≡ 0 → left_over low A ≡ 0
unfolding left_over log2
left-none true A e = ap rest e ∙ rest-zero
left-none false A e = rw e

pub left_lt : (low : Bool) (A : ℕ) → left_over low A < 2 ^ log2 A
unfolding left_over
left_lt true A = rest_lt A
left_lt false A = omega (arith, pow_pos (log2 A))

log-zero : log2 0 ≡ 0
unfolding log2
log-zero = refl

left-log : (low : Bool) (A : ℕ) → log2 (left_over low A) ≤ log2 A - 1
left-log low A = go (left_over low A) (left_lt low A)
  where
    go : (n : ℕ) → n < 2 ^ log2 A → log2 n ≤ log2 A - 1
    go zero l = omega (arith, log-zero)
    go (suc n) l = omega (arith, log2-below (log2 A) (suc n) (omega arith) l)

module _ (t A B : ℕ) where
  pub low-zero : A * B ≡ 0 → is_low t A B ≡ true
  unfolding is_low
  low-zero e = rw (eq-eqb (A * B) 0 e) refl

  pub low-some : 0 < A * B → is_low t A B ≡ total_below t A B
  unfolding is_low
  low-some p = rw (ne_eqb (A * B) 0 (λ e. omega arith)) refl

pub low-both : (t A B : ℕ) → 0 < A → 0 < B → is_low t A B ≡ total_below t A B
low-both t A B ha hb = low-some t A B (mul-pos ha hb)

pub low-none : (t A B : ℕ) → is_low t A B ≡ false → (0 < A) × (0 < B)
low-none t zero B e = absurd (false≢true (sym e ∙ low-zero t 0 B (omega arith)))
low-none t (suc A) zero e = absurd (false≢true (sym e ∙ low-zero t (suc A) 0 (omega arith)))
low-none t (suc A) (suc B) e = (omega arith, omega arith)

-- the product as the sum of two, also where a number is 0, of which nothing is left in either case
pub by-stages : (t A B : ℕ) (low : Bool) → (0 < A → 0 < B → low ≡ total_below t A B)
    → product (twice_truncated t) A B ≡ product (truncated t) A B + product (truncated 2) (left_over low A) (left_over low B)
by-stages t zero B low is =
    sym (zero_left (twice_truncated t) 0 B refl)
    ∙ omega (arith, zero_left (truncated t) 0 B refl, zero_left (truncated 2) (left_over low 0) (left_over low B) (left-none low 0 refl))
by-stages t (suc A) zero low is =
    sym (zero_right (twice_truncated t) (suc A) 0 refl)
    ∙ omega (arith, zero_right (truncated t) (suc A) 0 refl, zero_right (truncated 2) (left_over low (suc A)) (left_over low 0) (left-none low 0 refl))
by-stages t (suc A) (suc B) low is = rw (is (omega arith) (omega arith)) (twice-is t (suc A) (suc B) (omega arith) (omega arith))

-- what is left of numbers of at most 2^15 has few bits
log-le : (A : ℕ) → A ≤ 2 ^ 15 → log2 A ≤ 15
log-le A h = log2-le-bits 15 A (omega arith)

pub left-small : (low : Bool) (A : ℕ) → A ≤ 2 ^ 15 → left_over low A < 2 ^ 15
left-small low A h = omega (arith, left_lt low A, pow_mono (log-le A h))

full : (A : ℕ) → A ≤ 2 ^ 15 → 15 ≤ log2 A → A ≡ 2 ^ 15
full zero h g = absurd (omega (arith, log2-le-bits 0 0 (omega arith)))
full (suc n) h g = le_antisymm h (omega (arith, pow_mono g, log2-le (suc n) (omega arith)))

module _ (t A B : ℕ) (low : Bool) (is : 0 < A → 0 < B → low ≡ total_below t A B) (some : 0 < t) (ha : A ≤ 2 ^ 15) (hb : B ≤ 2 ^ 15) where
  abbrev x : ℕ
  x = left_over low A

  abbrev y : ℕ
  y = left_over low B

  -- of two numbers of 2^15 nothing is left
  none : (A : ℕ) → A ≡ 2 ^ 15 → left_over true A ≡ 0
  unfolding left_over
  none A e = rw e (power-rest 15)

  ends_low : A ≡ 2 ^ 15 → B ≡ 2 ^ 15 → low ≡ true
  ends_low ea eb = is (omega (arith, ea)) (omega (arith, eb)) ∙ (rw (ea, eb, power-kept 15 t) (lt-ltb 1 (2 ^ t) (pow_mono some)))

  pub left-logs : log2 x + log2 y ≤ 27
  left-logs =
      either_lt (log2 A) 15
      (λ l. omega (arith, left-log low A, left-log low B, log-le B hb))
      (λ l. either_lt (log2 B) 15
      (λ m. omega (arith, left-log low A, left-log low B, log-le A ha))
      (λ m. both-full (full A ha l) (full B hb m)))
    where
      both-full : A ≡ 2 ^ 15 → B ≡ 2 ^ 15 → log2 x + log2 y ≤ 27
      both-full ea eb = rw (ends_low ea eb, none A ea, none B eb, log-zero) (omega arith)

-- The second stage: m is its carried sum, of which the last two bits are cut.
pub record Raised (A B p : ℕ) : Type 0 where
  pub m : ℕ
  pub stands : Stands p (pos m)
  pub is : m / 2 ^ 2 ≡ product (truncated 2) A B

module _ (A B : ℕ) (ha : A < 2 ^ 15) (hb : B < 2 ^ 15) (few : log2 A + log2 B ≤ 27) where
  abbrev c : ℕ
  c = kept_code 23 2 A + kept_code 23 2 B

  abbrev m : ℕ
  m = 2 ^ (log2 A + log2 B) * carried (2 ^ 2) (total 2 A B)

  m-lt : m < 2 ^ 31
  m-lt =
      omega (
        arith,
        mul-le-mul_left (2 ^ (log2 A + log2 B)) (carried-lt (2 ^ 2) (total 2 A B) (omega arith) (total-lt 2 A B)),
        pow_mono few,
        pow_pos (log2 A + log2 B),
      )

  c-small : c < 48 * 2 ^ 23
  c-small = omega (arith, code-small 2 (omega arith) A (omega arith), code-small 2 (omega arith) B (omega arith))

  pub raised : (sum p : ℕ) → sum < 2 ^ 32
      → (0 < A → 0 < B → (sum + 127 * 2 ^ 23) % 2 ^ 32 ≡ (bit_and (pattern_of (pos A)) (2 ^ 32 - 2 ^ 21) + bit_and (pattern_of (pos B)) (2 ^ 32 - 2 ^ 21)) % 2 ^ 32)
      → p ≡ (sum + (2 * 2 ^ 23 + 2 ^ 21)) % 2 ^ 32
      → Raised A B (masked_by (pos A) (masked_by (pos B) p))
  unfolding formula
  raised sum p l es ep = go A refl B refl
    where
      some : 0 < A → 0 < B → Raised A B p
      some pa pb =
          record {
            m = m;
            stands = rw at (stands false (c + 2 ^ 21 + 2 * 2 ^ 23) m (omega (arith, c-small)) (kept-raised 23 2 A B (omega arith) (omega arith) (omega arith)) m-lt);
            is = sym (truncation-at 2 A B) ∙ sym (product_is (truncated 2) A B pa pb);
          }
        where
          sum-at : sum ≡ log_pattern false c
          sum-at =
              log-sum false false (kept_code 23 2 A) (kept_code 23 2 B) sum l (omega (arith, c-small))
              (es pa pb ∙ ap₂ (λ (q r : ℕ). (q + r) % 2 ^ 32) (cut_at 2 (omega arith) (pos A) pa (omega arith)) (cut_at 2 (omega arith) (pos B) pb (omega arith)))

          at : p ≡ log_pattern false (c + 2 ^ 21 + 2 * 2 ^ 23)
          at = omega (arith, sum-at, c-small, ep)

      go : (a : ℕ) → a ≡ A → (b : ℕ) → b ≡ B → Raised A B (masked_by (pos a) (masked_by (pos b) p))
      go zero ea b eb = record { m = 0; stands = nothing; is = zero_left (truncated 2) A B (sym ea) }
      go (suc a) ea zero eb = record { m = 0; stands = nothing; is = zero_right (truncated 2) A B (sym eb) }
      go (suc a) ea (suc b) eb = some (omega (arith, ea)) (omega (arith, eb))
