-- Design 4 by patterns. Masked, a pattern is the code with t kept bits, above the sign; and the sum of two, with its carry, is a
-- logarithm of the product (`designs` `KeptCodes.kept-scaled`).
use Rattle.std.proofs.Common.{◌≡◌, ℕ, ◌+◌, ◌-◌, ◌*◌, ◌/◌, ◌%◌, ◌^◌, ◌<◌, ◌≤◌, max, Bool, true, false, cond, ltb, ℤ, ◌*ℤ◌, nat_abs, sym, ap, ◌∙◌, subst, ap₂, mul-le-mul_right, mul_comm, arith, pow_pos, pow_mono, le-ltb, lt-ltb}
use native.Mathlib.Nat.{add-mul-div_right, max-eq_right, min-eq_left}
use lib.Bits.{bit_and, and_high, and_zero_l}
use lib.Ieee.{unlike}
use lib.Pow.{shr_mod}
use Rattle.designs.specs.Codes.{code, kept_code}
use Rattle.designs.specs.Designs.{formula, kept, log2, rest, truncated}
use Rattle.designs.specs.Signs.{negative, signed_product}
use Rattle.designs.proofs.Cases.{by-lt, either_lt}
use Rattle.designs.proofs.Codes.{code_lt, fraction, log2-le-bits}
use Rattle.designs.proofs.KeptCodes.{kept-scaled}
use Rattle.designs.proofs.Parts.{up_to}
use Rattle.designs.proofs.Truncated.{kept-lt, shift-down}
use Rattle.patterns.specs.Patterns.{carried_of, clamped, Less, log_pattern, pattern_of, raised_by, raised_of}
use Rattle.patterns.proofs.Moved.{raised_at, raised-none}
use Rattle.patterns.proofs.Pair.{less, log-sum, pattern-at}

-- a setting that a row takes is no other when it is clamped
pub clamped-is : (t : ℕ) → 1 ≤ t → t ≤ 15 → clamped t ≡ t
clamped-is t h g = ap (max 1) (min-eq_left g) ∙ max-eq_right h

-- the fraction of a code, cut at the last kept bit
cut-fraction : (t A : ℕ) → t ≤ 23 → A ≤ 2 ^ 15 → fraction 23 A / 2 ^ (23 - t) ≡ kept t A
unfolding kept
cut-fraction t A ht l =
    shift-down 23 t (log2 A) (rest A) ht (log2-le-bits 23 A (omega arith)) ∙ ap (λ (y : ℕ). y / 2 ^ log2 A) (mul_comm (2 ^ t) (rest A))

module _ (t : ℕ) (ht : t ≤ 15) where
  abbrev P : ℕ
  P = 2 ^ (23 - t)

  scale : 2 ^ 23 ≡ P * 2 ^ t
  scale = up_to 23 t (omega arith)

  -- a pattern with q more in its exponent field
  masked : (s : Bool) (q A : ℕ) → q ≤ 16 → A ≤ 2 ^ 15 → bit_and (log_pattern s (code 23 A + q * 2 ^ 23)) (2 ^ 32 - P) ≡ log_pattern s (kept_code 23 t A + q * 2 ^ 23)
  unfolding code kept_code
  masked s q A hq l =
      ap (λ (j : ℕ). bit_and p (2 ^ j - P)) places ∙ and_high p (9 + t) (23 - t)
      ∙ ap (λ (y : ℕ). y * P) (shr_mod (9 + t) (23 - t) small ∙ quotient) ∙ back s
    where
      f : ℕ
      f = fraction 23 A

      D : Bool → ℕ
      D s = cond s 256 0 + 127 + log2 A + q

      p : ℕ
      p = log_pattern s (2 ^ 23 * log2 A + f + q * 2 ^ 23)

      places : 32 ≡ 9 + t + (23 - t)
      places = omega arith

      bound : (s : Bool) → log_pattern s (code 23 A + q * 2 ^ 23) < 2 ^ 32
      bound true = omega (arith, code_lt 23 A (omega arith))
      bound false = omega (arith, code_lt 23 A (omega arith))

      small : p < 2 ^ (9 + t + (23 - t))
      small = subst (λ (j : ℕ). p < 2 ^ j) places (bound s)

      digits : (s : Bool) → log_pattern s (2 ^ 23 * log2 A + f + q * 2 ^ 23) ≡ f + D s * 2 ^ t * P
      digits true = omega (arith, scale, ap (λ (x : ℕ). (log2 A + q) * x) scale)
      digits false = omega (arith, scale, ap (λ (x : ℕ). (log2 A + q) * x) scale)

      quotient : p / P ≡ kept t A + D s * 2 ^ t
      quotient =
          ap (λ (y : ℕ). y / P) (digits s) ∙ add-mul-div_right f (D s * 2 ^ t) (pow_pos (23 - t))
          ∙ ap (λ (y : ℕ). y + D s * 2 ^ t) (cut-fraction t A (omega arith) l)

      back : (s : Bool) → (kept t A + D s * 2 ^ t) * P ≡ log_pattern s (2 ^ 23 * log2 A + kept t A * P + q * 2 ^ 23)
      back true = omega (arith, scale, ap (λ (x : ℕ). (log2 A + q) * x) scale)
      back false = omega (arith, scale, ap (λ (x : ℕ). (log2 A + q) * x) scale)

  pub cut_at : (z : ℤ) → 0 < nat_abs z → nat_abs z ≤ 2 ^ 15 → bit_and (pattern_of z) (2 ^ 32 - P) ≡ log_pattern (negative z) (kept_code 23 t (nat_abs z))
  cut_at z p h =
      ap (λ (q : ℕ). bit_and q (2 ^ 32 - P)) (pattern-at z p ∙ none (code 23 (nat_abs z))) ∙ masked (negative z) 0 (nat_abs z) (omega arith) h ∙ sym (none (kept_code 23 t (nat_abs z)))
    where
      none : (c : ℕ) → log_pattern (negative z) c ≡ log_pattern (negative z) (c + 0 * 2 ^ 23)
      none c = ap (log_pattern (negative z)) (omega arith)

  pub cut-raised : (z : ℤ) → nat_abs z ≤ 2 ^ 15 → bit_and (raised_of z) (2 ^ 32 - P) ≡ raised_by (kept_code 23 t) z
  cut-raised z l =
      either_lt 0 (nat_abs z)
      (λ p. ap (λ (q : ℕ). bit_and q (2 ^ 32 - P)) (raised_at (code 23) z p) ∙ masked (negative z) 16 (nat_abs z) (omega arith) l ∙ sym (raised_at (kept_code 23 t) z p))
      (λ p. rw (raised-none (code 23) z (omega arith), raised-none (kept_code 23 t) z (omega arith)) (and_zero_l (2 ^ 32 - P)))

  pub code-small : (A : ℕ) → A ≤ 2 ^ 15 → kept_code 23 t A < 24 * 2 ^ 23
  unfolding kept_code
  code-small A l =
      let k : log2 A ≤ 23 = log2-le-bits 23 A (omega arith) in
      omega (arith, scale, mul-le-mul_right P (kept-lt t A), pow_pos (23 - t))

  -- the carry, tested on the pattern below its sign
  carried : (s : Bool) (c : ℕ) → c < 48 * 2 ^ 23
      → carried_of t (log_pattern s c) ≡ log_pattern s (c + cond (ltb c (t * 2 ^ 23)) 0 P)
  carried s c l =
      let P-le = pow_mono {i = 23 - t} {j = 23} (omega arith) in
      rw (lower s)
      (either_lt c (t * 2 ^ 23)
      (λ g. rw (lt-ltb (127 * 2 ^ 23 + c) (127 * 2 ^ 23 + t * 2 ^ 23) (omega arith), lt-ltb c (t * 2 ^ 23) g) (added s 0 (omega arith)))
      (λ g. rw (le-ltb (127 * 2 ^ 23 + c) (127 * 2 ^ 23 + t * 2 ^ 23) (omega arith), le-ltb c (t * 2 ^ 23) g) (added s P (omega arith))))
    where
      lower : (s : Bool) → log_pattern s c % 2 ^ 31 ≡ 127 * 2 ^ 23 + c
      lower true = omega arith
      lower false = omega arith

      added : (s : Bool) (y : ℕ) → c + y < 2 ^ 30 → (log_pattern s c + y) % 2 ^ 32 ≡ log_pattern s (c + y)
      added true y h = omega arith
      added false y h = omega arith

  module _ (w x : ℤ) (hw : nat_abs w ≤ 2 ^ 15) (hx : nat_abs x ≤ 2 ^ 15) where
    abbrev A : ℕ
    A = nat_abs w

    abbrev B : ℕ
    B = nat_abs x

    abbrev c : ℕ
    c = kept_code 23 t A + kept_code 23 t B

    -- both codes are below 24 × 2^23
    sum-small : c < 48 * 2 ^ 23
    sum-small = omega (arith, code-small A hw, code-small B hx)

    pub truncated-less : (some : 0 < t) (sum r : ℕ) → sum < 2 ^ 32
        → (0 < A → 0 < B → (sum + 127 * 2 ^ 23) % 2 ^ 32 ≡ (bit_and (pattern_of w) (2 ^ 32 - P) + bit_and (pattern_of x) (2 ^ 32 - P)) % 2 ^ 32)
        → r ≡ carried_of t sum
        → Less (w *ℤ x) r (signed_product (truncated t) w x)
    unfolding formula
    truncated-less some sum r l es er =
        less (truncated t) some w x hw hx r
        (λ pw px.
        record {
          c = c + cond (ltb c (t * 2 ^ 23)) 0 P;
          is =
              er ∙ ap (carried_of t) (both pw px)
              ∙ carried (unlike (negative w) (negative x)) c sum-small;
          small =
              by-lt (λ (y : ℕ). c + y < 2 ^ 30) c (t * 2 ^ 23) (λ g. omega (arith, sum-small))
              (λ g. omega (arith, sum-small, pow_mono {i = 23 - t} {j = 23} (omega arith)));
          log = kept-scaled 23 t A B (omega arith) (omega (arith, hw)) (omega (arith, hx));
        })
      where
        both : 0 < A → 0 < B → sum ≡ log_pattern (unlike (negative w) (negative x)) c
        both pw px =
            log-sum (negative w) (negative x) _ _ sum l (omega (arith, sum-small))
            (es pw px ∙ ap₂ (λ (p q : ℕ). (p + q) % 2 ^ 32) (cut_at w pw hw) (cut_at x px hx))
