-- The fraction of a pattern is 0 exactly where the number is a power of two. There the exponent goes one up, and else half of its last place
-- makes the power the nearest one.
use Rattle.std.proofs.Common.{◌≡◌, ℕ, zero, suc, ◌+◌, ◌-◌, ◌*◌, ◌/◌, ◌%◌, ◌^◌, ◌<◌, ◌≤◌, Bool, true, false, cond, eqb, ℤ, nat_abs, sym, refl, ap, ◌∙◌, ap₂, mul-pos, arith, pow_pos, eq-eqb, ne_eqb}
use lib.Bits.{and_mask, bit_and}
use Rattle.designs.specs.Codes.{code}
use Rattle.designs.specs.Designs.{log2, near_power, rest}
use Rattle.designs.specs.Signs.{negative, with_sign}
use Rattle.designs.proofs.Codes.{code_lt, fraction, fraction-lt, log2-le-bits}
use Rattle.designs.proofs.SignedOffsets.{near}
use Rattle.patterns.specs.Patterns.{log_pattern, raised_of}
use Rattle.patterns.proofs.ExponentField.{field, near-at, power-raised, raised-power}
use Rattle.patterns.proofs.Moved.{raised_at}
use Rattle.many_stages.specs.Powers.{next_power}
use Rattle.many_stages.proofs.NextPowers.{next-is, taken-near, taken_twice}
use Rattle.many_stages.proofs.powers.beyond.Goals as goal

near-some : (A : ℕ) → 0 < A → near A ≡ 2 ^ near_power A
near-some zero h = absurd (omega arith)
near-some (suc A) h = refl

module _ (z : ℤ) (some : 0 < nat_abs z) (l : nat_abs z ≤ 2 ^ 12) where
  abbrev A : ℕ
  A = nat_abs z

  low : log2 A ≤ 23
  low = log2-le-bits 23 A (omega (arith, l))

  fraction-of : bit_and (raised_of z) (2 ^ 23 - 1) ≡ fraction 23 A
  unfolding code
  fraction-of = and_mask (raised_of z) 23 ∙ ap (λ (p : ℕ). p % 2 ^ 23) (raised_at (code 23) z some) ∙ go (negative z)
    where
      go : (s : Bool) → log_pattern s (code 23 A + 16 * 2 ^ 23) % 2 ^ 23 ≡ fraction 23 A
      go true = omega (arith, fraction-lt 23 A low)
      go false = omega (arith, fraction-lt 23 A low)

  abbrev taken : ℕ → ℕ
  taken more = bit_and (((raised_of z + 2 ^ 22) % 2 ^ 32 + more) % 2 ^ 32) (2 ^ 32 - 2 ^ 23)

  -- a power of two
  whole : rest A ≡ 0 → code 23 A ≡ 2 ^ 23 * log2 A
  unfolding code
  whole e = ap (λ (r : ℕ). 2 ^ 23 * log2 A + r * 2 ^ (23 - log2 A)) e ∙ omega arith

  twice : rest A ≡ 0 → taken (2 ^ 22) ≡ raised_of (next_power z)
  twice e =
      ap (λ (p : ℕ). bit_and (((p + 2 ^ 22) % 2 ^ 32 + 2 ^ 22) % 2 ^ 32) (2 ^ 32 - 2 ^ 23)) (raised_at (code 23) z some)
      ∙ ap (λ (p : ℕ). bit_and p (2 ^ 32 - 2 ^ 23)) (room (negative z))
      ∙ field (negative z) (code 23 A + 16 * 2 ^ 23) (2 ^ 23) (omega (arith, small))
      ∙ ap (log_pattern (negative z)) up ∙ sym (raised-power (negative z) (log2 A + 1))
      ∙ ap raised_of (sym (next-is z ∙ ap (with_sign (negative z)) (taken_twice A some e)))
    where
      small : code 23 A < 2 ^ 23 * 24
      small = code_lt 23 A (omega (arith, l))

      room : (s : Bool) → ((log_pattern s (code 23 A + 16 * 2 ^ 23) + 2 ^ 22) % 2 ^ 32 + 2 ^ 22) % 2 ^ 32
          ≡ log_pattern s (code 23 A + 16 * 2 ^ 23) + 2 ^ 23
      room true = omega (arith, small)
      room false = omega (arith, small)

      up : (code 23 A + 16 * 2 ^ 23 + 2 ^ 23) / 2 ^ 23 * 2 ^ 23 ≡ (log2 A + 1) * 2 ^ 23 + 16 * 2 ^ 23
      up = omega (arith, whole e)

  -- any other number
  nearest : 0 < rest A → taken 0 ≡ raised_of (next_power z)
  nearest r =
      ap (λ (p : ℕ). bit_and p (2 ^ 32 - 2 ^ 23)) (again (raised_of z + 2 ^ 22)) ∙ power-raised (2 ^ 22) (omega arith) z (omega (arith, l))
      ∙ ap (λ (P : ℕ). raised_of (with_sign (negative z) P)) (near-at A (omega (arith, l)) ∙ near-some A some ∙ sym (taken-near A some r))
      ∙ ap raised_of (sym (next-is z))
    where
      again : (n : ℕ) → (n % 2 ^ 32 + 0) % 2 ^ 32 ≡ n % 2 ^ 32
      again n = omega arith

  either : taken (cond (eqb (bit_and (raised_of z) (2 ^ 23 - 1)) 0) (2 ^ 22) 0) ≡ raised_of (next_power z)
  either = rw fraction-of (go (rest A) refl)
    where
      go : (r : ℕ) → r ≡ rest A → taken (cond (eqb (fraction 23 A) 0) (2 ^ 22) 0) ≡ raised_of (next_power z)
      go zero e = rw (eq-eqb (fraction 23 A) 0 (rw (sym e) (omega arith))) (twice (sym e))
      go (suc r) e =
          let there : 0 < rest A = omega (arith, e) in
          rw (ne_eqb (fraction 23 A) 0 (λ n. omega (arith, n, mul-pos there (pow_pos (23 - log2 A))))) (nearest there)

pub returns : goal.returns
returns c z some l e =
    ap (λ (p : ℕ). bit_and p (2 ^ 32 - 2 ^ 23))
    (c.wrapping_add_u32.ensures.value
    ∙ ap₂ (λ (p q : ℕ). (p + q) % 2 ^ 32) (c.wrapping_add_u32-half.ensures.value ∙ ap (λ (p : ℕ). (p + 2 ^ 22) % 2 ^ 32) e)
    (c.more_of_power.ensures ∙ ap (λ (p : ℕ). cond (eqb (bit_and p (2 ^ 23 - 1)) 0) (2 ^ 22) 0) e))
    ∙ either z some l
