-- The sign and the exponent field of a pattern alone are the pattern of a power of two, with the sign. It is the leading power of the
-- number; half of the field's last place, added before, makes it the nearest power, since it carries from one half up.
use Rattle.std.proofs.Common.{◌≡◌, ℕ, zero, suc, ◌+◌, ◌-◌, ◌*◌, ◌/◌, ◌%◌, ◌^◌, ◌<◌, ◌≤◌, Bool, true, false, ℤ, pos, negsuc, ◌-ℤ◌, ◌*ℤ◌, neg_ℤ, nat_abs, sym, refl, ap, ◌∙◌, ap₂, add-zero, mul-le-mul_left, arith, pow_pos, pow_mono, w32, SFits}
use lib.Bits.{bit_and, and_high}
use Rattle.designs.specs.Codes.{code, scaled_product}
use Rattle.designs.specs.Designs.{log2, nearest, near_power, rest}
use Rattle.designs.specs.Signs.{negative, residue, with_sign, rest_ℤ}
use Rattle.designs.proofs.Cases.{by_le}
use Rattle.designs.proofs.Codes.{code_lt, fraction, fraction-lt, log2-le-bits, scaled_at}
use Rattle.designs.proofs.Distance.{dist, Within, within-dist}
use Rattle.designs.proofs.Parts.{up_to}
use Rattle.designs.proofs.SignedGaps.{own_sign}
use Rattle.designs.proofs.SignedLeft.{lead, rest-is}
use Rattle.designs.proofs.SignedOffsets.{near, near_le, nearest-left}
use Rattle.designs.proofs.Sizes.{sign-dist, size-add, size-neg, size-sign}
use Rattle.designs.proofs.Widths.{power-log2, power-rest}
use Rattle.patterns.specs.Patterns.{field_power, less_power, log_pattern, pattern_of, power_of, raised_of, Stands}
use Rattle.pairs.proofs.Integers.{sized}
use Rattle.patterns.proofs.Moved.{raised_at, raised-none}
use Rattle.patterns.proofs.Values.{nothing, stands}

pub field : (s : Bool) (c h : ℕ) → c + h < 2 ^ 30 → bit_and (log_pattern s c + h) (2 ^ 32 - 2 ^ 23) ≡ log_pattern s ((c + h) / 2 ^ 23 * 2 ^ 23)
field s c h l = and_high (log_pattern s c + h) 9 23 ∙ go s
  where
    go : (s : Bool) → (log_pattern s c + h) / 2 ^ 23 % 2 ^ 9 * 2 ^ 23 ≡ log_pattern s ((c + h) / 2 ^ 23 * 2 ^ 23)
    go true = omega arith
    go false = omega arith

power-stands : (s : Bool) (K : ℕ) → K ≤ 30 → Stands (log_pattern s (K * 2 ^ 23)) (with_sign s (2 ^ K))
power-stands s K l =
    stands s (K * 2 ^ 23) (2 ^ K) (omega arith) (ap (scaled_product 23) (omega arith) ∙ scaled_at 23 K 0 (omega arith) ∙ omega arith)
    (omega (arith, pow_mono l))

module _ (h : ℕ) (l : h ≤ 2 ^ 22) where
  code-small : (A : ℕ) → A ≤ 2 ^ 15 → code 23 A + h < 2 ^ 23 * 25
  code-small A g = omega (arith, code_lt 23 A (omega arith))

  alone : (s : Bool) (A : ℕ) → A ≤ 2 ^ 15
      → Stands (bit_and (log_pattern s (code 23 A) + h) (2 ^ 32 - 2 ^ 23)) (with_sign s (2 ^ ((code 23 A + h) / 2 ^ 23)))
  alone s A g =
      rw (field s (code 23 A) h (omega (arith, code-small A g))) (power-stands s ((code 23 A + h) / 2 ^ 23) (omega (arith, code-small A g)))

  none : bit_and (0 + h) (2 ^ 32 - 2 ^ 23) ≡ 0
  none = and_high (0 + h) 9 23 ∙ omega arith

  power_at : (x : ℤ) → nat_abs x ≤ 2 ^ 15 → Stands (bit_and (pattern_of x + h) (2 ^ 32 - 2 ^ 23)) (with_sign (negative x) (field_power h (nat_abs x)))
  unfolding pattern_of
  power_at (pos zero) g = rw none nothing
  power_at (pos (suc n)) g = alone false (suc n) g
  power_at (negsuc n) g = alone true (suc n) g

  pub power-of : (x : ℤ) (p : ℕ) → p ≡ pattern_of x → nat_abs x ≤ 2 ^ 15
      → Stands (bit_and (p + h) (2 ^ 32 - 2 ^ 23)) (with_sign (negative x) (field_power h (nat_abs x)))
  power-of x p e g = rw e (power_at x g)

  pub pattern-room : (x : ℤ) → nat_abs x ≤ 2 ^ 15 → pattern_of x + h < 2 ^ 32
  unfolding pattern_of
  pattern-room (pos zero) g = omega arith
  pattern-room (pos (suc n)) g = omega (arith, code-small (suc n) g)
  pattern-room (negsuc n) g = omega (arith, code-small (suc n) g)

  power_size : (A : ℕ) → A ≤ 2 ^ 15 → field_power h A ≤ 2 ^ 24
  power_size zero g = omega arith
  power_size (suc n) g = pow_mono {i = (code 23 (suc n) + h) / 2 ^ 23} {j = 24} (omega (arith, code-small (suc n) g))

  pub less-fits : (x : ℤ) → nat_abs x ≤ 2 ^ 15 → SFits w32 (less_power h x)
  less-fits x g =
      let power = with_sign (negative x) (field_power h (nat_abs x)) in
      sized (less_power h x)
      (omega (arith, size-add x (neg_ℤ power), size-neg power, size-sign (negative x) (field_power h (nat_abs x)), power_size (nat_abs x) g))

-- the code's whole part, and that rounded at half
module _ (A : ℕ) (l : A ≤ 2 ^ 15) where
  abbrev k : ℕ
  k = log2 A

  abbrev f : ℕ
  f = fraction 23 A

  k-le : k ≤ 23
  k-le = log2-le-bits 23 A (omega arith)

  f_lt : f < 2 ^ 23
  f_lt = fraction-lt 23 A k-le

  whole_part : (code 23 A + 0) / 2 ^ 23 ≡ log2 A
  unfolding code
  whole_part = omega (arith, f_lt)

  pub field_at : bit_and (log_pattern false (code 23 A)) (2 ^ 32 - 2 ^ 23) ≡ (127 + log2 A) * 2 ^ 23
  field_at = (rw add-zero at (field false (code 23 A) 0 (omega (arith, code_lt 23 A (omega arith))))) ∙ omega (arith, ap (λ (k : ℕ). k * 2 ^ 23) whole_part)

  rounded : (code 23 A + 2 ^ 22) / 2 ^ 23 ≡ near_power A
  unfolding code near_power
  rounded =
      by_le (λ (K : ℕ). (2 ^ 23 * k + f + 2 ^ 22) / 2 ^ 23 ≡ K) (2 ^ k) (2 * rest A)
      (λ g. up k f f_lt (omega (arith, up_to 23 k k-le, mul-le-mul_left (2 ^ (23 - k)) g)))
      (λ g. down k f (omega (arith, up_to 23 k k-le, mul-le-mul_left (2 ^ (23 - k)) g, pow_pos (23 - k))))
    where
      up : (k f : ℕ) → f < 2 ^ 23 → 2 ^ 22 ≤ f → (2 ^ 23 * k + f + 2 ^ 22) / 2 ^ 23 ≡ k + 1
      up k f a b = omega arith

      down : (k f : ℕ) → f < 2 ^ 22 → (2 ^ 23 * k + f + 2 ^ 22) / 2 ^ 23 ≡ k
      down k f a = omega arith

pub lead-at : (A : ℕ) → A ≤ 2 ^ 15 → field_power 0 A ≡ lead A
lead-at zero l = refl
lead-at (suc n) l = ap (λ (K : ℕ). 2 ^ K) (whole_part (suc n) l)

pub near-at : (A : ℕ) → A ≤ 2 ^ 15 → field_power (2 ^ 22) A ≡ near A
near-at zero l = refl
near-at (suc n) l = ap (λ (K : ℕ). 2 ^ K) (rounded (suc n) l)

-- such a power of a raised pattern
pub power-code : (K : ℕ) → code 23 (2 ^ K) ≡ K * 2 ^ 23
unfolding code
power-code K = omega (arith, power-log2 K, ap (λ (r : ℕ). r * 2 ^ (23 - log2 (2 ^ K))) (power-rest K))

pub raised-power : (s : Bool) (K : ℕ) → raised_of (with_sign s (2 ^ K)) ≡ log_pattern s (K * 2 ^ 23 + 16 * 2 ^ 23)
raised-power s K =
    raised_at (code 23) (with_sign s (2 ^ K)) (omega (arith, size-sign s (2 ^ K), pow_pos K))
    ∙ ap₂ log_pattern (sign s (2 ^ K) (pow_pos K)) (ap (λ (c : ℕ). c + 16 * 2 ^ 23) (ap (code 23) (size-sign s (2 ^ K)) ∙ power-code K))
  where
    sign : (s : Bool) (n : ℕ) → 0 < n → negative (with_sign s n) ≡ s
    sign false n h = refl
    sign true zero h = absurd (omega arith)
    sign true (suc n) h = refl

module _ (h : ℕ) (l : h ≤ 2 ^ 22) where
  power-some : (s : Bool) (A : ℕ) → A ≤ 2 ^ 15
      → bit_and ((log_pattern s (code 23 A + 16 * 2 ^ 23) + h) % 2 ^ 32) (2 ^ 32 - 2 ^ 23) ≡ log_pattern s ((code 23 A + h) / 2 ^ 23 * 2 ^ 23 + 16 * 2 ^ 23)
  power-some s A g =
      ap (λ (p : ℕ). bit_and p (2 ^ 32 - 2 ^ 23)) (room s) ∙ field s (code 23 A + 16 * 2 ^ 23) h (omega (arith, code-small h l A g)) ∙ ap (log_pattern s) (omega arith)
    where
      room : (s : Bool) → (log_pattern s (code 23 A + 16 * 2 ^ 23) + h) % 2 ^ 32 ≡ log_pattern s (code 23 A + 16 * 2 ^ 23) + h
      room true = omega (arith, code-small h l A g)
      room false = omega (arith, code-small h l A g)

  power-there : (z : ℤ) → 0 < nat_abs z → nat_abs z ≤ 2 ^ 15
      → bit_and ((raised_of z + h) % 2 ^ 32) (2 ^ 32 - 2 ^ 23) ≡ raised_of (with_sign (negative z) (2 ^ ((code 23 (nat_abs z) + h) / 2 ^ 23)))
  power-there z some g =
      ap (λ (p : ℕ). bit_and ((p + h) % 2 ^ 32) (2 ^ 32 - 2 ^ 23)) (raised_at (code 23) z some) ∙ power-some (negative z) (nat_abs z) g
      ∙ sym (raised-power (negative z) ((code 23 (nat_abs z) + h) / 2 ^ 23))

  pub power-raised : (z : ℤ) → nat_abs z ≤ 2 ^ 15 → bit_and ((raised_of z + h) % 2 ^ 32) (2 ^ 32 - 2 ^ 23) ≡ raised_of (power_of h z)
  power-raised (pos zero) g =
      let room : (0 + h) % 2 ^ 32 ≡ 0 + h = omega arith in
      ap (λ (p : ℕ). bit_and ((p + h) % 2 ^ 32) (2 ^ 32 - 2 ^ 23)) (raised-none (code 23) (pos 0) refl) ∙ ap (λ (p : ℕ). bit_and p (2 ^ 32 - 2 ^ 23)) room
      ∙ none h l ∙ sym (raised-none (code 23) (pos 0) refl)
  power-raised (pos (suc n)) g = power-there (pos (suc n)) (omega arith) g
  power-raised (negsuc n) g = power-there (negsuc n) (omega arith) g

-- what it leaves has no more than 15 bits
pub offset-size : (x : ℤ) → nat_abs x ≤ 2 ^ 15 → nat_abs (less_power (2 ^ 22) x) < 2 ^ 15
offset-size x l =
    omega (arith, size, within-dist 1 32767 (nat_abs x) (near (nat_abs x)) (between (nat_abs x) l))
  where
    size : nat_abs (less_power (2 ^ 22) x) ≡ dist (nat_abs x) (near (nat_abs x))
    size =
        ap nat_abs (ap₂ (λ (y : ℤ) (P : ℕ). y -ℤ with_sign (negative x) P) (sym (own_sign x)) (near-at (nat_abs x) l))
        ∙ sign-dist (negative x) (nat_abs x) (near (nat_abs x))

    between : (A : ℕ) → A ≤ 2 ^ 15 → Within 1 32767 A (near A)
    between zero l = record { above = omega arith; below = omega arith }
    between (suc A) l =
        record {
          above = omega (arith, pow_pos (near_power (suc A)));
          below = omega (arith, near_le 15 (suc A) l);
        }

-- what a stage of design 3 leaves, and the residue of design 2
pub rest_of : (x : ℤ) → nat_abs x ≤ 2 ^ 15 → less_power 0 x ≡ rest_ℤ x
rest_of x l = rw (lead-at (nat_abs x) l) (rest-is x)

pub nearest-is : (w x : ℤ) → nat_abs w ≤ 2 ^ 15 → nat_abs x ≤ 2 ^ 15 → residue nearest w x ≡ less_power (2 ^ 22) w *ℤ less_power (2 ^ 22) x
nearest-is w x g l = rw (near-at (nat_abs w) g, near-at (nat_abs x) l) (nearest-left w x)
