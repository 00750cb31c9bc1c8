-- The products of a weight's raised pattern and a number's code, by each design.
use Rattle.std.proofs.Common.{◌≡◌, ℕ, zero, suc, ◌+◌, ◌-◌, ◌*◌, ◌%◌, ◌^◌, ◌<◌, ◌≤◌, ℤ, pos, ◌+ℤ◌, ◌*ℤ◌, nat_abs, sym, refl, ◌∙◌, subst, ap₂, mul-le-mul_right, arith, pow_pos, w32, SFits}
use lib.Ieee.{unlike}
use Rattle.designs.specs.Codes.{code, kept_code}
use Rattle.designs.specs.Designs.{mitchell, nearest, truncated, unless_zero}
use Rattle.designs.specs.Signs.{negative, signed_product}
use Rattle.designs.proofs.Codes.{fraction-lt, log2-le-bits}
use Rattle.designs.proofs.Parts.{up_to}
use Rattle.designs.proofs.SignedOffsets.{in_parts, near_le}
use Rattle.designs.proofs.Sizes.{size-sign}
use Rattle.designs.proofs.Truncated.{kept-lt}
use Rattle.patterns.specs.Patterns.{carried_of, clamped, field_power, less_power, log_pattern, masked_by, power_of, raised_of, Stands}
use Rattle.patterns.proofs.ExponentField.{near-at, offset-size}
use Rattle.patterns.proofs.KeptPatterns.{cut_at, truncated-less}
use Rattle.patterns.proofs.Mitchell.{mitchell-less}
use Rattle.patterns.proofs.Pair.{log-sum, pattern-at, product-fits}
use Rattle.patterns.proofs.SecondStage.{Raised, raised}
use Rattle.strips.specs.Codes.{Logs, NearLogs, SecondLogs}
use Rattle.strips.proofs.FrameCodes.{masked, none_left, some, sum_is}

-- logarithms of 16 bits are below 16
own-small : (A : ℕ) → A ≤ 2 ^ 15 → code 23 A < 16 * 2 ^ 23
unfolding code
own-small A l =
    let k = log2-le-bits 15 A (omega arith) in
    omega (arith, k, fraction-lt 23 A (omega (arith, k)))

kept_small : (t A : ℕ) → t ≤ 15 → A ≤ 2 ^ 15 → kept_code 23 t A < 16 * 2 ^ 23
unfolding kept_code
kept_small t A ht l =
    omega (arith, log2-le-bits 15 A (omega arith), up_to 23 t (omega arith), mul-le-mul_right (2 ^ (23 - t)) (kept-lt t A), pow_pos (23 - t))

pub mitchell-stands : {u v : ℤ} {p q : ℕ} → Logs (code 23) u v p q → Stands (unless_zero p q ((p + q) % 2 ^ 32)) (signed_product mitchell u v)
mitchell-stands {u} {v} {p} {q} l =
    subst (λ (m : ℕ). Stands m (signed_product mitchell u v)) (sym (masked (code 23) own-small l ((p + q) % 2 ^ 32)))
    (mitchell-less u v ((p + q) % 2 ^ 32) l.first l.second (omega arith)
    (λ hu hv. sum_is (code 23) own-small l hu hv ∙ sym (ap₂ (λ (a b : ℕ). (a + b) % 2 ^ 32) (pattern-at u hu) (pattern-at v hv)))).stands

-- with t kept bits
module _ (kept-bits : ℕ) {u v : ℤ} {p q : ℕ} (l : Logs (kept_code 23 (clamped kept-bits)) u v p q) where
  abbrev t : ℕ
  t = clamped kept-bits

  small : (A : ℕ) → A ≤ 2 ^ 15 → kept_code 23 t A < 16 * 2 ^ 23
  small A h = kept_small t A (omega arith) h

  -- the sum is a pattern with the product's sign
  pub sum-at : 0 < nat_abs u → 0 < nat_abs v → (p + q) % 2 ^ 32 ≡ log_pattern (unlike (negative u) (negative v)) (kept_code 23 t (nat_abs u) + kept_code 23 t (nat_abs v))
  sum-at hu hv = log-sum (negative u) (negative v) _ _ ((p + q) % 2 ^ 32) (omega arith) (omega (arith, small (nat_abs u) l.first, small (nat_abs v) l.second)) (sum_is (kept_code 23 t) small l hu hv)

  pub truncated-stands : Stands (unless_zero p q (carried_of t ((p + q) % 2 ^ 32))) (signed_product (truncated t) u v)
  truncated-stands =
      subst (λ (m : ℕ). Stands m (signed_product (truncated t) u v)) (sym (masked (kept_code 23 t) small l (carried_of t ((p + q) % 2 ^ 32))))
      (truncated-less t (omega arith) u v l.first l.second (omega arith) ((p + q) % 2 ^ 32) _ (omega arith)
      (λ hu hv. sum_is (kept_code 23 t) small l hu hv
      ∙ sym (ap₂ (λ (a b : ℕ). (a + b) % 2 ^ 32) (cut_at t (omega arith) u hu l.first) (cut_at t (omega arith) v hv l.second)))
      refl).stands

-- design 2 in its two parts
module _ {w x : ℤ} {p a b : ℕ} (l : NearLogs w x p a b) where
  power_small : (z : ℤ) → nat_abs z ≤ 2 ^ 15 → nat_abs (power_of (2 ^ 22) z) ≤ 2 ^ 15
  power_small z h = rw (size-sign (negative z) (field_power (2 ^ 22) (nat_abs z)), near-at (nat_abs z) h) (near_le 15 (nat_abs z) h)

  pub power-logs : Logs (code 23) w (power_of (2 ^ 22) x) p a
  power-logs = record { first = l.first; second = power_small x l.second; pattern = l.pattern; code = l.power }

  pub offset-logs : {r : ℕ} → r ≡ raised_of (power_of (2 ^ 22) w) → Logs (code 23) (power_of (2 ^ 22) w) (less_power (2 ^ 22) x) r b
  offset-logs e = record { first = power_small w l.first; second = omega (arith, offset-size x l.second); pattern = e; code = l.offset }

  pub nearest-is : signed_product mitchell w (power_of (2 ^ 22) x) +ℤ signed_product mitchell (power_of (2 ^ 22) w) (less_power (2 ^ 22) x) ≡ signed_product nearest w x
  nearest-is = rw (near-at (nat_abs w) l.first, near-at (nat_abs x) l.second) (sym (in_parts w x))

  pub nearest-fits : SFits w32 (signed_product nearest w x)
  nearest-fits = product-fits nearest tt w x l.first l.second

-- the second stage of design 5
both-masked : (A B s : ℕ) → masked_by (pos A) (masked_by (pos B) s) ≡ masked_by (pos A *ℤ pos B) s
both-masked zero B s = none_left (0 * B) 1 s (omega arith)
both-masked (suc A) zero s = none_left (suc A * 0) 1 s (omega arith)
both-masked (suc A) (suc B) s = some (suc A * suc B) 1 s (λ e. omega arith) (λ e. omega arith)

pub second-stands : {A B p q : ℕ} → SecondLogs A B p q → Raised A B (unless_zero p q (((p + q) % 2 ^ 32 + (2 * 2 ^ 23 + 2 ^ 21)) % 2 ^ 32))
second-stands {A} {B} {p} {q} l =
    subst (Raised A B) (both-masked A B _ ∙ sym (masked (kept_code 23 2) small l.logs _))
    (raised A B l.first l.second l.few ((p + q) % 2 ^ 32) _ (omega arith)
    (λ ha hb. sum_is (kept_code 23 2) small l.logs ha hb
    ∙ sym (ap₂ (λ (a b : ℕ). (a + b) % 2 ^ 32) (cut_at 2 (omega arith) (pos A) ha l.logs.first) (cut_at 2 (omega arith) (pos B) hb l.logs.second)))
    refl)
  where
    small : (A : ℕ) → A ≤ 2 ^ 15 → kept_code 23 2 A < 16 * 2 ^ 23
    small A h = kept_small 2 A (omega arith) h
