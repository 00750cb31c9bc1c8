-- One stage of design 3 by codes. Without its fraction the code of a number is that of its leading power, as the raised pattern is; and
-- the product of a stage is the sum of two with such a power, which design 1 gives.
use Rattle.std.proofs.Common.{◌≡◌, ℕ, zero, suc, ◌+◌, ◌-◌, ◌*◌, ◌/◌, ◌%◌, ◌^◌, ◌<◌, ◌≤◌, Bool, true, false, ℤ, ◌+ℤ◌, nat_abs, sym, refl, ap, ◌∙◌, arith, pow_pos, w32, SFits}
use lib.Bits.{bit_and, and_high}
use Rattle.designs.specs.Codes.{code}
use Rattle.designs.specs.Designs.{mitchell, staged, unless_zero}
use Rattle.designs.specs.Signs.{negative, rest_ℤ, signed_product}
use Rattle.designs.proofs.Codes.{code_lt}
use Rattle.designs.proofs.SignedLeft.{rest-size, stage-parts}
use Rattle.designs.proofs.Sizes.{size-sign}
use Rattle.patterns.specs.Patterns.{field_power, log_pattern, power_of, raised_of}
use Rattle.patterns.proofs.ExponentField.{lead-at, power-raised, rest_of}
use Rattle.patterns.proofs.Moved.{raised_at, raised-none}
use Rattle.patterns.proofs.Pair.{product-fits}
use Rattle.patterns.proofs.Rests.{power_small}
use Rattle.strips.specs.Codes.{code_of, Logs, StageLogs}
use Rattle.strips.proofs.FrameCodes.{code_at, code_is, code-none, raised-some}

-- the code of the leading power
module _ (z : ℤ) (l : nat_abs z ≤ 2 ^ 15) where
  small : code 23 (nat_abs z) < 24 * 2 ^ 23
  small = omega (arith, code_lt 23 (nat_abs z) (omega arith))

  higher : 0 < nat_abs z → (bit_and (code_of z) (2 ^ 32 - 2 ^ 23) + 159 * 2 ^ 23) % 2 ^ 32 ≡ raised_of (power_of 0 z)
  higher h =
      ap (λ (q : ℕ). (q + 159 * 2 ^ 23) % 2 ^ 32) (and_high (code_of z) 9 23 ∙ ap (λ (q : ℕ). q / 2 ^ 23 % 2 ^ 9 * 2 ^ 23) (code_at (code 23) z h))
      ∙ fields (negative z) (code 23 (nat_abs z)) small
      ∙ sym (ap (λ (q : ℕ). (q + 0) % 2 ^ 32 / 2 ^ 23 % 2 ^ 9 * 2 ^ 23) (raised_at (code 23) z h)) ∙ sym (and_high ((raised_of z + 0) % 2 ^ 32) 9 23)
      ∙ power-raised 0 (omega arith) z l
    where
      fields : (s : Bool) (c : ℕ) → c < 24 * 2 ^ 23
          → ((log_pattern s c + 369 * 2 ^ 23) % 2 ^ 32 / 2 ^ 23 % 2 ^ 9 * 2 ^ 23 + 159 * 2 ^ 23) % 2 ^ 32 ≡ (log_pattern s (c + 16 * 2 ^ 23) + 0) % 2 ^ 32 / 2 ^ 23 % 2 ^ 9 * 2 ^ 23
      fields true c g = omega arith
      fields false c g = omega arith

  power-some : 0 < nat_abs z → 0 < nat_abs (power_of 0 z)
  power-some h = rw (size-sign (negative z) (field_power 0 (nat_abs z))) (go (nat_abs z) h)
    where
      go : (n : ℕ) → 0 < n → 0 < field_power 0 n
      go zero g = absurd (omega arith)
      go (suc n) g = pow_pos ((code 23 (suc n) + 0) / 2 ^ 23)

  lead-code : bit_and (code_of z) (2 ^ 32 - 2 ^ 23) ≡ code_of (power_of 0 z)
  lead-code = go (nat_abs z) refl
    where
      none : nat_abs z ≡ 0 → nat_abs (power_of 0 z) ≡ 0
      none e = size-sign (negative z) (field_power 0 (nat_abs z)) ∙ rw e refl

      go : (n : ℕ) → n ≡ nat_abs z → bit_and (code_of z) (2 ^ 32 - 2 ^ 23) ≡ code_of (power_of 0 z)
      go zero e =
          and_high (code_of z) 9 23 ∙ ap (λ (q : ℕ). q / 2 ^ 23 % 2 ^ 9 * 2 ^ 23) (code-none (code 23) z (sym e)) ∙ sym (code-none (code 23) (power_of 0 z) (none (sym e)))
      go (suc n) e =
          let some : 0 < nat_abs z = omega (arith, e) in
          code_is (code 23) (power_of 0 z) (raised_of (power_of 0 z)) refl (bit_and (code_of z) (2 ^ 32 - 2 ^ 23))
          (λ q. omega (arith, q, raised-some (code 23) (power_of 0 z) (power-some some))) (omega (arith, and_high (code_of z) 9 23)) (higher some)

  pub lead-of : {q : ℕ} → q ≡ code_of z → bit_and q (2 ^ 32 - 2 ^ 23) ≡ code_of (power_of 0 z)
  lead-of e = ap (λ (q : ℕ). bit_and q (2 ^ 32 - 2 ^ 23)) e ∙ lead-code

-- the leading power for a number, which is 0 where the power is
module _ {u v : ℤ} {p q r : ℕ} (l : Logs (code 23) u v p q) (e : r ≡ raised_of (power_of 0 u)) where
  pub lead-logs : Logs (code 23) (power_of 0 u) v r q
  lead-logs = record { first = power_small u l.first; second = l.second; pattern = e; code = l.code }

  pub one-test : (s : ℕ) → unless_zero p q s ≡ unless_zero r q s
  one-test s = go (nat_abs u) refl
    where
      same : (p r q : ℕ) → 0 < p → 0 < r → unless_zero p q s ≡ unless_zero r q s
      same zero r q hp hr = absurd (omega arith)
      same (suc p) zero q hp hr = absurd (omega arith)
      same (suc p) (suc r) zero hp hr = refl
      same (suc p) (suc r) (suc q) hp hr = refl

      none : (p r : ℕ) → p ≡ 0 → r ≡ 0 → unless_zero p q s ≡ unless_zero r q s
      none p r ep er = rw (ep, er) refl

      go : (n : ℕ) → n ≡ nat_abs u → unless_zero p q s ≡ unless_zero r q s
      go zero g =
          none p r (l.pattern ∙ raised-none (code 23) u (sym g))
          (e ∙ raised-none (code 23) (power_of 0 u) (size-sign (negative u) (field_power 0 (nat_abs u)) ∙ ap (field_power 0) (sym g)))
      go (suc n) g =
          let there : 0 < nat_abs u = omega (arith, g) in
          same p r q (omega (arith, l.pattern, raised-some (code 23) u there)) (omega (arith, e, raised-some (code 23) (power_of 0 u) (power-some u l.first there)))

-- a stage in its two parts
module _ {w x : ℤ} {p a b : ℕ} (l : StageLogs w x p a b) where
  pub power-logs : {q : ℕ} → q ≡ code_of (power_of 0 x) → Logs (code 23) w (power_of 0 x) p q
  power-logs e = record { first = l.first; second = power_small x l.second; pattern = l.pattern; code = e }

  pub left-logs : Logs (code 23) w (rest_ℤ x) p b
  left-logs = record { first = l.first; second = omega (arith, rest-size x, l.second); pattern = l.pattern; code = l.left }

  pub stage_is : signed_product mitchell w (power_of 0 x) +ℤ signed_product mitchell (power_of 0 w) (rest_ℤ x) ≡ signed_product (staged 1) w x
  stage_is =
      ap (λ (z : ℤ). signed_product mitchell w (power_of 0 x) +ℤ signed_product mitchell (power_of 0 w) z) (sym (rest_of x l.second))
      ∙ rw (lead-at (nat_abs w) l.first, lead-at (nat_abs x) l.second) (sym (stage-parts w x))

  pub stage-fits : SFits w32 (signed_product (staged 1) w x)
  stage-fits = product-fits (staged 1) tt w x l.first l.second
