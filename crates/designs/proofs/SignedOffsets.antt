-- Design 2 on signed operands. The product and what the powers leave add up without a case for a zero, whose power is 0 here; so the
-- residue is the product of each operand less its power, both with the operand's sign, and the product is the sum of two by design 1.
--
use mathlib.Core.Path.{◌≡◌, refl, sym, ap, ap₂, ◌∙◌}
use Prim.Native.Nat.{ℕ, zero, suc, ◌+◌, ◌*◌, ◌^◌, ◌≤◌, ◌<◌}
use native.Mathlib.Omega.{arith}
use mathlib.Core.Bool.{Bool}
use lib.Ieee.{unlike}
use lib.IntN.{ℤ, nat_abs, ◌+ℤ◌, ◌-ℤ◌, ◌*ℤ◌}
use lib.Pow.{pow_mono, pow_pos}
use Rattle.designs.specs.Designs.{Design, formula, mitchell, nearest, near_power, product, rest}
use Rattle.designs.specs.Signs.{negative, residue, signed_product, with_sign}
use Rattle.designs.proofs.Cases.{either-le}
use Rattle.designs.proofs.Mitchell.{mitchell-exact}
use Rattle.designs.proofs.Nearest.{at-le, near-is, near-most, nearest-at}
use Rattle.designs.proofs.Parts.{rest-zero}
use Rattle.designs.proofs.SignedGaps.{less-signed, own_sign, residue-left, sign-alone, signed_add, signed-eq, signed_mul}
use Rattle.designs.proofs.Sizes.{size-sign, true-is}
use Rattle.designs.proofs.Widths.{power-rest}
use Rattle.designs.proofs.Zeros.{by_zero}

-- the power taken for an operand, and 0 for 0
abbrev pub near : ℕ → ℕ
near zero = 0
near (suc A) = 2 ^ near_power (suc A)

near-at : (A : ℕ) → 0 < A → near A ≡ 2 ^ near_power A
near-at zero h = absurd (omega arith)
near-at (suc A) h = refl

powers : (A B : ℕ) → product nearest A B + near A * near B ≡ A * near B + near A * B
unfolding formula
powers =
    by_zero nearest (λ A B p. p + near A * near B ≡ A * near B + near A * B) (λ B. omega arith) (λ A. omega arith)
    (λ A B ha hb. rw (near-at A ha, near-at B hb, nearest-at A B ha hb) (omega (arith, at-le (near-is A ha) (near-is B hb))))

-- the power has no fraction, and no more bits than the operand's own bound
pub near-rest : (A : ℕ) → rest (near A) ≡ 0
near-rest zero = rest-zero
near-rest (suc A) = power-rest (near_power (suc A))

pub near_le : (n A : ℕ) → A ≤ 2 ^ n → near A ≤ 2 ^ n
near_le n zero h = omega arith
near_le n (suc A) h =
    let K = near_power (suc A) in
    either-le K n (λ l. pow_mono l)
    (λ l. absurd (omega (arith, near-most (near-is (suc A) (omega arith)), pow_mono {i = suc n} {j = K} l, pow_pos n)))

pub nearest-left : (w x : ℤ)
    → residue nearest w x ≡ (w -ℤ with_sign (negative w) (near (nat_abs w))) *ℤ (x -ℤ with_sign (negative x) (near (nat_abs x)))
nearest-left w x = residue-left nearest w x (near (nat_abs w)) (near (nat_abs x)) (powers (nat_abs w) (nat_abs x))

-- with a power of two, design 1 gives the true product
exact : (u v : ℤ) → rest (nat_abs u) * rest (nat_abs v) ≡ 0 → signed_product mitchell u v ≡ u *ℤ v
unfolding signed_product
exact u v e = ap (with_sign (unlike (negative u) (negative v))) (mitchell-exact (nat_abs u) (nat_abs v) e) ∙ sym (true-is u v)

-- A product in two parts, by the powers that a design takes for its operands: the first operand by the power of the second, and the power of
-- the first by what that leaves of the second. Each has a power for a factor, so that design 1 gives both.
module _ (D : Design) (power : ℕ → ℕ) (law : (A B : ℕ) → product D A B + power A * power B ≡ A * power B + power A * B) (no-rest : (A : ℕ) → rest (power A) ≡ 0)
    (w x : ℤ) where
  abbrev W : ℤ
  W = with_sign (negative w) (power (nat_abs w))

  abbrev X : ℤ
  X = with_sign (negative x) (power (nat_abs x))

  true-parts : signed_product D w x ≡ w *ℤ X +ℤ W *ℤ (x -ℤ X)
  unfolding signed_product
  true-parts =
      sign-alone sign (product D A B)
      ∙ signed-eq sign (product D A B) 0 (A * Q + 0 * 0 + (P * B + 0 * Q)) (A * 0 + 0 * Q + (P * Q + 0 * B)) (omega (arith, law A B))
      ∙ sym (ap₂ ◌+ℤ◌
      (ap₂ ◌*ℤ◌ (sym (own_sign w) ∙ sign-alone (negative w) A) (sign-alone (negative x) Q) ∙ signed_mul (negative w) (negative x) A 0 Q 0)
      (ap₂ ◌*ℤ◌ (sign-alone (negative w) P) (less-signed x Q) ∙ signed_mul (negative w) (negative x) P 0 B Q)
      ∙ signed_add sign _ _ _ _)
    where
      A : ℕ
      A = nat_abs w

      B : ℕ
      B = nat_abs x

      P : ℕ
      P = power A

      Q : ℕ
      Q = power B

      sign : Bool
      sign = unlike (negative w) (negative x)

  no_fraction : (z : ℤ) → rest (nat_abs (with_sign (negative z) (power (nat_abs z)))) ≡ 0
  no_fraction z = ap rest (size-sign (negative z) (power (nat_abs z))) ∙ no-rest (nat_abs z)

  pub parts-by : signed_product D w x ≡ signed_product mitchell w X +ℤ signed_product mitchell W (x -ℤ X)
  parts-by =
      true-parts
      ∙ sym (ap₂ ◌+ℤ◌
      (exact w X (omega (arith, ap (λ (r : ℕ). rest (nat_abs w) * r) (no_fraction x))))
      (exact W (x -ℤ X) (omega (arith, ap (λ (r : ℕ). r * rest (nat_abs (x -ℤ X))) (no_fraction w)))))

pub in_parts : (w x : ℤ) → let X = with_sign (negative x) (near (nat_abs x)) in
    signed_product nearest w x ≡ signed_product mitchell w X +ℤ signed_product mitchell (with_sign (negative w) (near (nat_abs w))) (x -ℤ X)
in_parts w x = parts-by nearest near powers near-rest w x
