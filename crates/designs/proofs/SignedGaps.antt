-- Integers as a sign and a difference of naturals. A residue and a number less a power are both `signed_gap`, a less b with its sign
-- turned or not, so an identity of residues becomes one of naturals, whatever the signs.
use mathlib.Core.Path.{◌≡◌, refl, sym, ap, ap₂, ◌∙◌}
use Prim.Native.Nat.{ℕ, ◌+◌, ◌*◌}
use native.Mathlib.Omega.{arith}
use mathlib.Core.Bool.{Bool, true, false}
use lib.Ieee.{unlike}
use lib.IntN.{ℤ, pos, negsuc, nat_abs, ◌+ℤ◌, ◌-ℤ◌, ◌*ℤ◌, neg_ℤ-neg_ℤ}
use Rattle.designs.specs.Designs.{Design, product}
use Rattle.designs.specs.Signs.{negative, with_sign, signed_product, residue}
use Rattle.designs.proofs.Differences.{gap, gap-eq, add-gap, mul-gap, minus, whole, neg-whole}
use Rattle.designs.proofs.Sizes.{true-is}

abbrev pub signed_gap : Bool → ℕ → ℕ → ℤ
signed_gap false a b = gap a b
signed_gap true a b = gap b a

pub signed-eq : (s : Bool) (a b c d : ℕ) → a + d ≡ c + b → signed_gap s a b ≡ signed_gap s c d
signed-eq false a b c d e = gap-eq a b c d e
signed-eq true a b c d e = gap-eq b a d c (omega arith)

pub signed_mul : (s t : Bool) (a b c d : ℕ) → signed_gap s a b *ℤ signed_gap t c d ≡ signed_gap (unlike s t) (a * c + b * d) (a * d + b * c)
signed_mul false false a b c d = mul-gap a b c d
signed_mul false true a b c d = mul-gap a b d c
signed_mul true false a b c d = mul-gap b a c d ∙ gap-eq _ _ _ _ (omega arith)
signed_mul true true a b c d = mul-gap b a d c ∙ gap-eq _ _ _ _ (omega arith)

pub signed_add : (s : Bool) (a b c d : ℕ) → signed_gap s a b +ℤ signed_gap s c d ≡ signed_gap s (a + c) (b + d)
signed_add false a b c d = add-gap a b c d
signed_add true a b c d = add-gap b a d c

-- a size with a sign, and two with the same
pub sign-alone : (s : Bool) (n : ℕ) → with_sign s n ≡ signed_gap s n 0
sign-alone false n = whole n
sign-alone true n = neg-whole n

pub sign-less : (s : Bool) (n m : ℕ) → with_sign s n -ℤ with_sign s m ≡ signed_gap s n m
sign-less false n m = minus n m
sign-less true n m = ap₂ ◌+ℤ◌ (neg-whole n) (neg_ℤ-neg_ℤ (pos m) ∙ whole m) ∙ add-gap 0 n m 0 ∙ gap-eq _ _ _ _ (omega arith)

pub own_sign : (x : ℤ) → with_sign (negative x) (nat_abs x) ≡ x
own_sign (pos n) = refl
own_sign (negsuc n) = refl

-- a number less one with its sign
pub less-signed : (z : ℤ) (R : ℕ) → z -ℤ with_sign (negative z) R ≡ signed_gap (negative z) (nat_abs z) R
less-signed z R = ap (λ (y : ℤ). y -ℤ with_sign (negative z) R) (sym (own_sign z)) ∙ sign-less (negative z) (nat_abs z) R

module _ (D : Design) (w x : ℤ) where
  abbrev A : ℕ
  A = nat_abs w

  abbrev B : ℕ
  B = nat_abs x

  abbrev sign : Bool
  sign = unlike (negative w) (negative x)

  pub residue-signed : residue D w x ≡ signed_gap sign (A * B) (product D A B)
  unfolding residue signed_product
  residue-signed = ap (λ (z : ℤ). z -ℤ with_sign sign (product D A B)) (true-is w x) ∙ sign-less sign (A * B) (product D A B)

  -- where the product is A × Q + B × P − P × Q, the residue is what P and Q leave of the operands, multiplied
  pub residue-left : (P Q : ℕ) → product D A B + P * Q ≡ A * Q + P * B
      → residue D w x ≡ (w -ℤ with_sign (negative w) P) *ℤ (x -ℤ with_sign (negative x) Q)
  residue-left P Q e =
      residue-signed ∙ signed-eq sign (A * B) (product D A B) (A * B + P * Q) (A * Q + P * B) (omega arith)
      ∙ sym (ap₂ ◌*ℤ◌ (less-signed w P) (less-signed x Q) ∙ signed_mul (negative w) (negative x) A P B Q)
