-- Design 3 on signed operands: what s stages leave keeps the operand's sign, and the residue is the product of what they leave of both.
-- One stage takes the leading power off, with the sign.
use mathlib.Core.Path.{◌≡◌, refl, sym, ap, ap₂, ◌∙◌}
use Prim.Native.Nat.{ℕ, zero, suc, ◌+◌, ◌*◌, ◌^◌, ◌≤◌}
use native.Mathlib.Omega.{arith}
use mathlib.Core.Bool.{Bool, true, false}
use lib.Ieee.{unlike}
use lib.IntN.{ℤ, pos, nat_abs, ◌+ℤ◌, ◌-ℤ◌, ◌*ℤ◌}
use Rattle.designs.specs.Designs.{by_stages, Design, left, log2, mitchell, product, rest, stage, staged}
use Rattle.designs.specs.Signs.{left_ℤ, negative, residue, rest_ℤ, signed_product, with_sign}
use Rattle.designs.proofs.Parts.{parts, rest-half, rest-zero}
use Rattle.designs.proofs.SignedGaps.{own_sign, residue-signed, sign-alone, sign-less, signed_add, signed-eq, signed_mul}
use Rattle.designs.proofs.SignedOffsets.{parts-by}
use Rattle.designs.proofs.Sizes.{size-sign}
use Rattle.designs.proofs.Staged.{staged-is, stages-leave}
use Rattle.designs.proofs.Widths.{power-rest}
use Rattle.designs.proofs.Zeros.{zero_left, zero_right}

-- the leading power of a number, and 0 of 0
abbrev pub lead : ℕ → ℕ
lead zero = 0
lead (suc A) = 2 ^ log2 (suc A)

pub lead-rest : (A : ℕ) → A ≡ lead A + rest A
lead-rest zero = omega (arith, rest-zero)
lead-rest (suc A) = parts (suc A) (omega arith)

pub lead-le : (A : ℕ) → lead A ≤ A
lead-le A = omega (arith, lead-rest A)

pub rest-is : (z : ℤ) → z -ℤ with_sign (negative z) (lead (nat_abs z)) ≡ rest_ℤ z
unfolding rest_ℤ
rest-is z =
    ap (λ (y : ℤ). y -ℤ with_sign (negative z) (lead (nat_abs z))) (sym (own_sign z)) ∙ sign-less (negative z) (nat_abs z) (lead (nat_abs z))
    ∙ signed-eq (negative z) (nat_abs z) (lead (nat_abs z)) (rest (nat_abs z)) 0 (omega (arith, lead-rest (nat_abs z)))
    ∙ sym (sign-alone (negative z) (rest (nat_abs z)))

pub rest-size : (z : ℤ) → nat_abs (rest_ℤ z) ≤ nat_abs z
unfolding rest_ℤ
rest-size z = omega (arith, size-sign (negative z) (rest (nat_abs z)), rest-half (nat_abs z))

-- no stage, and one more
pub left-none : (z : ℤ) → left_ℤ 0 z ≡ z
unfolding left_ℤ left
left-none z = own_sign z

left_out : (s A : ℕ) → left (suc s) A ≡ rest (left s A)
unfolding left
left_out zero A = refl
left_out (suc s) A = left_out s (rest A)

rest-sign : (s : Bool) (n : ℕ) → rest_ℤ (with_sign s n) ≡ with_sign s (rest n)
unfolding rest_ℤ
rest-sign true zero = ap pos rest-zero ∙ sym (ap (with_sign true) rest-zero)
rest-sign true (suc n) = refl
rest-sign false n = refl

pub left-next : (s : ℕ) (z : ℤ) → rest_ℤ (left_ℤ s z) ≡ left_ℤ (suc s) z
unfolding left_ℤ
left-next s z = rest-sign (negative z) (left s (nat_abs z)) ∙ ap (with_sign (negative z)) (sym (left_out s (nat_abs z)))

pub left-size : (s : ℕ) (z : ℤ) → nat_abs (left_ℤ s z) ≤ nat_abs z
left-size zero z = rw (left-none z) (omega arith)
left-size (suc s) z = rw (← left-next s z) (omega (arith, rest-size (left_ℤ s z), left-size s z))

pub staged-left : (s : ℕ) (w x : ℤ) → residue (staged s) w x ≡ left_ℤ s w *ℤ left_ℤ s x
unfolding left_ℤ
staged-left s w x =
    residue-signed (staged s) w x
    ∙ signed-eq sign (nat_abs w * nat_abs x) (product (staged s) (nat_abs w) (nat_abs x)) (a * b + 0 * 0) (a * 0 + 0 * b)
    (omega (arith, stages-leave s (nat_abs w) (nat_abs x), staged-is s (nat_abs w) (nat_abs x)))
    ∙ sym (ap₂ ◌*ℤ◌ (sign-alone (negative w) a) (sign-alone (negative x) b) ∙ signed_mul (negative w) (negative x) a 0 b 0)
  where
    sign : Bool
    sign = unlike (negative w) (negative x)

    a : ℕ
    a = left s (nat_abs w)

    b : ℕ
    b = left s (nat_abs x)

-- One stage takes the leading powers, and its product is the sum of two with such a power, which design 1 gives.
lead-none : (A : ℕ) → rest (lead A) ≡ 0
lead-none zero = rest-zero
lead-none (suc A) = power-rest (log2 (suc A))

first-stage : (A B : ℕ) → product (staged 1) A B + lead A * lead B ≡ A * lead B + lead A * B
unfolding left
first-stage A B =
    expand (lead A) (rest A) (lead B) (rest B) A B (product (staged 1) A B) (lead-rest A) (lead-rest B)
    (omega (arith, stages-leave 1 A B, staged-is 1 A B))
  where
    expand : (P a Q b A B p : ℕ) → A ≡ P + a → B ≡ Q + b → p + a * b ≡ A * B → p + P * Q ≡ A * Q + P * B
    expand P a Q b A B p ea eb e = rw (ea, eb) (omega (arith, (rw (ea, eb) at e)))

pub stage-parts : (w x : ℤ) → let X = with_sign (negative x) (lead (nat_abs x)) in
    signed_product (staged 1) w x ≡ signed_product mitchell w X +ℤ signed_product mitchell (with_sign (negative w) (lead (nat_abs w))) (x -ℤ X)
stage-parts w x = parts-by (staged 1) lead first-stage lead-none w x

-- the products of s stages, and of one more
stages-then : (s A B : ℕ) → by_stages (suc s) A B ≡ by_stages s A B + stage (left s A) (left s B)
unfolding by_stages left
stages-then zero A B = omega arith
stages-then (suc s) A B = omega (arith, stages-then s (rest A) (rest B))

one-stage : (A B : ℕ) → product (staged 1) A B ≡ stage A B
unfolding by_stages
one-stage A B = staged-is 1 A B ∙ omega arith

product-then : (s A B : ℕ) → product (staged (suc s)) A B ≡ product (staged s) A B + product (staged 1) (left s A) (left s B)
product-then s A B = omega (arith, staged-is (suc s) A B, staged-is s A B, stages-then s A B, one-stage (left s A) (left s B))

-- sizes with their signs: a sum of two with one sign, and a product, which is 0 where a size is 0, whatever the sign
together : (s : Bool) (m n : ℕ) → with_sign s m +ℤ with_sign s n ≡ with_sign s (m + n)
together s m n = ap₂ ◌+ℤ◌ (sign-alone s m) (sign-alone s n) ∙ signed_add s m 0 n 0 ∙ sym (sign-alone s (m + n))

nothing : (s : Bool) (p : ℕ) → 0 ≡ p → with_sign s p ≡ pos 0
nothing true p e = rw (sym e) refl
nothing false p e = ap pos (sym e)

by-sizes : (D : Design) (s t : Bool) (m n : ℕ) → signed_product D (with_sign s m) (with_sign t n) ≡ with_sign (unlike s t) (product D m n)
unfolding signed_product
by-sizes D s t zero n =
    nothing (unlike (negative (with_sign s 0)) (negative (with_sign t n))) _ (zero_left D (nat_abs (with_sign s 0)) (nat_abs (with_sign t n)) (size-sign s 0)) ∙ sym (nothing (unlike s t) (product D 0 n) (zero_left D 0 n refl))
by-sizes D s t (suc m) zero =
    nothing (unlike (negative (with_sign s (suc m))) (negative (with_sign t 0))) _ (zero_right D (nat_abs (with_sign s (suc m))) (nat_abs (with_sign t 0)) (size-sign t 0))
    ∙ sym (nothing (unlike s t) (product D (suc m) 0) (zero_right D (suc m) 0 refl))
by-sizes D true true (suc m) (suc n) = refl
by-sizes D true false (suc m) (suc n) = refl
by-sizes D false true (suc m) (suc n) = refl
by-sizes D false false (suc m) (suc n) = refl

pub staged-then : (s : ℕ) (w x : ℤ) → signed_product (staged (suc s)) w x ≡ signed_product (staged s) w x +ℤ signed_product (staged 1) (left_ℤ s w) (left_ℤ s x)
unfolding signed_product left_ℤ
staged-then s w x =
    ap (with_sign sign) (product-then s A B) ∙ sym (together sign (product (staged s) A B) (product (staged 1) (left s A) (left s B)))
    ∙ ap (λ (z : ℤ). with_sign sign (product (staged s) A B) +ℤ z) (sym (by-sizes (staged 1) (negative w) (negative x) (left s A) (left s B)))
  where
    A : ℕ
    A = nat_abs w

    B : ℕ
    B = nat_abs x

    sign : Bool
    sign = unlike (negative w) (negative x)

pub no-stage : (w x : ℤ) → signed_product (staged 0) w x ≡ pos 0
unfolding signed_product by_stages
no-stage w x = nothing (unlike (negative w) (negative x)) _ (sym (staged-is 0 (nat_abs w) (nat_abs x)))
