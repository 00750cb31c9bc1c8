-- What stages of design 3 leave of a number of 16 bits has 16 bits, and after four stages at most 11, as each stage leaves less than half. The
-- stages of two runs are those of one.
use Rattle.std.proofs.Common.{◌≡◌, ℕ, zero, suc, ◌+◌, ◌-◌, ◌*◌, ◌^◌, ◌<◌, ◌≤◌, ℤ, pos, negsuc, nat_abs, sym, ap, ◌∙◌, arith}
use lib.Signed.{mag, nat_abs-le}
use Rattle.designs.specs.Designs.{rest}
use Rattle.designs.specs.Signs.{left_ℤ, negative, rest_ℤ}
use Rattle.designs.proofs.Parts.{parts, rest_lt, rest-zero}
use Rattle.designs.proofs.SignedLeft.{left-next, left-none, left-size}
use Rattle.designs.proofs.Sizes.{size-sign}

-- a number of a size below 2^15 has 16 bits
pub mag-size : (z : ℤ) {m : ℕ} → nat_abs z < m → mag z < m
mag-size (pos n) h = h
mag-size (negsuc n) h = omega arith

-- less than half is left
half : (m A : ℕ) → A ≤ 2 * m → 0 < m → rest A < m
half m zero h some = rw rest-zero some
half m (suc A) h some = omega (arith, parts (suc A) (omega arith), rest_lt (suc A))

rest-short : (m : ℕ) (z : ℤ) → nat_abs z ≤ 2 * m → 0 < m → nat_abs (rest_ℤ z) < m
unfolding rest_ℤ
rest-short m z h some = omega (arith, size-sign (negative z) (rest (nat_abs z)), half m (nat_abs z) h some)

pub mag-rest : (z : ℤ) → mag z < 2 ^ 15 → mag (rest_ℤ z) < 2 ^ 15
mag-rest z h = mag-size (rest_ℤ z) (rest-short (2 ^ 15) z (omega (arith, nat_abs-le z h)) (omega arith))

pub mag-left : (s : ℕ) (z : ℤ) → mag z < 2 ^ 15 → mag (left_ℤ s z) < 2 ^ 15
mag-left zero z h = rw (left-none z) h
mag-left (suc s) z h = rw (← left-next s z) (mag-rest (left_ℤ s z) (mag-left s z h))

-- s stages after t
pub left-left : (s t : ℕ) (z : ℤ) → left_ℤ s (left_ℤ t z) ≡ left_ℤ (s + t) z
left-left zero t z = left-none (left_ℤ t z) ∙ ap (λ (k : ℕ). left_ℤ k z) (omega arith)
left-left (suc s) t z = sym (left-next s (left_ℤ t z)) ∙ ap rest_ℤ (left-left s t z) ∙ left-next (s + t) z ∙ ap (λ (k : ℕ). left_ℤ k z) (omega arith)

-- one more, and four more
pub one_left : (s : ℕ) (z : ℤ) → rest_ℤ (left_ℤ s z) ≡ left_ℤ (s + 1) z
one_left s z = left-next s z ∙ ap (λ (k : ℕ). left_ℤ k z) (omega arith)

pub four-left : (s : ℕ) (z : ℤ) → left_ℤ 4 (left_ℤ s z) ≡ left_ℤ (s + 4) z
four-left s z = left-left 4 s z ∙ ap (λ (k : ℕ). left_ℤ k z) (omega arith)

left-short : (s m : ℕ) (z : ℤ) → nat_abs (left_ℤ s z) ≤ 2 * m → 0 < m → nat_abs (left_ℤ (suc s) z) < m
left-short s m z h some = rw (← left-next s z) (rest-short m (left_ℤ s z) h some)

pub short-left : (s : ℕ) (z : ℤ) → 4 ≤ s → mag z < 2 ^ 15 → nat_abs (left_ℤ s z) < 2 ^ 11
short-left s z many h = rw (e, ← left-left (s - 4) 4 z) (omega (arith, left-size (s - 4) (left_ℤ 4 z), fourth))
  where
    e : s ≡ s - 4 + 4
    e = omega arith

    first : nat_abs (left_ℤ 1 z) < 2 ^ 14
    first = left-short 0 (2 ^ 14) z (omega (arith, left-size 0 z, nat_abs-le z h)) (omega arith)

    second : nat_abs (left_ℤ 2 z) < 2 ^ 13
    second = left-short 1 (2 ^ 13) z (omega (arith, first)) (omega arith)

    third : nat_abs (left_ℤ 3 z) < 2 ^ 12
    third = left-short 2 (2 ^ 12) z (omega (arith, second)) (omega arith)

    fourth : nat_abs (left_ℤ 4 z) < 2 ^ 11
    fourth = left-short 3 (2 ^ 11) z (omega (arith, third)) (omega arith)
