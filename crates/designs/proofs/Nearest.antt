-- Design 2. An operand A stands below the power P taken for it by at most A / 3, or above it by less than A / 3 (`Near`).
-- In integers the product is A × Q + B × P − P × Q, which `Near` keeps from falling below 0, and its residue is q × r.
--
use mathlib.Core.Path.{◌≡◌, sym, ap, ◌∙◌, subst}
use Prim.Native.Nat.{ℕ, ◌+◌, ◌-◌, ◌*◌, ◌^◌, ◌≤◌, ◌<◌}
use native.Mathlib.Nat.{mul-le-mul, mul-le-mul_left, mul-le-mul_right}
use native.Mathlib.Omega.{arith}
use mathlib.Core.Bool.{Bool, true, false, cond}
use lib.Dec.{leb}
use lib.IntN.{pos, nat_abs, ◌+ℤ◌, ◌-ℤ◌, ◌*ℤ◌}
use lib.Pow.{pow-add}
use Rattle.designs.specs.Designs.{log2, rest, near_power, offset, nearest_ℤ, by_nearest, nearest, formula}
use Rattle.designs.specs.Signs.{residue}
use Rattle.designs.proofs.Cases.{by_le}
use Rattle.designs.proofs.Differences.{gap, is_pos, whole, minus, gap-eq, add-gap, mul-gap}
use Rattle.designs.proofs.Parts.{parts, rest_lt}
use Rattle.designs.proofs.Zeros.{product_is, residue-gap}

-- how A stands to the power P taken for it
pub data Near : ℕ → ℕ → Type 0 where
  under : (A c : ℕ) → 3 * c ≤ A → Near A (A + c)
  over : (P c : ℕ) → 3 * c < P + c → Near (P + c) P

pub near-is : (A : ℕ) → 0 < A → Near A (2 ^ near_power A)
unfolding near_power
near-is A h =
    by_le (λ (k : ℕ). Near A (2 ^ k)) (2 ^ log2 A) (2 * rest A)
    (λ l. subst (λ (x : ℕ). Near A x) (rw (pow-add 2 (log2 A) 1) (omega (arith, parts A h, rest_lt A)))
    (under A (2 ^ log2 A - rest A) (omega (arith, parts A h, rest_lt A))))
    (λ l. subst (λ (x : ℕ). Near x (2 ^ log2 A)) (sym (parts A h)) (over (2 ^ log2 A) (rest A) (omega arith)))

pub near-most : {A P : ℕ} → Near A P → 3 * P ≤ 4 * A
near-most (under A c h) = omega arith
near-most (over P c h) = omega arith

-- the design over any P and Q
abbrev pub at : ℕ → ℕ → ℕ → ℕ → ℕ
at A P B Q = A * Q + B * P - P * Q

-- the subtraction cuts nothing off
pub at-le : {A P B Q : ℕ} → Near A P → Near B Q → P * Q ≤ A * Q + B * P
at-le (under A c h) (under B d g) = omega (arith, mul-le-mul h g)
at-le (under A c h) (over Q d g) = omega (arith, mul-le-mul_right Q h)
at-le (over P c h) (under B d g) = omega (arith, mul-le-mul_left P g)
at-le (over P c h) (over Q d g) = omega arith

-- q is the operand less its power
offset-is : (A : ℕ) → 0 < A → offset A ≡ gap A (2 ^ near_power A)
unfolding offset near_power
offset-is A h = go (leb (2 ^ log2 A) (2 * rest A))
  where
    go : (t : Bool) → cond t (pos (rest A) -ℤ pos (2 ^ log2 A)) (pos (rest A)) ≡ gap A (2 ^ cond t (log2 A + 1) (log2 A))
    go true =
        minus (rest A) (2 ^ log2 A)
        ∙ gap-eq (rest A) (2 ^ log2 A) A (2 ^ (log2 A + 1)) (rw (pow-add 2 (log2 A) 1) (omega (arith, parts A h)))
    go false = is_pos A (2 ^ log2 A) (rest A) (parts A h)

-- The value is never below 0: in integers it is the number `at`.
pub nearest_ℤ-is : (A B : ℕ) → 0 < A → 0 < B → nearest_ℤ A B ≡ pos (at A (2 ^ near_power A) B (2 ^ near_power B))
unfolding nearest_ℤ
nearest_ℤ-is A B ha hb =
    rw (offset-is A ha, offset-is B hb, pow-add 2 (near_power A) (near_power B))
    (in-gaps A (2 ^ near_power A) B (2 ^ near_power B) (at-le (near-is A ha) (near-is B hb)))
  where
    in-gaps : (A P B Q : ℕ) → P * Q ≤ A * Q + B * P → pos (P * Q) +ℤ gap A P *ℤ pos Q +ℤ gap B Q *ℤ pos P ≡ pos (at A P B Q)
    in-gaps A P B Q h = simp (whole, mul-gap, add-gap) (gap-eq _ _ _ _ (omega arith))

pub nearest-at : (A B : ℕ) → 0 < A → 0 < B → by_nearest A B ≡ at A (2 ^ near_power A) B (2 ^ near_power B)
unfolding by_nearest
nearest-at A B ha hb = ap nat_abs (nearest_ℤ-is A B ha hb)

-- The residue is q × r.
pub nearest-residue : (A B : ℕ) → 0 < A → 0 < B → residue nearest (pos A) (pos B) ≡ offset A *ℤ offset B
unfolding formula
nearest-residue A B ha hb =
    residue-gap nearest A B ∙ ap (gap (A * B)) (product_is nearest A B ha hb ∙ nearest-at A B ha hb)
    ∙ rw (offset-is A ha, offset-is B hb) (product-of-gaps A (2 ^ near_power A) B (2 ^ near_power B) (at-le (near-is A ha) (near-is B hb)))
  where
    product-of-gaps : (A P B Q : ℕ) → P * Q ≤ A * Q + B * P → gap (A * B) (at A P B Q) ≡ gap A P *ℤ gap B Q
    product-of-gaps A P B Q h = rw (mul-gap A P B Q) (gap-eq _ _ _ _ (omega arith))
