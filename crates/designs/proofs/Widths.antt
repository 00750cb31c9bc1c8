-- A product of u-bit and v-bit magnitudes has at most u + v bits, in every design and setting: designs 1 and 3 fall short of the
-- true product, design 2 of a product of powers or of the true one, and designs 4 and 5 of 4 × 2^(k+m).
use mathlib.Core.Path.{◌≡◌, ap, subst}
use Prim.Native.Nat.{ℕ, ◌+◌, ◌*◌, ◌^◌, ◌≤◌, ◌<◌}
use native.Mathlib.Nat.{mul-le-mul, mul-le-mul_left, mul-le-mul_right, div-lt_iff_lt-mul, mul-pos, le_antisymm}
use native.Mathlib.Omega.{arith}
use borrow.Author.Tests.{lt-ltb}
use lib.Pow.{pow-add, pow-lt, pow_mono, pow_pos}
use Rattle.designs.specs.Designs.{Design, mitchell, nearest, staged, truncated, twice_truncated, log2, rest, near_power, by_nearest, kept, left_over, second_stage, by_truncation, by_two_truncations, formula, product, KeepsBit, total}
use Rattle.designs.proofs.Cases.{by_le, by-lt, either_lt}
use Rattle.designs.proofs.Parts.{parts, log2-is, log2-below, log2-double}
use Rattle.designs.proofs.Zeros.{by_zero, product_is}
use Rattle.designs.proofs.Mitchell.{mitchell-short}
use Rattle.designs.proofs.Nearest.{Near, under, over, near-is, at, nearest-at}
use Rattle.designs.proofs.Staged.{stages-leave}
use Rattle.designs.proofs.Carried.{carried, carried-lt}
use Rattle.designs.proofs.Truncated.{kept-none, total-lt, truncation-at}
use Rattle.designs.proofs.TwiceTruncated.{twice-lt}

-- the exponent of the nearest power is at most the width
pub near_power-below : (w A : ℕ) → 0 < A → A < 2 ^ w → near_power A ≤ w
unfolding near_power
near_power-below w A h l =
    by_le (λ (k : ℕ). k ≤ w) (2 ^ log2 A) (2 * rest A) (λ g. omega (arith, log2-below w A h l)) (λ g. omega (arith, log2-below w A h l))

near-lt : {A P B Q : ℕ} (U W : ℕ) → Near A P → Near B Q → 0 < A → 0 < B → A < U → B < W → P ≤ U → Q ≤ W → at A P B Q < U * W
near-lt U W (under A c _) (under B d _) p q h g i j = omega (arith, mul-le-mul h g)
near-lt U W (under A c _) (over Q d _) p q h g i j = omega (arith, mul-le-mul g i)
near-lt U W (over P c _) (under B d _) p q h g i j = omega (arith, mul-le-mul h j)
near-lt U W (over P c _) (over Q d _) p q h g i j = omega (arith, mul-le-mul h g)

module _ (u v A B : ℕ) (pa : 0 < A) (pb : 0 < B) (ha : A < 2 ^ u) (hb : B < 2 ^ v) where
  true-lt : A * B < 2 ^ u * 2 ^ v
  true-lt = omega (arith, mul-le-mul ha hb)

  nearest-lt : by_nearest A B < 2 ^ u * 2 ^ v
  nearest-lt =
      rw (nearest-at A B pa pb)
      (near-lt (2 ^ u) (2 ^ v) (near-is A pa) (near-is B pb) pa pb ha hb (pow_mono (near_power-below u A pa ha)) (pow_mono (near_power-below v B pb hb)))

  truncated-lt : (t : ℕ) → by_truncation t A B < 2 ^ u * 2 ^ v
  truncated-lt t = rw (truncation-at t A B) ((div-lt_iff_lt-mul (pow_pos t)).1 (rw (pow-add 2 (log2 A) (log2 B)) below))
    where
      below : 2 ^ log2 A * 2 ^ log2 B * carried (2 ^ t) (total t A B) < 2 ^ u * 2 ^ v * 2 ^ t
      below =
          omega (
            arith,
            mul-le-mul_left (2 ^ log2 A * 2 ^ log2 B) (carried-lt (2 ^ t) (total t A B) (pow_pos t) (total-lt t A B)),
            mul-le-mul_right (2 ^ t) (mul-le-mul (log2-double u A pa ha) (log2-double v B pb hb)),
            mul-pos (pow_pos (log2 A)) (pow_pos (log2 B)),
          )

  formula-lt : (D : Design) → formula D A B < 2 ^ u * 2 ^ v
  unfolding formula
  formula-lt mitchell = omega (arith, mitchell-short A B pa pb, true-lt)
  formula-lt nearest = nearest-lt
  formula-lt (staged s) = omega (arith, stages-leave s A B, true-lt)
  formula-lt (truncated t) = truncated-lt t
  formula-lt (twice_truncated t) =
      omega (arith, twice-lt t A B, mul-le-mul (log2-double u A pa ha) (log2-double v B pb hb))

pub product_lt : (D : Design) (u v A B : ℕ) → A < 2 ^ u → B < 2 ^ v → product D A B < 2 ^ (u + v)
product_lt D u v A B ha hb =
    by_zero D (λ A B p. A < 2 ^ u → B < 2 ^ v → p < 2 ^ (u + v)) (λ B h g. pow_pos (u + v)) (λ A h g. pow_pos (u + v))
    (λ A B pa pb h g. rw (pow-add 2 u v) (formula-lt u v A B pa pb h g D)) A B ha hb

-- Signed operands of v + 1 bits have sizes up to 2^v, which has v + 1 bits itself. Their product still has at most 2v + 1 bits:
-- where one size is below 2^v by the law above, and where both are 2^v because the designs are all but exact there.

module _ (v : ℕ) where
  pub power-log2 : log2 (2 ^ v) ≡ v
  power-log2 = log2-is (2 ^ v) v (omega arith) (pow-lt (omega arith))

  pub power-rest : rest (2 ^ v) ≡ 0
  power-rest = omega (arith, parts (2 ^ v) (pow_pos v), ap (λ (k : ℕ). 2 ^ k) power-log2)

  power-near_power : near_power (2 ^ v) ≡ v
  unfolding near_power
  power-near_power =
      by_le (λ (k : ℕ). k ≡ v) (2 ^ log2 (2 ^ v)) (2 * rest (2 ^ v))
      (λ h. absurd (omega (arith, power-rest, pow_pos (log2 (2 ^ v))))) (λ h. power-log2)

  pub power-kept : (t : ℕ) → kept t (2 ^ v) ≡ 0
  power-kept t = kept-none t (2 ^ v) power-rest

  power-truncated : (t : ℕ) → 0 < t → by_truncation t (2 ^ v) (2 ^ v) < 2 * (2 ^ v * 2 ^ v)
  power-truncated t h =
      rw (truncation-at t (2 ^ v) (2 ^ v), power-log2, power-kept t, pow-add 2 v v)
      ((div-lt_iff_lt-mul (pow_pos t)).1 (omega (arith, mul-le-mul_left (2 ^ v * 2 ^ v) alone, mul-pos (pow_pos v) (pow_pos v))))
    where
      alone : carried (2 ^ t) (0 + 0 + 1) < 2 * 2 ^ t
      alone = by-lt (λ (z : ℕ). z < 2 * 2 ^ t) 1 (2 ^ t) (λ l. omega arith) (λ l. absurd (omega (arith, pow_mono h)))

  -- nothing is left for the second stage
  power-twice : (t : ℕ) → 0 < t → by_two_truncations t (2 ^ v) (2 ^ v) ≡ by_truncation t (2 ^ v) (2 ^ v)
  unfolding by_two_truncations second_stage left_over
  power-twice t h = rw (power-kept t, lt-ltb 1 (2 ^ t) (pow_mono h), power-rest) (omega arith)

  power-lt : (D : Design) → KeepsBit D → formula D (2 ^ v) (2 ^ v) < 2 * (2 ^ v * 2 ^ v)
  unfolding formula
  power-lt mitchell k = omega (arith, mitchell-short (2 ^ v) (2 ^ v) (pow_pos v) (pow_pos v), mul-pos (pow_pos v) (pow_pos v))
  power-lt nearest k = rw (nearest-at (2 ^ v) (2 ^ v) (pow_pos v) (pow_pos v), power-near_power) (omega (arith, mul-pos (pow_pos v) (pow_pos v)))
  power-lt (staged s) k = omega (arith, stages-leave s (2 ^ v) (2 ^ v), mul-pos (pow_pos v) (pow_pos v))
  power-lt (truncated t) k = power-truncated t k
  power-lt (twice_truncated t) k = rw (power-twice t k) (power-truncated t k)

pub size-lt : (D : Design) → KeepsBit D → (v A B : ℕ) → A ≤ 2 ^ v → B ≤ 2 ^ v → product D A B < 2 ^ (v + v + 1)
size-lt D k v A B ha hb =
    either_lt A (2 ^ v)
    (λ l. subst (λ (n : ℕ). product D A B < 2 ^ n) (omega arith) (product_lt D v (v + 1) A B l (wider B hb)))
    (λ l. either_lt B (2 ^ v)
    (λ g. subst (λ (n : ℕ). product D A B < 2 ^ n) (omega arith) (product_lt D (v + 1) v A B (wider A ha) g))
    (λ g. rw (le_antisymm ha l, le_antisymm hb g, product_is D (2 ^ v) (2 ^ v) (pow_pos v) (pow_pos v))
    (subst (λ (n : ℕ). formula D (2 ^ v) (2 ^ v) < n) (omega (arith, pow-add 2 v v, pow-add 2 (v + v) 1)) (power-lt v D k))))
  where
    wider : (n : ℕ) → n ≤ 2 ^ v → n < 2 ^ (v + 1)
    wider n h = omega (arith, pow-add 2 v 1, pow_pos v)
