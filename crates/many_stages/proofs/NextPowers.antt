-- The signed powers of two that a number is the sum of. The power that is taken off is never the number, and what it leaves has no more bits, so
-- that neither grows; that what three of them leave of a byte, and five of a number of 11 bits, is a power itself is computed for every such
-- number.
use Rattle.std.proofs.Common.{◌≡◌, ℕ, zero, suc, ◌+◌, ◌-◌, ◌*◌, ◌^◌, ◌<◌, ◌≤◌, Bool, cond, ◌&&◌, T, eqb, ℤ, pos, negsuc, ◌-ℤ◌, neg_ℤ, nat_abs, sym, refl, ap, ◌∙◌, le_antisymm, arith, eqb→eq, pow_pos, pow_mono, pow-add, eqb-true}
use borrow.Author.Tests.{eqb-false}
use lib.Ieee.Fits.{and_l, and_r}
use Rattle.designs.specs.Designs.{log2, near_power, rest}
use Rattle.designs.specs.Lists.{every_below}
use Rattle.designs.specs.Signs.{negative, with_sign}
use Rattle.designs.proofs.Cases.{by_bool, by_le, either_lt}
use Rattle.designs.proofs.Distance.{dist, dist-less, dist-more, within-dist}
use Rattle.designs.proofs.Lists.{of-below}
use Rattle.designs.proofs.Parts.{log2-double, parts, rest_lt}
use Rattle.designs.proofs.SignedGaps.{own_sign}
use Rattle.designs.proofs.Sizes.{sign-dist, size-add, size-neg, size-sign}
use Rattle.designs.proofs.Widths.{near_power-below, power-rest}
use Rattle.many_stages.specs.Powers.{left_by, next_power, taken_of}

-- a power of two, with a sign
abbrev pub IsPower : ℤ → Type 0
IsPower z = (s : Bool) × (k : ℕ) × (z ≡ with_sign s (2 ^ k))

-- the size of the power, of 0 and of any other number
pub taken_none : taken_of 0 ≡ 1
unfolding taken_of
taken_none = refl

taken-by : (P : ℕ → Type 0) (n : ℕ) → 0 < n → (rest n ≡ 0 → P (2 * n)) → (0 < rest n → P (2 ^ near_power n)) → P (taken_of n)
unfolding taken_of
taken-by P zero h f g = absurd (omega arith)
taken-by P (suc n) h f g =
    by_bool (λ (b : Bool). P (cond b (2 * suc n) (2 ^ near_power (suc n)))) (eqb (rest (suc n)) 0)
    (λ e. f (eqb-true (rest (suc n)) 0 e)) (λ e. g (some (rest (suc n)) (eqb-false (rest (suc n)) 0 e)))
  where
    some : (r : ℕ) → (r ≡ 0 → ⊥) → 0 < r
    some zero h = absurd (h refl)
    some (suc r) h = omega arith

taken-power : (n : ℕ) → (k : ℕ) × (taken_of n ≡ 2 ^ k)
taken-power zero = (0, taken_none)
taken-power (suc n) =
    taken-by (λ (p : ℕ). (k : ℕ) × (p ≡ 2 ^ k)) (suc n) (omega arith)
    (λ e. (log2 (suc n) + 1, omega (arith, e, parts (suc n) (omega arith), pow-add 2 (log2 (suc n)) 1))) (λ g. (near_power (suc n), refl))

taken-some : (n : ℕ) → 0 < taken_of n
taken-some n = let (k, e) = taken-power n in omega (arith, e, pow_pos k)

taken-size : (w n : ℕ) → n < 2 ^ w → taken_of n ≤ 2 ^ w
taken-size w zero l = omega (arith, taken_none, pow_pos w)
taken-size w (suc n) l =
    let h : 0 < suc n = omega arith in
    taken-by (λ (p : ℕ). p ≤ 2 ^ w) (suc n) h (λ e. omega (arith, e, parts (suc n) h, log2-double w (suc n) h l))
    (λ g. pow_mono (near_power-below w (suc n) h l))

pub taken_twice : (n : ℕ) → 0 < n → rest n ≡ 0 → taken_of n ≡ 2 ^ (log2 n + 1)
taken_twice n h e =
    taken-by (λ (p : ℕ). p ≡ 2 ^ (log2 n + 1)) n h (λ _. omega (arith, e, parts n h, pow-add 2 (log2 n) 1)) (λ g. absurd (omega (arith, e, g)))

pub taken-near : (n : ℕ) → 0 < n → 0 < rest n → taken_of n ≡ 2 ^ near_power n
taken-near n h r = taken-by (λ (p : ℕ). p ≡ 2 ^ near_power n) n h (λ e. absurd (omega (arith, e, r))) (λ _. refl)

-- What it leaves: something, and no more than a power of two that the number does not exceed.
other : (n : ℕ) → 0 < dist n (taken_of n)
unfolding near_power
other zero = rw taken_none (omega (arith, dist-more 1 1 0 refl))
other (suc n) =
    let h : 0 < suc n = omega arith in
    let k = log2 (suc n) in
    taken-by (λ (p : ℕ). 0 < dist (suc n) p) (suc n) h (λ e. omega (arith, dist-more (2 * suc n) (suc n) (suc n) (omega arith)))
    (λ g. by_le (λ (K : ℕ). 0 < dist (suc n) (2 ^ K)) (2 ^ k) (2 * rest (suc n))
    (λ l. omega (arith, rest_lt (suc n), dist-more (2 ^ (k + 1)) (2 ^ k - rest (suc n)) (suc n) (omega (arith, parts (suc n) h, rest_lt (suc n), pow-add 2 k 1))))
    (λ l. omega (arith, g, dist-less (2 ^ k) (rest (suc n)) (suc n) (sym (parts (suc n) h)))))

short : (w n : ℕ) → 0 < w → n < 2 ^ w → dist n (taken_of n) < 2 ^ w
short w zero p l = rw taken_none (omega (arith, dist-more 1 1 0 refl, pow_mono {i = 1} {j = w} p))
short w (suc n) p l =
    omega (
      arith,
      within-dist 1 (2 ^ w - 1) (suc n) (taken_of (suc n))
          (record { above = omega (arith, taken-some (suc n)); below = omega (arith, taken-size w (suc n) l) }),
    )

-- at a power of two itself twice that is taken, and as much is left
near-short : (w n : ℕ) → 0 < w → n ≤ 2 ^ w → dist n (taken_of n) ≤ 2 ^ w
near-short w n p l =
    either_lt n (2 ^ w) (λ g. omega (arith, short w n p g))
    (λ g. rw (le_antisymm l g)
    (taken-by (λ (P : ℕ). dist (2 ^ w) P ≤ 2 ^ w) (2 ^ w) (pow_pos w) (λ e. omega (arith, dist-more (2 * 2 ^ w) (2 ^ w) (2 ^ w) (omega arith)))
    (λ r. absurd (omega (arith, power-rest w)))))

-- the same of integers
module _ (z : ℤ) where
  pub next-is : next_power z ≡ with_sign (negative z) (taken_of (nat_abs z))
  unfolding next_power
  next-is = refl

  size-next : nat_abs (next_power z) ≡ taken_of (nat_abs z)
  unfolding next_power
  size-next = size-sign (negative z) (taken_of (nat_abs z))

  size-left : nat_abs (z -ℤ next_power z) ≡ dist (nat_abs z) (taken_of (nat_abs z))
  unfolding next_power
  size-left =
      ap (λ (y : ℤ). nat_abs (y -ℤ with_sign (negative z) (taken_of (nat_abs z)))) (sym (own_sign z)) ∙ sign-dist (negative z) (nat_abs z) (taken_of (nat_abs z))

  pub power-some : 0 < nat_abs (next_power z)
  power-some = omega (arith, size-next, taken-some (nat_abs z))

  pub power_size : nat_abs z < 2 ^ 11 → nat_abs (next_power z) ≤ 2 ^ 11
  power_size l = omega (arith, size-next, taken-size 11 (nat_abs z) l)

  pub left-some : 0 < nat_abs (z -ℤ next_power z)
  left-some = omega (arith, size-left, other (nat_abs z))

  pub left-short : nat_abs z < 2 ^ 11 → nat_abs (z -ℤ next_power z) < 2 ^ 11
  left-short l = omega (arith, size-left, short 11 (nat_abs z) (omega arith) l)

  pub is-power : IsPower (next_power z)
  unfolding next_power
  is-power = let (k, e) = taken-power (nat_abs z) in (negative z, k, ap (with_sign (negative z)) e)

-- what i powers leave
pub left-zero : (z : ℤ) → left_by 0 z ≡ z
unfolding left_by
left-zero z = refl

pub left-next : (i : ℕ) (z : ℤ) → left_by (suc i) z ≡ left_by i z -ℤ next_power (left_by i z)
unfolding left_by
left-next i z = refl

pub by-short : (i : ℕ) (z : ℤ) → nat_abs z < 2 ^ 11 → nat_abs (left_by i z) < 2 ^ 11
by-short zero z l = rw (left-zero z) l
by-short (suc i) z l = rw (left-next i z) (left-short (left_by i z) (by-short i z l))

module _ (h : ℕ) (some : 0 < h) (z : ℤ) (l : nat_abs z ≤ 2 ^ h) where
  pub by_size : (i : ℕ) → nat_abs (left_by i z) ≤ 2 ^ h
  by_size zero = rw (left-zero z) l
  by_size (suc i) = rw (left-next i z) (omega (arith, size-left (left_by i z), near-short h (nat_abs (left_by i z)) some (by_size i)))

  -- the powers, and the sums of them
  pub next-size : (i : ℕ) → nat_abs (next_power (left_by i z)) ≤ 2 ^ (h + 1)
  next-size i =
      omega (arith, size-next (left_by i z), taken-size (h + 1) (nat_abs (left_by i z)) (omega (arith, by_size i, pow-add 2 h 1, pow_pos h)))

  pub sum-size : (i : ℕ) → nat_abs (z -ℤ left_by i z) ≤ 2 ^ (h + 1)
  sum-size i = omega (arith, size-add z (neg_ℤ (left_by i z)), size-neg (left_by i z), l, by_size i, pow-add 2 h 1)

-- The last power: whether what m powers leave of a number and of its opposite is one is a test that is computed for all of them.
unfoldable bare : ℤ → Bool
unfolding rest
bare z = eqb (rest (nat_abs z)) 0

unfoldable ends : ℕ → ℕ → Bool
unfolding left_by bare
ends m n = bare (left_by m (pos n)) && bare (left_by m (neg_ℤ (pos n)))

bytes-end : T (every_below (ends 3) 129)
unfolding ends
bytes-end = tt

shorts-end : T (every_below (ends 5) 2048)
unfolding ends
shorts-end = tt

bare-rest : (z : ℤ) → T (bare z) → rest (nat_abs z) ≡ 0
unfolding bare
bare-rest z t = eqb→eq (rest (nat_abs z)) 0 t

no-rest : (m N : ℕ) → T (every_below (ends m) N) → (z : ℤ) → nat_abs z < N → rest (nat_abs (left_by m z)) ≡ 0
unfolding ends
no-rest m N t z l = bare-rest (left_by m z) (go z l)
  where
    go : (z : ℤ) → nat_abs z < N → T (bare (left_by m z))
    go (pos n) l = and_l (bare (left_by m (pos n))) (bare (left_by m (neg_ℤ (pos n)))) (of-below (ends m) N n t l)
    go (negsuc n) l = and_r (bare (left_by m (pos (suc n)))) (bare (left_by m (negsuc n))) (of-below (ends m) N (suc n) t l)

lone : (z : ℤ) → 0 < nat_abs z → rest (nat_abs z) ≡ 0 → IsPower z
lone z h e =
    let size : nat_abs z ≡ 2 ^ log2 (nat_abs z) = omega (arith, e, parts (nat_abs z) h) in
    (negative z, log2 (nat_abs z), sym (own_sign z) ∙ ap (with_sign (negative z)) size)

pub byte_last : (z : ℤ) → nat_abs z ≤ 2 ^ 7 → IsPower (left_by 3 z)
byte_last z l = lone (left_by 3 z) (rw (left-next 2 z) (left-some (left_by 2 z))) (no-rest 3 129 bytes-end z (omega arith))

pub short-last : (z : ℤ) → nat_abs z < 2 ^ 11 → IsPower (left_by 5 z)
short-last z l = lone (left_by 5 z) (rw (left-next 4 z) (left-some (left_by 4 z))) (no-rest 5 2048 shorts-end z (omega arith))
