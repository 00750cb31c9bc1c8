-- Products with signed powers of two, added up. The raised pattern of a number and the code of a power add up to the pattern of their product,
-- which is whole; and the sums over the powers of a number, one after the other, are the products with what these powers make, so that all stay
-- below 2^24 and no float is rounded.
use Rattle.std.proofs.Common.{◌≡◌, ℕ, suc, ◌+◌, ◌*◌, ◌%◌, ◌^◌, ◌<◌, ◌≤◌, Bool, true, false, not, ◌&&◌, T, ℤ, ◌+ℤ◌, ◌-ℤ◌, ◌*ℤ◌, neg_ℤ, nat_abs, sym, ap, ◌∙◌, subst, ap₂, le_trans, mul-le-mul_right, mul-le-mul_left, arith, pow_pos, pow_mono, pow-add, to_z-of_z, w32, to_z, of_z}
use lib.Ieee.{Float, add, binary32, binary64, fits, in_signed, is_nan, nan_bits, of_bits, of_int, to_signed, unlike}
use lib.Ieee.Bits.{nan_bits_is}
use lib.Ieee.Casts.{to_signed_in}
use lib.Ieee.Fits.{and_i, of_int-fits}
use lib.IntN.{+ℤ_assoc, +ℤ_idl, +ℤ_invr, neg_ℤ-+ℤ, neg_ℤ-neg_ℤ, -ℤ-+ℤ_cancel}
use Rattle.designs.specs.Codes.{code}
use Rattle.designs.specs.Signs.{negative}
use Rattle.designs.proofs.Cases.{either-le}
use Rattle.designs.proofs.Codes.{code_lt, code-scaled, scaled-higher}
use Rattle.designs.proofs.Differences.{mul-sum}
use Rattle.designs.proofs.Sizes.{size-sign, size-true, true-is}
use Rattle.patterns.specs.Patterns.{log_pattern, raised_of, Stands}
use Rattle.patterns.proofs.ExponentField.{power-code}
use Rattle.patterns.proofs.Moved.{raised_at}
use Rattle.patterns.proofs.Values.{cast-back, int-no-nan, stands, stands-no-nan}
use Rattle.patterns.proofs.WholeSums.{sum-whole}
use Rattle.strips.specs.Codes.{code_of}
use Rattle.strips.proofs.FrameCodes.{code_at}
use Rattle.many_stages.specs.Powers.{left_by, next_power}
use Rattle.many_stages.specs.Strips.{Four, Six}
use Rattle.many_stages.proofs.NextPowers.{by_size, is-power, IsPower, left-next, left-zero, next-size, sum-size}

-- the pattern with the sum of both logarithms
joined : (s t : Bool) (a b : ℕ) → a + b < 2 ^ 30
    → (log_pattern s (a + 16 * 2 ^ 23) + (log_pattern t b + 369 * 2 ^ 23) % 2 ^ 32) % 2 ^ 32 ≡ log_pattern (unlike s t) (a + b)
joined true true a b l = omega arith
joined true false a b l = omega arith
joined false true a b l = omega arith
joined false false a b l = omega arith

pub term : (w d : ℤ) → 0 < nat_abs w → nat_abs w < 2 ^ 17 → IsPower d → nat_abs w * nat_abs d ≤ 2 ^ 24 → Stands ((raised_of w + code_of d) % 2 ^ 32) (w *ℤ d)
term w d some few (t, k, e) l =
    rw (raised_at (code 23) w some, code_at (code 23) d there, coded, joined (negative w) (negative d) (code 23 A) (k * 2 ^ 23) small, true-is w d, size)
    (stands (unlike (negative w) (negative d)) (code 23 A + k * 2 ^ 23) (A * 2 ^ k) small
    (scaled-higher 23 k (code 23 A) ∙ omega (arith, ap (λ (n : ℕ). n * 2 ^ k) (code-scaled 23 A some (omega (arith, few))))) (omega (arith, below)))
  where
    A : ℕ
    A = nat_abs w

    size : nat_abs d ≡ 2 ^ k
    size = ap nat_abs e ∙ size-sign t (2 ^ k)

    below : A * 2 ^ k ≤ 2 ^ 24
    below = subst (λ (n : ℕ). A * n ≤ 2 ^ 24) size l

    there : 0 < nat_abs d
    there = omega (arith, size, pow_pos k)

    low : k ≤ 24
    low = either-le k 24 (λ g. g) (λ g. absurd (omega (arith, pow_mono {i = 25} {j = k} g, below, mul-le-mul_right (2 ^ k) some)))

    small : code 23 A + k * 2 ^ 23 < 2 ^ 30
    small = omega (arith, low, code_lt 23 A (omega (arith, few)))

    coded : code 23 (nat_abs d) ≡ k * 2 ^ 23
    coded = ap (code 23) size ∙ power-code k

-- a power more, and so much less is left
farther : (z y p : ℤ) → z -ℤ y +ℤ p ≡ z -ℤ (y -ℤ p)
farther z y p =
    +ℤ_assoc z (neg_ℤ y) p ∙ ap (λ (x : ℤ). z +ℤ x) (sym (neg_ℤ-+ℤ y (neg_ℤ p) ∙ ap (λ (x : ℤ). neg_ℤ y +ℤ x) (neg_ℤ-neg_ℤ p)))

-- z is the sum of signed powers of at most 2^(h + 1), and w has room for products with them
pub record Roomy (h : ℕ) (w z : ℤ) : Type 0 where
  pub high : 0 < h
  pub some : 0 < nat_abs w
  pub few : nat_abs w < 2 ^ 17
  pub size : nat_abs z ≤ 2 ^ h
  pub room : nat_abs w * 2 ^ (h + 1) ≤ 2 ^ 24

module _ {h : ℕ} {w z : ℤ} (r : Roomy h w z) where
  bounded : (d : ℤ) → nat_abs d ≤ 2 ^ (h + 1) → nat_abs (w *ℤ d) ≤ 2 ^ 24
  bounded d g = rw (size-true w d) (le_trans (mul-le-mul_left (nat_abs w) g) r.room)

  power-bound : (i : ℕ) → nat_abs (next_power (left_by i z)) ≤ 2 ^ (h + 1)
  power-bound i = next-size h r.high z r.size i

  sum_bound : (i : ℕ) → nat_abs (z -ℤ left_by i z) ≤ 2 ^ (h + 1)
  sum_bound i = sum-size h r.high z r.size i

  left-bound : (m : ℕ) → nat_abs (left_by m z) ≤ 2 ^ (h + 1)
  left-bound m = omega (arith, by_size h r.high z r.size m, pow-add 2 h 1)

  all-bound : nat_abs (w *ℤ z) ≤ 2 ^ 24
  all-bound = bounded z (omega (arith, r.size, pow-add 2 h 1))

  pub all_small : nat_abs (w *ℤ z) < 2 ^ 31
  all_small = omega (arith, all-bound)

  -- the product with one power, and with what all the others leave
  with-power : {p a q : ℕ} (d : ℤ) → IsPower d → nat_abs d ≤ 2 ^ (h + 1) → p ≡ raised_of w → a ≡ code_of d → q ≡ (p + a) % 2 ^ 32 → Stands q (w *ℤ d)
  with-power d is g ep ea eq = rw (eq, ep, ea) (term w d r.some r.few is (le_trans (mul-le-mul_left (nat_abs w) g) r.room))

  pub with-next : {p a q : ℕ} (i : ℕ) → p ≡ raised_of w → a ≡ code_of (next_power (left_by i z)) → q ≡ (p + a) % 2 ^ 32 → Stands q (w *ℤ next_power (left_by i z))
  with-next i = with-power (next_power (left_by i z)) (is-power (left_by i z)) (power-bound i)

  pub with-last : {p a q : ℕ} (m : ℕ) → IsPower (left_by m z) → p ≡ raised_of w → a ≡ code_of (left_by m z) → q ≡ (p + a) % 2 ^ 32 → Stands q (w *ℤ left_by m z)
  with-last m is = with-power (left_by m z) is (left-bound m)

  -- x is the float of w times the sum of the first i powers
  abbrev Sum : ℕ → Float → Type 0
  Sum i x = x ≡ of_int binary64 (w *ℤ (z -ℤ left_by i z))

  pub first-sum : {q : ℕ} → Stands q (w *ℤ next_power (left_by 0 z)) → Sum 1 (of_bits binary32 q)
  first-sum s = s.float ∙ ap (λ (d : ℤ). of_int binary64 (w *ℤ d)) (sym start)
    where
      start : z -ℤ left_by 1 z ≡ next_power (left_by 0 z)
      start =
          ap (λ (y : ℤ). z -ℤ y) (left-next 0 z ∙ ap (λ (y : ℤ). y -ℤ next_power (left_by 0 z)) (left-zero z)) ∙ sym (farther z z (next_power (left_by 0 z)))
          ∙ ap (λ (y : ℤ). y +ℤ next_power (left_by 0 z)) (+ℤ_invr z) ∙ +ℤ_idl (next_power (left_by 0 z))

  pub next-sum : (i : ℕ) {x : Float} {q : ℕ} → Sum i x → Stands q (w *ℤ next_power (left_by i z)) → Sum (suc i) (add binary32 x (of_bits binary32 q))
  next-sum i e s =
      ap₂ (add binary32) e s.float
      ∙ sum-whole (w *ℤ (z -ℤ left_by i z)) (w *ℤ next_power (left_by i z)) (bounded _ (sum_bound i)) (bounded _ (power-bound i)) (rw more (bounded _ (sum_bound (suc i))))
      ∙ ap (of_int binary64) more
    where
      more : w *ℤ (z -ℤ left_by i z) +ℤ w *ℤ next_power (left_by i z) ≡ w *ℤ (z -ℤ left_by (suc i) z)
      more =
          sym (mul-sum w (z -ℤ left_by i z) (next_power (left_by i z)))
          ∙ ap (λ (d : ℤ). w *ℤ d) (farther z (left_by i z) (next_power (left_by i z)) ∙ ap (λ (y : ℤ). z -ℤ y) (sym (left-next i z)))

  pub all-sum : (m : ℕ) {x : Float} {q : ℕ} → Sum m x → Stands q (w *ℤ left_by m z) → add binary32 x (of_bits binary32 q) ≡ of_int binary64 (w *ℤ z)
  all-sum m e s =
      ap₂ (add binary32) e s.float
      ∙ sum-whole (w *ℤ (z -ℤ left_by m z)) (w *ℤ left_by m z) (bounded _ (sum_bound m)) (bounded _ (left-bound m)) (rw all all-bound)
      ∙ ap (of_int binary64) all
    where
      all : w *ℤ (z -ℤ left_by m z) +ℤ w *ℤ left_by m z ≡ w *ℤ z
      all = sym (mul-sum w (z -ℤ left_by m z) (left_by m z)) ∙ ap (λ (d : ℤ). w *ℤ d) (-ℤ-+ℤ_cancel z (left_by m z))

pub four-room : {w z : ℤ} {p a b c d : ℕ} → Four w z p a b c d → Roomy 7 w z
four-room f = record { high = omega arith; some = f.some; few = omega (arith, f.small); size = f.byte; room = omega (arith, f.small) }

pub six-room : {w z : ℤ} {p a b c d e f : ℕ} → Six w z p a b c d e f → Roomy 11 w z
six-room s = record { high = omega arith; some = s.some; few = omega (arith, s.small); size = omega (arith, s.short); room = omega (arith, s.small) }

-- a pattern that is no NaN, and a float of a whole number, cast to an i32
pub no_nan : {p : ℕ} {z : ℤ} → Stands p z → T (not (nan_bits binary32 p))
no_nan {p} s = rw (nan_bits_is binary32 p) (stands-no-nan s)

module _ {x : Float} (y : ℤ) (e : x ≡ of_int binary64 y) (l : nat_abs y < 2 ^ 31) where
  pub widens : T (fits binary64 x && not (is_nan x))
  widens = rw e (and_i (fits binary64 (of_int binary64 y)) (not (is_nan (of_int binary64 y))) (of_int-fits binary64 y) (int-no-nan binary64 y (omega (arith, l))))

  pub casts : T (in_signed binary64 31 x)
  casts = rw e (cast-back y l).0

  pub cast_is : to_z w32 (of_z w32 (to_signed 31 x)) ≡ y
  cast_is = to_z-of_z {w = w32} (record { sfits = to_signed_in 31 x }) ∙ ap (to_signed 31) e ∙ (cast-back y l).1
