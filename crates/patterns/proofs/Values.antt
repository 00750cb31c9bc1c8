-- The number that a pattern with a logarithm stands for. Its fields are those of the logarithm, so it has the value that `formats` gives
-- such fields; and a float of a format with a whole value is the float of that number, read either way.
use Rattle.std.proofs.Common.{◌≡◌, ℕ, zero, suc, ◌+◌, ◌*◌, ◌/◌, ◌%◌, ◌^◌, ◌<◌, ◌≤◌, Bool, true, false, not, T, ℤ, pos, negsuc, nat_abs, sym, refl, ap, ◌∙◌, subst, mul-pos, arith, le→leb, lt→ltb, pow_pos, pow-add}
use lib.Signed.{mag}
use lib.Ieee.{Float, Format, binary32, binary64, fin, inf, nan, fits, in_float, in_signed, is_nan, of_bits, of_int, prec, to_bits, to_signed}
use lib.Ieee.Back.{negative_back, positive_back, round_whole, whole_unique}
use lib.Ieee.Bits.{of_bits-fits}
use lib.Ieee.Exact.{HasValue}
use lib.Ieee.Fits.{fits_widens, of_int-fits}
use Rattle.designs.specs.Codes.{code, scaled_product}
use Rattle.designs.specs.Signs.{negative, with_sign}
use Rattle.designs.proofs.Codes.{code_lt, code-scaled}
use Rattle.designs.proofs.Sizes.{size-sign}
use Rattle.formats.specs.Formats as Formats
use Rattle.formats.proofs.Values.{bits_back, whole-value}
use Rattle.patterns.specs.Patterns.{log_pattern, pattern_of, Stands}

-- the float of a whole number that the format counts
pub int-value : (f : Format) (z : ℤ) → nat_abs z ≤ 2 ^ prec f → HasValue (of_int f z) (negative z) (nat_abs z) 1
unfolding of_int
int-value f (pos n) l = round_whole f false n l
int-value f (negsuc n) l = round_whole f true (suc n) l

signed-value : (f : Format) (s : Bool) (n : ℕ) → 0 < n → n ≤ 2 ^ prec f → HasValue (of_int f (with_sign s n)) s n 1
signed-value f false n p l = int-value f (pos n) l
signed-value f true zero p l = absurd (omega arith)
signed-value f true (suc n) p l = int-value f (negsuc n) l

valued : (x : Float) (s : Bool) (a c : ℕ) → HasValue x s a c → T (not (is_nan x))
unfolding is_nan
valued (fin t m e) s a c v = tt
valued nan s a c v = elim v [ ]
valued (inf t) s a c v = elim v [ ]

pub int-no-nan : (f : Format) (z : ℤ) → nat_abs z ≤ 2 ^ prec f → T (not (is_nan (of_int f z)))
int-no-nan f z l = valued (of_int f z) (negative z) (nat_abs z) 1 (int-value f z l)

-- what a float of 53 bits casts back to
pub cast-in : (z : ℤ) → mag z < 2 ^ 31 → T (in_signed binary64 31 (of_int binary64 z)) × (to_signed 31 (of_int binary64 z) ≡ z)
unfolding in_float
cast-in (pos n) l = positive_back binary64 31 n (le→leb n (2 ^ 53) (omega arith)) l
cast-in (negsuc n) l = negative_back binary64 31 n (lt→ltb n (2 ^ 53) (omega arith)) (omega arith)

pub cast-back : (z : ℤ) → nat_abs z < 2 ^ 31 → T (in_signed binary64 31 (of_int binary64 z)) × (to_signed 31 (of_int binary64 z) ≡ z)
cast-back (pos n) l = cast-in (pos n) l
cast-back (negsuc n) l = cast-in (negsuc n) (omega arith)

pub in-float : (z : ℤ) → nat_abs z ≤ 2 ^ 15 → T (in_float binary32 z)
unfolding in_float
in-float (pos n) l = le→leb n (2 ^ 24) (omega arith)
in-float (negsuc n) l = lt→ltb n (2 ^ 24) (omega arith)

scaled-pos : (c : ℕ) → 0 < scaled_product 23 c
unfolding scaled_product
scaled-pos c = mul-pos (omega arith) (pow_pos (c / 2 ^ 23))

-- c is the logarithm of n
module _ (s : Bool) (c n : ℕ) (h : c < 2 ^ 30) (e : scaled_product 23 c ≡ 2 ^ 23 * n) where
  fields : log_pattern s c ≡ Formats.pattern Formats.binary32 s (127 + c / 2 ^ 23) (c % 2 ^ 23)
  fields = go s
    where
      go : (s : Bool) → log_pattern s c ≡ Formats.pattern Formats.binary32 s (127 + c / 2 ^ 23) (c % 2 ^ 23)
      go true = omega arith
      go false = omega arith

  units : (2 ^ 23 + c % 2 ^ 23) * 2 ^ (127 + c / 2 ^ 23) ≡ n * 2 ^ 150
  unfolding scaled_product
  units = rw (pow-add 2 127 (c / 2 ^ 23)) (regroup (2 ^ 23 + c % 2 ^ 23) (2 ^ 127) (2 ^ (c / 2 ^ 23)) (2 ^ 23) n e)
    where
      regroup : (m a b H n : ℕ) → m * b ≡ H * n → m * (a * b) ≡ n * (a * H)
      regroup m a b H n e = omega (arith, ap (λ (z : ℕ). z * a) e)

  value : HasValue (of_bits binary32 (log_pattern s c)) s n 1
  value = rw fields (whole-value s (127 + c / 2 ^ 23) (c % 2 ^ 23) n (omega arith) (omega arith) (omega arith) units)

  positive : 0 < n
  positive = omega (arith, scaled-pos c, e)

  is-float : (f : Format) → n ≤ 2 ^ prec f → T (fits f (of_bits binary32 (log_pattern s c))) → of_bits binary32 (log_pattern s c) ≡ of_int f (with_sign s n)
  is-float f l t = whole_unique f (of_bits binary32 (log_pattern s c)) (of_int f (with_sign s n)) s n t (of_int-fits f (with_sign s n)) value (signed-value f s n positive l)

  is_wide : n ≤ 2 ^ 53 → of_bits binary32 (log_pattern s c) ≡ of_int binary64 (with_sign s n)
  is_wide l = is-float binary64 l (fits_widens (of_bits binary32 (log_pattern s c)) (of_bits-fits binary32 (log_pattern s c)))

  pub stands : n < 2 ^ 31 → Stands (log_pattern s c) (with_sign s n)
  stands l = record { float = is_wide (omega arith); small = rw (size-sign s n) l }

  back : to_bits binary32 (of_bits binary32 (log_pattern s c)) ≡ log_pattern s c
  back = rw fields (bits_back s (127 + c / 2 ^ 23) (c % 2 ^ 23) (omega arith) (omega arith))

  bits_are : n ≤ 2 ^ 24 → to_bits binary32 (of_int binary32 (with_sign s n)) ≡ log_pattern s c
  bits_are l = ap (to_bits binary32) (sym (is-float binary32 l (of_bits-fits binary32 (log_pattern s c)))) ∙ back

  -- the same by way of a binary64, which narrows to a binary32 and loses nothing
  pub narrow_bits : n ≤ 2 ^ 53 → T (fits binary32 (of_int binary64 (with_sign s n))) × (to_bits binary32 (of_int binary64 (with_sign s n)) ≡ log_pattern s c)
  narrow_bits l =
      (subst (λ (x : Float). T (fits binary32 x)) (is_wide l) (of_bits-fits binary32 (log_pattern s c)), ap (to_bits binary32) (sym (is_wide l)) ∙ back)

pub stands-no-nan : {p : ℕ} {z : ℤ} → Stands p z → T (not (is_nan (of_bits binary32 p)))
stands-no-nan {p} {z} s = rw s.float (int-no-nan binary64 z (omega (arith, s.small)))

-- 0 stands for 0
pub nothing : Stands 0 (pos 0)
unfolding of_bits of_int
nothing = record { float = refl; small = omega arith }

zero_bits : to_bits binary32 (of_int binary32 (pos 0)) ≡ 0
unfolding to_bits of_int
zero_bits = refl

-- the pattern of a small integer has the integer's code
pub bits_of : (x : ℤ) → nat_abs x ≤ 2 ^ 15 → to_bits binary32 (of_int binary32 x) ≡ pattern_of x
unfolding pattern_of
bits_of (pos zero) l = zero_bits
bits_of (pos (suc n)) l = bits_are false (code 23 (suc n)) (suc n) (omega (arith, code_lt 23 (suc n) (omega arith))) (code-scaled 23 (suc n) (omega arith) (omega arith)) (omega arith)
bits_of (negsuc n) l = bits_are true (code 23 (suc n)) (suc n) (omega (arith, code_lt 23 (suc n) (omega arith))) (code-scaled 23 (suc n) (omega arith) (omega arith)) (omega arith)
