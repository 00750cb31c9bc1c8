-- The pattern of x × 2^16. It has 16 more in its exponent field than that of x, and no more digits, so that a binary32 holds the number.
--
use Rattle.std.proofs.Common.{◌≡◌, ℕ, zero, suc, ◌+◌, ◌*◌, ◌%◌, ◌^◌, ◌<◌, ◌≤◌, Bool, true, false, T, ℤ, pos, negsuc, ◌*ℤ◌, neg_ℤ, nat_abs, sym, refl, ap, ◌∙◌, arith, to_z-of_z, w16, SFits, to_z, of_z}
use lib.Ieee.{binary32, binary64, fits, of_int, to_bits}
use lib.Signed.{mag}
use Rattle.designs.specs.Codes.{code}
use Rattle.designs.specs.Signs.{negative, with_sign}
use Rattle.designs.proofs.Codes.{code_lt, code-scaled, scaled-higher}
use Rattle.patterns.specs.Patterns.{log_pattern, pattern_of, raised_by, raised_of}
use Rattle.patterns.proofs.Pair.{pattern-at}
use Rattle.patterns.proofs.Values.{narrow_bits}

abbrev pub moved : ℤ → ℤ
moved x = x *ℤ pos 65536

pub moved-is : (x : ℤ) → moved x ≡ with_sign (negative x) (nat_abs x * 65536)
moved-is (pos n) = refl
moved-is (negsuc n) = refl

pub moved-mag : (x : ℤ) → mag x < 2 ^ 15 → mag (moved x) < 2 ^ 31
moved-mag (pos n) h = omega arith
moved-mag (negsuc n) h = below (suc n * 65536) (omega arith)
  where
    below : (m : ℕ) → m ≤ 2 ^ 31 → mag (neg_ℤ (pos m)) < 2 ^ 31
    below zero l = omega arith
    below (suc m) l = omega arith

-- as a binary32, and its pattern
some : (x : ℤ) → 0 < nat_abs x → nat_abs x < 2 ^ 24
    → T (fits binary32 (of_int binary64 (moved x))) × (to_bits binary32 (of_int binary64 (moved x)) ≡ log_pattern (negative x) (code 23 (nat_abs x) + 16 * 2 ^ 23))
some x h l =
    let A = nat_abs x in
    rw (moved-is x)
    (narrow_bits (negative x) (code 23 A + 16 * 2 ^ 23) (A * 65536) (omega (arith, code_lt 23 A (omega arith)))
    (scaled-higher 23 16 (code 23 A) ∙ omega (arith, ap (λ (n : ℕ). n * 65536) (code-scaled 23 A h (omega arith)))) (omega arith))

pub moved-fits : (x : ℤ) → nat_abs x < 2 ^ 24 → T (fits binary32 (of_int binary64 (moved x)))
unfolding fits of_int
moved-fits (pos zero) l = tt
moved-fits (pos (suc n)) l = (some (pos (suc n)) (omega arith) l).0
moved-fits (negsuc n) l = (some (negsuc n) (omega arith) l).0

none : to_bits binary32 (of_int binary64 (pos 0)) ≡ 0
unfolding to_bits of_int
none = refl

pub moved-bits : (x : ℤ) → nat_abs x < 2 ^ 24 → to_bits binary32 (of_int binary64 (moved x)) ≡ raised_of x
unfolding raised_by
moved-bits (pos zero) l = none
moved-bits (pos (suc n)) l = (some (pos (suc n)) (omega arith) l).1
moved-bits (negsuc n) l = (some (negsuc n) (omega arith) l).1

pub raised_at : (h : ℕ → ℕ) (x : ℤ) → 0 < nat_abs x → raised_by h x ≡ log_pattern (negative x) (h (nat_abs x) + 16 * 2 ^ 23)
unfolding raised_by
raised_at h (pos zero) p = absurd (omega arith)
raised_at h (pos (suc n)) p = refl
raised_at h (negsuc n) p = refl

pub raised-none : (h : ℕ → ℕ) (x : ℤ) → nat_abs x ≡ 0 → raised_by h x ≡ 0
unfolding raised_by
raised-none h (pos zero) e = refl
raised-none h (pos (suc n)) e = absurd (omega arith)
raised-none h (negsuc n) e = absurd (omega arith)

-- the pattern of x, read from that of x × 2^16
pub moved_down : (x : ℤ) (r : ℕ) → 0 < nat_abs x → r < 2 ^ 32 → (r + 16 * 2 ^ 23) % 2 ^ 32 ≡ raised_of x → r ≡ pattern_of x
moved_down x r h small e = down (negative x) (code 23 (nat_abs x)) (e ∙ raised_at (code 23) x h) ∙ sym (pattern-at x h)
  where
    down : (s : Bool) (c : ℕ) → (r + 16 * 2 ^ 23) % 2 ^ 32 ≡ log_pattern s (c + 16 * 2 ^ 23) → r ≡ log_pattern s c
    down true c e = omega arith
    down false c e = omega arith

-- a callee's pattern of a 16-bit number
pub read-pattern : {x : ℤ} {r : ℕ} → SFits w16 x → (0 < nat_abs (to_z w16 (of_z w16 x)) → r ≡ pattern_of (to_z w16 (of_z w16 x))) → 0 < nat_abs x → r ≡ pattern_of x
read-pattern h e = rw (to_z-of_z h) at e
