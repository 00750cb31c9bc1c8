-- Codes of the frame's numbers, by any logarithm below 16. Added to the raised pattern of a weight a code gives the sum of both patterns less
-- that of 1, as the laws of the designs have it; and a code is 0 for 0 alone, as a raised pattern is.
use Rattle.std.proofs.Common.{◌≡◌, ℕ, zero, suc, ◌+◌, ◌*◌, ◌%◌, ◌^◌, ◌<◌, ◌≤◌, Bool, true, false, List, length, get_or, ℤ, ◌*ℤ◌, nat_abs, sym, refl, ◌∙◌, arith}
use Rattle.designs.specs.Designs.{unless_zero}
use Rattle.designs.specs.Signs.{negative}
use Rattle.designs.proofs.Sizes.{size-true}
use Rattle.patterns.specs.Blocks.{place}
use Rattle.patterns.specs.Patterns.{log_pattern, masked_by, raised_by}
use Rattle.patterns.proofs.Moved.{raised_at, raised-none}
use Rattle.strips.specs.Codes.{code_by, Coded, Logs}

-- numbers that are not 0, and 0
pub none_left : (p q s : ℕ) → p ≡ 0 → 0 ≡ unless_zero p q s
none_left p q s e = rw e refl

pub none_right : (p q s : ℕ) → q ≡ 0 → 0 ≡ unless_zero p q s
none_right zero q s e = refl
none_right (suc p) q s e = rw e refl

pub some : (p q s : ℕ) → (p ≡ 0 → ⊥) → (q ≡ 0 → ⊥) → s ≡ unless_zero p q s
some zero q s hp hq = absurd (hp refl)
some (suc p) zero s hp hq = absurd (hq refl)
some (suc p) (suc q) s hp hq = refl

module _ (h : ℕ → ℕ) where
  pub code_at : (z : ℤ) → 0 < nat_abs z → code_by h z ≡ (log_pattern (negative z) (h (nat_abs z)) + 369 * 2 ^ 23) % 2 ^ 32
  unfolding code_by
  code_at z g = sym (some (nat_abs z) 1 _ (λ e. omega arith) (λ e. omega arith))

  pub code-none : (z : ℤ) → nat_abs z ≡ 0 → code_by h z ≡ 0
  unfolding code_by
  code-none z e = sym (none_left (nat_abs z) 1 _ e)

  pub raised-some : (z : ℤ) → 0 < nat_abs z → 0 < raised_by h z
  raised-some z g = rw (raised_at h z g) (go (negative z))
    where
      go : (s : Bool) → 0 < log_pattern s (h (nat_abs z) + 16 * 2 ^ 23)
      go true = omega arith
      go false = omega arith

  -- the code, read from the raised pattern
  module _ (z : ℤ) (p : ℕ) (ep : p ≡ raised_by h z) where
    pub code_is : (r : ℕ) → (p ≡ 0 → ⊥) → r < 2 ^ 32 → (r + 159 * 2 ^ 23) % 2 ^ 32 ≡ p → r ≡ code_by h z
    code_is r ne l e = go (nat_abs z) refl
      where
        down : (s : Bool) (c : ℕ) → (r + 159 * 2 ^ 23) % 2 ^ 32 ≡ log_pattern s (c + 16 * 2 ^ 23) → r ≡ (log_pattern s c + 369 * 2 ^ 23) % 2 ^ 32
        down true c e = omega arith
        down false c e = omega arith

        go : (n : ℕ) → n ≡ nat_abs z → r ≡ code_by h z
        go zero g = absurd (ne (ep ∙ raised-none h z (sym g)))
        go (suc n) g =
            let some : 0 < nat_abs z = omega (arith, g) in
            down (negative z) (h (nat_abs z)) (e ∙ ep ∙ raised_at h z some) ∙ sym (code_at z some)

    pub code-zero : p ≡ 0 → 0 ≡ code_by h z
    code-zero e = go (nat_abs z) refl
      where
        go : (n : ℕ) → n ≡ nat_abs z → 0 ≡ code_by h z
        go zero g = sym (code-none z (sym g))
        go (suc n) g = absurd (omega (arith, e, ep, raised-some z (omega (arith, g))))

  -- the sum of a raised pattern and a code
  module _ (low : (A : ℕ) → A ≤ 2 ^ 15 → h A < 16 * 2 ^ 23) {u v : ℤ} {p q : ℕ} (l : Logs h u v p q) where
    code-some : 0 < nat_abs v → 0 < code_by h v
    code-some g = rw (code_at v g) (go (negative v))
      where
        go : (s : Bool) → 0 < (log_pattern s (h (nat_abs v)) + 369 * 2 ^ 23) % 2 ^ 32
        go true = omega (arith, low (nat_abs v) l.second)
        go false = omega (arith, low (nat_abs v) l.second)

    pub sum_is : 0 < nat_abs u → 0 < nat_abs v
        → ((p + q) % 2 ^ 32 + 127 * 2 ^ 23) % 2 ^ 32 ≡ (log_pattern (negative u) (h (nat_abs u)) + log_pattern (negative v) (h (nat_abs v))) % 2 ^ 32
    sum_is hu hv = rw (l.pattern, l.code, raised_at h u hu, code_at v hv) (go (negative u) (negative v))
      where
        a : ℕ
        a = h (nat_abs u)

        b : ℕ
        b = h (nat_abs v)

        go : (s t : Bool) → ((log_pattern s (a + 16 * 2 ^ 23) + (log_pattern t b + 369 * 2 ^ 23) % 2 ^ 32) % 2 ^ 32 + 127 * 2 ^ 23) % 2 ^ 32 ≡ (log_pattern s a + log_pattern t b) % 2 ^ 32
        go true true = omega arith
        go true false = omega arith
        go false true = omega arith
        go false false = omega arith

    -- masked where one of the two is 0, which is where their product is
    pub masked : (s : ℕ) → unless_zero p q s ≡ masked_by (u *ℤ v) s
    masked s = rw (l.pattern, l.code, size-true u v) (go (nat_abs u) refl (nat_abs v) refl)
      where
        go : (m : ℕ) → m ≡ nat_abs u → (n : ℕ) → n ≡ nat_abs v → unless_zero (raised_by h u) (code_by h v) s ≡ unless_zero (nat_abs u * nat_abs v) 1 s
        go zero em n en = sym (none_left (raised_by h u) (code_by h v) s (raised-none h u (sym em))) ∙ none_left (nat_abs u * nat_abs v) 1 s (rw (sym em) (omega arith))
        go (suc m) em zero en = sym (none_right (raised_by h u) (code_by h v) s (code-none v (sym en))) ∙ none_left (nat_abs u * nat_abs v) 1 s (rw (sym en) (omega arith))
        go (suc m) em (suc n) en =
            sym (some (raised_by h u) (code_by h v) s (λ e. omega (arith, raised-some u (omega (arith, em)))) (λ e. omega (arith, code-some (omega (arith, en)))))
            ∙ some (nat_abs u * nat_abs v) 1 s (rw (sym em, sym en) (λ e. omega arith)) (λ e. omega arith)

-- the pattern of a weight, and the code of number k of a part
pub part-logs : {h : ℕ → ℕ} {w : ℤ} {part : List ℤ} {codes : List ℕ} {p : ℕ} (k : ℕ) → nat_abs w ≤ 2 ^ 15 → p ≡ raised_by h w
    → Coded (code_by h) part codes → k < length part → Logs h w (place part k) p (get_or codes k 0)
part-logs k small e coded inside = let at = coded.at k inside in record { first = small; second = at.1; pattern = e; code = at.0 }
