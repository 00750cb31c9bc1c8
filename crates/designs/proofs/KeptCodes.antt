-- Design 4 by codes with t kept bits. Their sum has the two cases of the design before its carry: with 1 at the last kept bit it is the
-- code of the product where that is whole, which is where the quotient reaches t; below, nothing was cut, and the carry is less than
-- what is rounded down, so the sum alone is the code of the product. Raised by t, it is whole with the carry everywhere.
use mathlib.Core.Path.{◌≡◌, sym, ap, ap₂, ◌∙◌}
use Prim.Native.Nat.{ℕ, suc, ◌+◌, ◌-◌, ◌*◌, ◌/◌, ◌^◌, ◌≤◌, ◌<◌}
use native.Mathlib.Nat.{eq_of_mul-eq-mul_right, mul_comm, mul-div_cancel, mul-le-mul_right}
use native.Mathlib.Omega.{arith}
use borrow.Author.Tests.{le-ltb, lt-ltb}
use mathlib.Core.Bool.{cond}
use lib.Arith.{digits_div}
use lib.Dec.{ltb}
use lib.Pow.{pow-add, pow-lt, pow_pos}
use Rattle.designs.specs.Codes.{code, kept_code, scaled_product}
use Rattle.designs.specs.Designs.{by_mitchell, by_truncation, kept, log2, rest, total}
use Rattle.designs.proofs.Carried.{carried, carried-scale}
use Rattle.designs.proofs.Cases.{by-lt, either_lt}
use Rattle.designs.proofs.Codes.{scaled, scaled-carried}
use Rattle.designs.proofs.Parts.{up_to}
use Rattle.designs.proofs.Truncated.{total-lt, truncation-at}

-- where the leading power is at most 2^t, nothing is cut
whole_code : (h t A : ℕ) → t ≤ h → log2 A ≤ t → kept_code h t A ≡ code h A
unfolding kept_code code kept
whole_code h t A ht hk =
    ap (λ (f : ℕ). 2 ^ h * log2 A + f)
    (ap (λ (x : ℕ). x / 2 ^ log2 A * 2 ^ (h - t)) (omega (arith, ap (λ (x : ℕ). rest A * x) (up_to t (log2 A) hk)))
    ∙ ap (λ (x : ℕ). x * 2 ^ (h - t)) (mul-div_cancel (rest A * 2 ^ (t - log2 A)) (pow_pos (log2 A)))
    ∙ omega (arith, ap (λ (x : ℕ). rest A * x) split))
  where
    split : 2 ^ (h - log2 A) ≡ 2 ^ (t - log2 A) * 2 ^ (h - t)
    split = ap (λ (x : ℕ). 2 ^ x) (omega arith) ∙ pow-add 2 (t - log2 A) (h - t)

module _ (h t A B : ℕ) (ht : t ≤ h) (ha : A < 2 ^ suc h) (hb : B < 2 ^ suc h) where
  abbrev e : ℕ
  e = log2 A + log2 B

  abbrev P : ℕ
  P = 2 ^ (h - t)

  -- both fractions, without the carry
  abbrev u : ℕ
  u = kept t A + kept t B

  abbrev c : ℕ
  c = kept_code h t A + kept_code h t B

  scale : 2 ^ h ≡ P * 2 ^ t
  scale = up_to h t ht

  sum_is : c ≡ e * 2 ^ h + u * P
  unfolding kept_code
  sum_is = omega arith

  -- what a sum of fractions stands for, above any quotient
  raised : (q v : ℕ) → v < 2 * 2 ^ t → scaled_product h (q * 2 ^ h + v * P) ≡ P * (2 ^ q * carried (2 ^ t) v)
  raised q v l =
      scaled-carried h q (v * P) (omega (arith, scale, mul-le-mul_right P l, pow_pos (h - t)))
      ∙ ap (λ (x : ℕ). 2 ^ q * x) (ap₂ carried scale (mul_comm v P) ∙ sym (carried-scale P (2 ^ t) v (pow_pos (h - t)))) ∙ omega arith

  abbrev N : ℕ
  N = 2 ^ e * carried (2 ^ t) (total t A B)

  -- where the quotient reaches t
  divided : (q : ℕ) → N ≡ q * 2 ^ t → P * N ≡ 2 ^ h * by_truncation t A B
  divided q g =
      ap (λ (x : ℕ). P * x) g ∙ omega (arith, ap (λ (x : ℕ). q * x) scale)
      ∙ sym (ap (λ (x : ℕ). 2 ^ h * x) (truncation-at t A B ∙ ap (λ (x : ℕ). x / 2 ^ t) g ∙ mul-div_cancel q (pow_pos t)))

  with-carry : t * 2 ^ h ≤ c → scaled_product h (c + P) ≡ 2 ^ h * by_truncation t A B
  with-carry g =
      ap (scaled_product h) (omega (arith, sum_is)) ∙ raised e (total t A B) (total-lt t A B)
      ∙ either_lt u (2 ^ t)
      (λ l. divided (2 ^ (e - t) * carried (2 ^ t) (total t A B))
      (omega (arith, ap (λ (x : ℕ). x * carried (2 ^ t) (total t A B)) (up_to e t (reach e (omega (arith, scale, sum_is, mul-le-mul_right P l, pow_pos (h - t))))))))
      (λ l. divided (2 ^ (e + 1 - t) * total t A B)
      (simp (le-ltb (total t A B) (2 ^ t) (omega arith))
      (omega (
        arith,
        pow-add 2 e 1,
        ap (λ (x : ℕ). x * total t A B) (up_to (e + 1) t (reach (e + 1) (omega (arith, scale, sum_is, mul-le-mul_right P (total-lt t A B), pow_pos (h - t))))),
        ap (λ (x : ℕ). x * total t A B) (pow-add 2 e 1),
      ))))
    where
      reach : (k : ℕ) → c < (k + 1) * 2 ^ h → t ≤ k
      reach k l = either_lt k t (λ m. absurd (omega (arith, mul-le-mul_right (2 ^ h) m))) (λ m. m)

  -- where it does not
  without-carry : c < t * 2 ^ h → scaled_product h c ≡ 2 ^ h * by_truncation t A B
  without-carry g =
      exact
      ∙ ap (λ (x : ℕ). 2 ^ h * x)
      (sym (truncation-at t A B ∙ either_lt u (2 ^ t)
      (λ l. ap (λ (x : ℕ). x / 2 ^ t) (omega (arith, whole, step l)) ∙ digits_div (by_mitchell A B) (pow-lt (below e (omega (arith, sum_is)))))
      (λ l. ap (λ (x : ℕ). x / 2 ^ t) (omega (arith, whole, pow-add 2 e 1, leap l))
      ∙ digits_div (by_mitchell A B) (pow-lt (below (e + 1) (omega (arith, scale, sum_is, mul-le-mul_right P l)))))))
    where
      below : (k : ℕ) → k * 2 ^ h ≤ c → k < t
      below k l = either_lt k t (λ m. m) (λ m. absurd (omega (arith, mul-le-mul_right (2 ^ h) m)))

      few : e < t
      few = below e (omega (arith, sum_is))

      exact : scaled_product h c ≡ 2 ^ h * by_mitchell A B
      exact = rw (whole_code h t A ht (omega (arith, few)), whole_code h t B ht (omega (arith, few))) (scaled h A B ha hb)

      whole : 2 ^ e * carried (2 ^ t) u ≡ by_mitchell A B * 2 ^ t
      whole =
          eq_of_mul-eq-mul_right P (pow_pos (h - t)) (2 ^ e * carried (2 ^ t) u) (by_mitchell A B * 2 ^ t)
          (omega (arith, ap (λ (x : ℕ). x * by_mitchell A B) scale, sym (ap (scaled_product h) sum_is ∙ raised e u (omega (arith, total-lt t A B))) ∙ exact))

      step : u < 2 ^ t → N ≡ 2 ^ e * carried (2 ^ t) u + 2 ^ e
      step l = simp (lt-ltb u (2 ^ t) l) (by-lt (λ (x : ℕ). 2 ^ e * x ≡ 2 ^ e * (2 ^ t + u) + 2 ^ e) (total t A B) (2 ^ t) (λ m. omega arith) (λ m. omega (arith, ap (λ (x : ℕ). 2 ^ e * x) (same m))))
        where
          same : 2 ^ t ≤ total t A B → total t A B ≡ 2 ^ t
          same m = omega arith

      leap : 2 ^ t ≤ u → N ≡ 2 ^ e * carried (2 ^ t) u + 2 * 2 ^ e
      leap l = simp (le-ltb u (2 ^ t) l, le-ltb (total t A B) (2 ^ t) (omega arith)) (omega arith)

  pub kept-scaled : scaled_product h (c + cond (ltb c (t * 2 ^ h)) 0 P) ≡ 2 ^ h * by_truncation t A B
  kept-scaled =
      by-lt (λ (x : ℕ). scaled_product h (c + x) ≡ 2 ^ h * by_truncation t A B) c (t * 2 ^ h)
      (λ l. ap (scaled_product h) (omega arith) ∙ without-carry l) with-carry

  -- t places higher it is whole in every case, and what the design rounds down
  pub kept-raised : scaled_product h (c + P + t * 2 ^ h) ≡ 2 ^ h * N
  kept-raised =
      ap (scaled_product h) (omega (arith, sum_is)) ∙ raised (e + t) (total t A B) (total-lt t A B)
      ∙ rw (pow-add 2 e t) (omega (arith, ap (λ (x : ℕ). x * N) scale))
