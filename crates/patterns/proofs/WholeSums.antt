-- Sums and differences of floats of whole numbers. Each is the sum of the numbers, rounded; and a number of at most 24 bits, or 2^24, times a
-- power of two is a binary32, so that nothing is rounded off.
use Rattle.std.proofs.Common.{◌≡◌, ℕ, zero, suc, ◌+◌, ◌-◌, ◌*◌, ◌^◌, ◌<◌, ◌≤◌, Bool, true, false, cond, not, ◌&&◌, ltb, ℤ, pos, negsuc, ◌+ℤ◌, ◌-ℤ◌, ◌*ℤ◌, neg_ℤ, nat_abs, sym, refl, ap, ◌∙◌, subst, ap₂, le_trans, le_of_eq, mul-le-mul_right, add-mul, mul-le-mul, le_antisymm, mul-pos, zero-mul, arith, pow_pos, pow_mono, pow-add, le-ltb, lt-ltb}
use lib.Ieee.{add, binary32, binary64, down, fin, inf, nan, Float, Format, neg, of_int, round, sub, sum, up}
use lib.Ieee.Back.{whole_unique}
use lib.Ieee.Exact.{HasValue, round_exact}
use lib.Ieee.Fits.{down_pos, fits_widens, of_int-fits}
use lib.Ieee.Scale.{round_same}
use lib.IntN.{*ℤ_comm, *ℤ-one, neg_ℤ-neg_ℤ, one}
use Rattle.designs.specs.Signs.{negative, with_sign}
use Rattle.designs.proofs.Cases.{either_lt}
use Rattle.designs.proofs.Differences.{mul-sum}
use Rattle.designs.proofs.SignedGaps.{own_sign}
use Rattle.designs.proofs.Sizes.{size-true}
use Rattle.patterns.proofs.Values.{int-value}

-- a sum of fractions is that of whole numbers where both are whole
whole_sum : (f : Format) (s t : Bool) (a b c : ℕ) → 0 < c → sum f s (a * c) t (b * c) c ≡ sum f s a t b 1
unfolding sum
whole_sum f s t a b c some = go s t
  where
    gap : (a b : ℕ) → b ≤ a → a * c ≡ b * c + (a - b) * c
    gap a b l = ap (λ (k : ℕ). k * c) (omega arith) ∙ add-mul b (a - b) c

    scaled : (a b : ℕ) → ltb (a * c) (b * c) ≡ ltb a b
    scaled a b =
        either_lt a b
        (λ l. lt-ltb (a * c) (b * c) (let more : 0 < b - a = omega arith in omega (arith, gap b a (omega arith), mul-pos more some)) ∙ sym (lt-ltb a b l))
        (λ l. le-ltb (a * c) (b * c) (mul-le-mul_right c l) ∙ sym (le-ltb a b l))

    like : (s : Bool) → round f s (a * c + b * c) c ≡ round f s (a + b) 1
    like s = round_same f s (a * c + b * c) c (a + b) 1 some (omega arith) (omega arith)

    less : (s : Bool) (a b : ℕ) → b ≤ a → round f s (a * c - b * c) c ≡ round f s (a - b) 1
    less s a b l = round_same f s (a * c - b * c) c (a - b) 1 some (omega arith) (omega (arith, gap a b l))

    unlike-sum : (s t : Bool) → cond (ltb (a * c) (b * c)) (round f t (b * c - a * c) c) (round f (s && ltb (b * c) (a * c)) (a * c - b * c) c)
        ≡ cond (ltb a b) (round f t (b - a) 1) (round f (s && ltb b a) (a - b) 1)
    unlike-sum s t =
        either_lt a b
        (λ l. rw (scaled a b, lt-ltb a b l) (less t b a (omega arith)))
        (λ l. rw (scaled a b, scaled b a, le-ltb a b l) (less (s && ltb b a) a b l))

    go : (s t : Bool) → sum f s (a * c) t (b * c) c ≡ sum f s a t b 1
    go true true = like true
    go false false = like false
    go true false = unlike-sum true false
    go false true = unlike-sum false true

added : (f : Format) (x y : Float) (s t : Bool) (a b : ℕ) → HasValue x s a 1 → HasValue y t b 1 → add f x y ≡ sum f s a t b 1
unfolding add
added f (fin s' m e) (fin t' n d) s t a b vx vy =
    ap₂ (λ (s t : Bool). sum f s (m * up e * down d) t (n * up d * down e) c) vx.0 vy.0
    ∙ ap₂ (λ (p q : ℕ). sum f s p t q c) (omega (arith, ap (λ (k : ℕ). k * down d) vx.1)) (omega (arith, ap (λ (k : ℕ). k * down e) vy.1))
    ∙ whole_sum f s t a b c (mul-pos (down_pos e) (down_pos d))
  where
    c : ℕ
    c = down e * down d
added f nan y s t a b vx vy = elim vx [ ]
added f (inf _) y s t a b vx vy = elim vx [ ]
added f (fin s' m e) nan s t a b vx vy = elim vy [ ]
added f (fin s' m e) (inf _) s t a b vx vy = elim vy [ ]

-- the sum of an integer and a number with a sign, which may be 0 with a minus
rounded : (f : Format) (u : ℤ) (t : Bool) (b : ℕ) → sum f (negative u) (nat_abs u) t b 1 ≡ of_int f (u +ℤ with_sign t b)
unfolding sum of_int
rounded f (pos a) false b = refl
rounded f (pos a) true zero = rw (le-ltb a 0 (omega arith)) (ap (λ (n : ℕ). round f false n 1) (omega arith))
rounded f (pos a) true (suc b) =
    either_lt a (suc b)
    (λ l. rw (lt-ltb a (suc b) l) (ap (λ (n : ℕ). round f true n 1) (omega arith)))
    (λ l. rw (le-ltb a (suc b) l) refl)
rounded f (negsuc a) false b =
    either_lt b (suc a)
    (λ l. rw (lt-ltb b (suc a) l, le-ltb (suc a) b (omega arith)) (ap (λ (n : ℕ). round f true n 1) (omega arith)))
    (λ l. rw (le-ltb b (suc a) l) (either_lt (suc a) b
    (λ m. rw (lt-ltb (suc a) b m) refl)
    (λ m. rw (le-ltb (suc a) b m) (ap (λ (n : ℕ). round f false n 1) (omega arith)))))
rounded f (negsuc a) true zero = rw (lt-ltb 0 (suc a) (omega arith)) (ap (λ (n : ℕ). round f true n 1) (omega arith))
rounded f (negsuc a) true (suc b) = ap (λ (n : ℕ). round f true n 1) (omega arith)

-- the floats of two integers, added and subtracted: as the sum and the difference are rounded
module _ (f : Format) (x y : Float) (u v : ℤ) (vx : HasValue x (negative u) (nat_abs u) 1) (vy : HasValue y (negative v) (nat_abs v) 1) where
  pub add-whole : add f x y ≡ of_int f (u +ℤ v)
  add-whole =
      added f x y (negative u) (negative v) (nat_abs u) (nat_abs v) vx vy ∙ rounded f u (negative v) (nat_abs v) ∙ ap (λ (z : ℤ). of_int f (u +ℤ z)) (own_sign v)

  pub sub-whole : sub f x y ≡ of_int f (u -ℤ v)
  unfolding sub neg
  sub-whole =
      added f x (neg y) (negative u) (not (negative v)) (nat_abs u) (nat_abs v) vx (turned y vy) ∙ rounded f u (not (negative v)) (nat_abs v)
      ∙ ap (λ (z : ℤ). of_int f (u +ℤ z)) (other_sign v)
    where
      turned : (y : Float) → HasValue y (negative v) (nat_abs v) 1 → HasValue (neg y) (not (negative v)) (nat_abs v) 1
      turned (fin t m e) vy = (ap not vy.0, vy.1)
      turned nan vy = elim vy [ ]
      turned (inf _) vy = elim vy [ ]

      other_sign : (v : ℤ) → with_sign (not (negative v)) (nat_abs v) ≡ neg_ℤ v
      other_sign (pos n) = refl
      other_sign (negsuc n) = refl

-- n × 2^e as a binary32
exact : (s : Bool) (n e : ℕ) → n ≤ 2 ^ 24 → e ≤ 16 → HasValue (round binary32 s (n * 2 ^ e) 1) s (n * 2 ^ e) 1
exact s n e l h =
    either_lt n (2 ^ 24) (λ g. by n e g (omega arith) refl)
    (λ g. by 1 (24 + e) (omega arith) (omega arith) (let top : n ≡ 2 ^ 24 = le_antisymm l g in ap (λ (k : ℕ). k * 2 ^ e) top ∙ sym (pow-add 2 24 e) ∙ omega arith))
  where
    below : (q a c d : ℕ) → q < a → 0 < c → a * c ≤ d → q * c < d
    below q a c d h p g = omega (arith, mul-le-mul_right c h)

    regroup : (N q a b c : ℕ) → N ≡ q * a → c ≡ a * b → N * b ≡ q * c * 1
    regroup N q a b c e f = omega (arith, ap (λ (k : ℕ). k * b) e, ap (λ (k : ℕ). q * k) f)

    by : (q j : ℕ) → q < 2 ^ 24 → j ≤ 40 → n * 2 ^ e ≡ q * 2 ^ j → HasValue (round binary32 s (n * 2 ^ e) 1) s (n * 2 ^ e) 1
    by q j small few is =
        round_exact binary32 s (n * 2 ^ e) 1 q (j + 149) (omega arith) small
        (below q (2 ^ 24) (2 ^ (j + 149)) (2 ^ 277) small (pow_pos (j + 149)) (le_trans (le_of_eq (sym (pow-add 2 24 (j + 149)))) (pow_mono {i = 24 + (j + 149)} {j = 277} (omega arith))))
        (regroup (n * 2 ^ e) q (2 ^ j) (2 ^ 149) (2 ^ (j + 149)) is (pow-add 2 j 149))

-- so that both formats have it
module _ (n e : ℕ) (l : n ≤ 2 ^ 24) (h : e ≤ 16) (z : ℤ) (is : nat_abs z ≡ n * 2 ^ e) where
  narrow : HasValue (of_int binary32 z) (negative z) (nat_abs z) 1
  unfolding of_int
  narrow = go z is
    where
      go : (z : ℤ) → nat_abs z ≡ n * 2 ^ e → HasValue (of_int binary32 z) (negative z) (nat_abs z) 1
      go (pos m) is = subst (λ (k : ℕ). HasValue (round binary32 false k 1) false k 1) (sym is) (exact false n e l h)
      go (negsuc m) is = subst (λ (k : ℕ). HasValue (round binary32 true k 1) true k 1) (sym is) (exact true n e l h)

  wide : HasValue (of_int binary64 z) (negative z) (nat_abs z) 1
  wide = int-value binary64 z (rw is (omega (arith, mul-le-mul l (pow_mono h))))

  same : of_int binary32 z ≡ of_int binary64 z
  same =
      whole_unique binary64 (of_int binary32 z) (of_int binary64 z) (negative z) (nat_abs z) (fits_widens (of_int binary32 z) (of_int-fits binary32 z)) (of_int-fits binary64 z)
      narrow wide

mul-over : (y z : ℤ) (c : ℕ) → (y +ℤ z) *ℤ pos c ≡ y *ℤ pos c +ℤ z *ℤ pos c
mul-over y z c = *ℤ_comm (y +ℤ z) (pos c) ∙ mul-sum (pos c) y z ∙ ap₂ ◌+ℤ◌ (*ℤ_comm (pos c) y) (*ℤ_comm (pos c) z)

mul-less : (y z : ℤ) (c : ℕ) → (y -ℤ z) *ℤ pos c ≡ y *ℤ pos c -ℤ z *ℤ pos c
mul-less y z c = mul-over y (neg_ℤ z) c ∙ ap (λ (x : ℤ). y *ℤ pos c +ℤ x) (turned z)
  where
    turned : (z : ℤ) → neg_ℤ z *ℤ pos c ≡ neg_ℤ (z *ℤ pos c)
    turned (pos zero) = rw (zero-mul c) refl
    turned (pos (suc n)) = refl
    turned (negsuc n) = sym (neg_ℤ-neg_ℤ (pos (suc n * c)))

module _ (e : ℕ) (h : e ≤ 16) (y z : ℤ) (ly : nat_abs y ≤ 2 ^ 24) (lz : nat_abs z ≤ 2 ^ 24) where
  abbrev scaled : ℤ → ℤ
  scaled x = x *ℤ pos (2 ^ e)

  float : (x : ℤ) → nat_abs x ≤ 2 ^ 24 → HasValue (of_int binary64 (scaled x)) (negative (scaled x)) (nat_abs (scaled x)) 1
  float x l = wide (nat_abs x) e l h (scaled x) (size-true x (pos (2 ^ e)))

  -- as whichever sum is the sum of the scaled numbers
  exactly : (x : ℤ) (w : ℤ) → w ≡ scaled x → nat_abs x ≤ 2 ^ 24 → of_int binary32 w ≡ of_int binary64 (scaled x)
  exactly x w is l = ap (of_int binary32) is ∙ same (nat_abs x) e l h (scaled x) (size-true x (pos (2 ^ e)))

  pub sum-float : nat_abs (y +ℤ z) ≤ 2 ^ 24 → add binary32 (of_int binary64 (scaled y)) (of_int binary64 (scaled z)) ≡ of_int binary64 (scaled (y +ℤ z))
  sum-float l =
      add-whole binary32 (of_int binary64 (scaled y)) (of_int binary64 (scaled z)) (scaled y) (scaled z) (float y ly) (float z lz)
      ∙ exactly (y +ℤ z) (scaled y +ℤ scaled z) (sym (mul-over y z (2 ^ e))) l

  pub difference-float : nat_abs (y -ℤ z) ≤ 2 ^ 24 → sub binary32 (of_int binary64 (scaled y)) (of_int binary64 (scaled z)) ≡ of_int binary64 (scaled (y -ℤ z))
  difference-float l =
      sub-whole binary32 (of_int binary64 (scaled y)) (of_int binary64 (scaled z)) (scaled y) (scaled z) (float y ly) (float z lz)
      ∙ exactly (y -ℤ z) (scaled y -ℤ scaled z) (sym (mul-less y z (2 ^ e))) l

pub sum-whole : (y z : ℤ) → nat_abs y ≤ 2 ^ 24 → nat_abs z ≤ 2 ^ 24 → nat_abs (y +ℤ z) ≤ 2 ^ 24
    → add binary32 (of_int binary64 y) (of_int binary64 z) ≡ of_int binary64 (y +ℤ z)
unfolding one
sum-whole y z ly lz l =
    sym (ap₂ (λ (y z : ℤ). add binary32 (of_int binary64 y) (of_int binary64 z)) (*ℤ-one y) (*ℤ-one z)) ∙ sum-float 0 (omega arith) y z ly lz l
    ∙ ap (of_int binary64) (*ℤ-one (y +ℤ z))
