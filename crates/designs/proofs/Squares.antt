-- The inequalities behind the ninth, over any P and Q in the place of the powers of two. All rest on 4xy ≤ (x + y)², with
-- equality where x = y: a fraction a/P and its complement make a product of at most a quarter.
use mathlib.Core.Path.{◌≡◌, sym, ap, ◌∙◌, subst}
use Prim.Native.Nat.{ℕ, suc, ◌+◌, ◌-◌, ◌*◌, ◌≤◌, ◌<◌}
use native.Mathlib.Nat.{le_of_lt, add-sub_of_le, mul-pos, le_of_mul-le-mul_left, lt_of_mul-lt-mul_left, eq_of_mul-eq-mul_right, le_antisymm, mul_comm, add_comm, mul-le-mul, mul-le-mul_right}
use native.Mathlib.Omega.{arith}
use Rattle.designs.proofs.Cases.{either_lt}

four : (x y : ℕ) → 4 * (x * y) ≤ (x + y) * (x + y)
four x y =
    either_lt x y
    (λ h. subst (λ (z : ℕ). 4 * (x * z) ≤ (x + z) * (x + z)) (add-sub_of_le (le_of_lt h)) (apart x (y - x)))
    (λ h. subst (λ (z : ℕ). 4 * (z * y) ≤ (z + y) * (z + y)) (add-sub_of_le h) (omega (arith, apart y (x - y))))
  where
    apart : (x d : ℕ) → 4 * (x * (x + d)) ≤ (x + (x + d)) * (x + (x + d))
    apart x d = omega arith

four_same : (x y : ℕ) → (x + y) * (x + y) ≤ 4 * (x * y) → x ≡ y
four_same x y h =
    le_antisymm
    (either_lt y x (λ l. absurd (apart y x l (omega arith))) (λ l. l))
    (either_lt x y (λ l. absurd (apart x y l h)) (λ l. l))
  where
    more : (x e : ℕ) → (x + (x + suc e)) * (x + (x + suc e)) ≤ 4 * (x * (x + suc e)) → ⊥
    more x e h = omega arith

    apart : (x y : ℕ) → x < y → (x + y) * (x + y) ≤ 4 * (x * y) → ⊥
    apart x y l = subst (λ (z : ℕ). (x + z) * (x + z) ≤ 4 * (x * z) → ⊥) (omega arith) (more x (y - suc x))

-- design 1 without a carry, a/P + b/Q < 1
pub low-bound : (P a Q b : ℕ) → a * Q + b * P < P * Q → 9 * (a * b) < (P + a) * (Q + b)
low-bound P a Q b h = lt_of_mul-lt-mul_left (P * Q) (omega (arith, four (a * Q) (b * P), below (a * Q + b * P) (P * Q) h))
  where
    below : (s X : ℕ) → s < X → 2 * (s * s) < X * (X + s)
    below s X h = omega (arith, mul-le-mul h h, mul-le-mul_right s h)

-- design 1 with a carry, where P = a + c and Q = b + d
module _ (a c b d : ℕ) (p : 0 < a + c) (q : 0 < b + d) (h : (a + c) * (b + d) ≤ a * (b + d) + b * (a + c)) where
  pub high-bound : 9 * (c * d) ≤ (a + c + a) * (b + d + b)
  high-bound =
      le_of_mul-le-mul_left {k = (a + c) * (b + d)}
      (omega (arith, four (c * (b + d)) (d * (a + c)), above (c * (b + d) + d * (a + c)) ((a + c) * (b + d)) (omega arith))) (mul-pos p q)
    where
      above : (t X : ℕ) → t ≤ X → t * t + t * X ≤ 2 * (X * X)
      above t X h = omega (arith, mul-le-mul h h, mul-le-mul_right X h)

  -- equality: both fractions are a half
  pub high-equal : 9 * (c * d) ≡ (a + c + a) * (b + d + b) → (a ≡ c) × (b ≡ d)
  high-equal e = (cancel (b + d) q u-half, cancel (a + c) p v-half)
    where
      X : ℕ
      X = (a + c) * (b + d)

      u : ℕ
      u = c * (b + d)

      v : ℕ
      v = d * (a + c)

      scaled : X * (9 * (c * d)) ≡ X * ((a + c + a) * (b + d + b))
      scaled = ap (λ (z : ℕ). X * z) e

      reached : (t X : ℕ) → t ≤ X → 2 * (X * X) ≤ t * t + t * X → t ≡ X
      reached t X l h = le_antisymm l (either_lt t X (λ g. absurd (omega (arith, mul-le-mul g g, mul-le-mul_right X g))) (λ g. g))

      whole : u + v ≡ X
      whole = reached (u + v) X (omega arith) (omega (arith, four u v, scaled))

      squares : (u + v) * (u + v) ≤ 4 * (u * v)
      squares = omega (arith, scaled, ap (λ (z : ℕ). z * z) whole, ap (λ (z : ℕ). z * X) whole)

      half : (w u v X : ℕ) → X ≡ w + u → u + v ≡ X → u ≡ v → w ≡ u
      half w u v X e f g = omega arith

      two_ways : (x y z : ℕ) → (x + y) * z ≡ x * z + y * z
      two_ways x y z = omega arith

      u-half : a * (b + d) ≡ c * (b + d)
      u-half = half (a * (b + d)) u v X (two_ways a c (b + d)) whole (four_same u v squares)

      v-half : b * (a + c) ≡ d * (a + c)
      v-half = half (b * (a + c)) v u X (mul_comm (a + c) (b + d) ∙ two_ways b d (a + c)) (add_comm v u ∙ whole) (sym (four_same u v squares))

      cancel : (m : ℕ) → 0 < m → {x y : ℕ} → x * m ≡ y * m → x ≡ y
      cancel m l {x} {y} f = eq_of_mul-eq-mul_right m l x y f
