-- Design 2 is within a ninth: its residue is a product of two offsets, each at most a third of its operand (`Near`), and
-- a third exactly where the operand is three quarters of its power.
use mathlib.Core.Path.{◌≡◌}
use mathlib.Core.Logic.{◌↔◌}
use Prim.Native.Nat.{ℕ, ◌-◌, ◌*◌, ◌^◌, ◌≤◌, ◌<◌}
use native.Mathlib.Nat.{mul-le-mul, mul-le-mul_left, mul-le-mul_right, le_antisymm}
use native.Mathlib.Omega.{arith}
use lib.Pow.{pow-add, pow_pos}
use Rattle.designs.specs.Designs.{log2, rest, near_power, by_nearest}
use Rattle.designs.specs.Demand.{ThreeTimesPower}
use Rattle.designs.proofs.Cases.{by_le, either_lt}
use Rattle.designs.proofs.Distance.{dist, dist-less, dist-more}
use Rattle.designs.proofs.Nearest.{Near, under, over, near-is, at, nearest-at}
use Rattle.designs.proofs.Parts.{parts}
use Rattle.designs.proofs.Triples.{triple→half, half→triple}

-- the residue is c × d, with 3 × c at most A and 3 × d at most B
record Residue (A P B Q : ℕ) : Type 0 where
  c : ℕ
  d : ℕ
  is : dist (A * B) (at A P B Q) ≡ c * d
  c-third : 3 * c ≤ A
  d-third : 3 * d ≤ B
  c-equal : 3 * c ≡ A → 4 * A ≡ 3 * P
  d-equal : 3 * d ≡ B → 4 * B ≡ 3 * Q

residue : {A P B Q : ℕ} → Near A P → Near B Q → Residue A P B Q
residue (under A c h) (under B d g) =
    record { c = c; d = d; is = dist-less _ _ _ (omega (arith, mul-le-mul h g)); c-third = h; d-third = g; c-equal = omega arith; d-equal = omega arith }
residue (under A c h) (over Q d g) =
    record { c = c; d = d; is = dist-more _ _ _ (omega arith); c-third = h; d-third = omega arith; c-equal = omega arith; d-equal = omega arith }
residue (over P c h) (under B d g) =
    record { c = c; d = d; is = dist-more _ _ _ (omega arith); c-third = omega arith; d-third = g; c-equal = omega arith; d-equal = omega arith }
residue (over P c h) (over Q d g) =
    record { c = c; d = d; is = dist-less _ _ _ (omega arith); c-third = omega arith; d-third = omega arith; c-equal = omega arith; d-equal = omega arith }

-- two factors that are at most A and B, and whose product is A × B
first-factor : (x A y B : ℕ) → x ≤ A → y ≤ B → 0 < B → x * y ≡ A * B → x ≡ A
first-factor x A y B h g p e = le_antisymm h (either_lt x A (λ l. absurd (omega (arith, mul-le-mul_right B l, mul-le-mul_left x g))) (λ l. l))

at-third : {A P B Q : ℕ} → Residue A P B Q → 0 < A → 0 < B → 9 * dist (A * B) (at A P B Q) ≡ A * B → (4 * A ≡ 3 * P) × (4 * B ≡ 3 * Q)
at-third {A} {P} {B} {Q} r ha hb e = (
  r.c-equal (first-factor (3 * r.c) A (3 * r.d) B r.c-third r.d-third hb (omega (arith, r.is))),
  r.d-equal (first-factor (3 * r.d) B (3 * r.c) A r.d-third r.c-third ha (omega (arith, r.is))),
)

at-thirds : (X P Y Q : ℕ) → 4 * X ≡ 3 * P → 4 * Y ≡ 3 * Q → 9 * dist (X * Y) (at X P Y Q) ≡ X * Y
at-thirds X P Y Q u v = scaled (P - X) (Q - Y) (omega arith) (omega arith) (omega arith) (omega arith)
  where
    quarter : (e f : ℕ) → 9 * dist (3 * e * (3 * f)) (at (3 * e) (4 * e) (3 * f) (4 * f)) ≡ 3 * e * (3 * f)
    quarter e f = omega (arith, dist-less (at (3 * e) (4 * e) (3 * f) (4 * f)) (e * f) (3 * e * (3 * f)) (omega arith))

    scaled : (e f : ℕ) → X ≡ 3 * e → P ≡ 4 * e → Y ≡ 3 * f → Q ≡ 4 * f → 9 * dist (X * Y) (at X P Y Q) ≡ X * Y
    scaled e f a b c d = rw (a, b, c, d) (quarter e f)

-- three quarters of the nearest power is one and a half of the leading one
near-third : (A : ℕ) → 0 < A → (4 * A ≡ 3 * 2 ^ near_power A) ↔ (2 * rest A ≡ 2 ^ log2 A)
unfolding near_power
near-third A h =
    by_le (λ (k : ℕ). (4 * A ≡ 3 * 2 ^ k) ↔ (2 * rest A ≡ 2 ^ log2 A)) (2 ^ log2 A) (2 * rest A)
    (λ l. (λ e. omega (arith, parts A h, pow-add 2 (log2 A) 1), λ e. omega (arith, parts A h, pow-add 2 (log2 A) 1)))
    (λ l. (λ e. absurd (omega (arith, parts A h, pow_pos (log2 A))), λ e. absurd (omega arith)))

module _ (A B : ℕ) (ha : 0 < A) (hb : 0 < B) where
  near : Residue A (2 ^ near_power A) B (2 ^ near_power B)
  near = residue (near-is A ha) (near-is B hb)

  pub nearest-bound : 9 * dist (A * B) (by_nearest A B) ≤ A * B
  nearest-bound = rw (nearest-at A B ha hb) (omega (arith, near.is, mul-le-mul near.c-third near.d-third))

  pub nearest-equal : (9 * dist (A * B) (by_nearest A B) ≡ A * B) ↔ (ThreeTimesPower A × ThreeTimesPower B)
  nearest-equal = rw (nearest-at A B ha hb) (there, λ t. back t.0 t.1)
    where
      there : 9 * dist (A * B) (at A (2 ^ near_power A) B (2 ^ near_power B)) ≡ A * B → ThreeTimesPower A × ThreeTimesPower B
      there e = let h = at-third near ha hb e in (half→triple A ha ((near-third A ha).0 h.0), half→triple B hb ((near-third B hb).0 h.1))

      back : ThreeTimesPower A → ThreeTimesPower B → 9 * dist (A * B) (at A (2 ^ near_power A) B (2 ^ near_power B)) ≡ A * B
      back s t = at-thirds A _ B _ ((near-third A ha).1 (triple→half A s)) ((near-third B hb).1 (triple→half B t))
