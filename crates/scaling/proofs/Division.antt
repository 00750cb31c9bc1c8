-- Binary64 division of a whole number by a power of two is the quotient. The division rounds the fraction once, which changes nothing
-- at a size up to 2^53 over a power up to 2^53, and the format holds that value in one way.
use mathlib.Core.Path.{◌≡◌, refl, sym, ap, ◌∙◌, subst}
use mathlib.Core.Logic.{◌⊎◌, inl, inr}
use mathlib.Core.Bool.{Bool, true, false}
use Prim.Native.Nat.{ℕ, suc, ◌+◌, ◌-◌, ◌*◌, ◌^◌, ◌≤◌, ◌<◌}
use native.Mathlib.Nat.{eq-or-lt_of_le, mul-one, mul_comm, mul_assoc, mul_left_comm, mul-pos, lt_of_lt_of_le, lt_irrefl}
use native.Mathlib.Omega.{arith}
use borrow.Author.Tests.{ne_eqb}
use lib.Dec.{eqb, lit<, lit≤}
use lib.IntN.{ℤ, pos, negsuc, nat_abs}
use lib.Pow.{pow-add, pow_pos, pow_mono, shl_lt}
use lib.Ieee.{Float, nan, inf, fin, Format, binary64, up, down, unlike, round, div, of_int}
use lib.Ieee.Back.{round_whole}
use lib.Ieee.Exact.{HasValue, round_exact}
use lib.Ieee.Fits.{down_pos, div-fits}
use lib.Ieee.Positive.{first_pos}
use lib.Ieee.Scale.{round_same}
use Rattle.designs.specs.Signs.{negative}
use Rattle.scaling.specs.Quotient.{quotient}
use Rattle.scaling.proofs.Quotient.{quotient-value, quotient-held}
use Rattle.scaling.proofs.Unique.{value-unique}

unlike-plus : (s : Bool) → unlike s false ≡ s
unlike-plus true = refl
unlike-plus false = refl

-- a division of two whole numbers rounds their fraction, once
div-rounds : (f : Format) (x y : Float) (s : Bool) (a b : ℕ) → 0 < b → HasValue x s a 1 → HasValue y false b 1
    → div f x y ≡ round f s a b
unfolding div
div-rounds f nan y s a b B v w = absurd v
div-rounds f (inf t) y s a b B v w = absurd v
div-rounds f (fin t m e) nan s a b B v w = absurd w
div-rounds f (fin t m e) (inf u) s a b B v w = absurd w
div-rounds f (fin t m e) (fin u n d) s a b B v w =
    let A : m * up e ≡ a * down e = sym (mul-one (m * up e)) ∙ v.1 in
    let N : n * up d ≡ b * down d = sym (mul-one (n * up d)) ∙ w.1 in
    let P : 0 < n * up d = subst (λ (x : ℕ). 0 < x) (sym N) (mul-pos B (down_pos d)) in
    let divisor : eqb n 0 ≡ false = ne_eqb n 0 (λ q. lt_irrefl 0 (subst (λ (x : ℕ). 0 < x) q (first_pos n (up d) P))) in
    let sign : unlike t u ≡ s = ap (unlike t) w.0 ∙ unlike-plus t ∙ v.0 in
    rw (divisor, sign)
    (round_same f s (m * up e * down d) (n * up d * down e) a b (mul-pos P (down_pos e)) B
    (simp (A, N) (simp (mul_assoc, mul_comm, mul_left_comm))))

-- where rounding changes nothing
module _ (s : Bool) (k : ℕ) (room : k ≤ 53) where
  at-power : (q i : ℕ) → q < 2 ^ 53 → i ≤ 53 → HasValue (round binary64 s (q * 2 ^ i) (2 ^ k)) s (q * 2 ^ i) (2 ^ k)
  at-power q i h g =
      let j = i + (1074 - k) in
      let below : 53 + j ≤ 2098 = omega arith in
      let same : i + 1074 ≡ j + k = omega arith in
      let power : 2 ^ i * 2 ^ 1074 ≡ 2 ^ j * 2 ^ k = sym (pow-add 2 i 1074) ∙ ap (λ (x : ℕ). 2 ^ x) same ∙ pow-add 2 j k in
      round_exact binary64 s (q * 2 ^ i) (2 ^ k) q j (pow_pos k) h (lt_of_lt_of_le (shl_lt 53 j h) (pow_mono below))
      (simp (mul_assoc, power))

  rounds-nothing : (n : ℕ) → n ≤ 2 ^ 53 → HasValue (round binary64 s n (2 ^ k)) s n (2 ^ k)
  rounds-nothing n h = go (eq-or-lt_of_le h)
    where
      go : (n ≡ 2 ^ 53) ⊎ (n < 2 ^ 53) → HasValue (round binary64 s n (2 ^ k)) s n (2 ^ k)
      go (inl e) = rw e (at-power 1 53 (lit< tt) (lit≤ tt))
      go (inr l) = rw (mul-one n) at (at-power n 0 l (lit≤ tt))

-- a cast is exact
cast-value : (z : ℤ) → nat_abs z ≤ 2 ^ 53 → HasValue (of_int binary64 z) (negative z) (nat_abs z) 1
unfolding of_int
cast-value (pos n) h = round_whole binary64 false n h
cast-value (negsuc n) h = round_whole binary64 true (suc n) h

pub division : (z : ℤ) (k : ℕ) → nat_abs z ≤ 2 ^ 53 → k ≤ 53
    → div binary64 (of_int binary64 z) (of_int binary64 (pos (2 ^ k))) ≡ quotient z k
division z k small room =
    let x = of_int binary64 z in
    let y = of_int binary64 (pos (2 ^ k)) in
    let s = negative z in
    let n = nat_abs z in
    let rounds = div-rounds binary64 x y s n (2 ^ k) (pow_pos k) (cast-value z small) (cast-value (pos (2 ^ k)) (pow_mono room)) in
    value-unique binary64 (div binary64 x y) (quotient z k) s n (2 ^ k) (pow_pos k)
    (div-fits binary64 x y) (quotient-held z k small (omega arith))
    (rw rounds (rounds-nothing s k room n small)) (quotient-value z k)
