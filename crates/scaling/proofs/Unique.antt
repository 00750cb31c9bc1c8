-- A float that a format holds is read back from its bits, and its bits depend on its sign and its size alone. So a format holds a
-- number in one way, and `Exact` says which binary64 it speaks of.
use mathlib.Core.Path.{◌≡◌, refl, sym, ap, ◌∙◌}
use Prim.Native.Nat.{ℕ, ◌+◌, ◌-◌, ◌*◌, ◌/◌, ◌^◌, ◌<◌}
use native.Mathlib.Nat.{mul_right_comm}
use mathlib.Core.Bool.{Bool, cond}
use lib.Dec.{T}
use lib.IntN.{ℤ, nat_abs}
use lib.Pow.{pow_pos}
use lib.Ieee.{Float, nan, inf, fin, Format, binary64, prec, low, up, down, size, hid, top, fits, of_bits, to_bits}
use lib.Ieee.Bits.{of_bits-to_bits}
use lib.Ieee.Exact.{HasValue}
use lib.Ieee.Fits.{down_pos}
use lib.Ieee.Nearest.{div_same}
use Rattle.designs.specs.Signs.{negative}
use Rattle.scaling.specs.Quotient.{Exact}

-- the bits of a number with the sign s and the size n, counted in the format's smallest values
bits : Format → Bool → ℕ → ℕ
bits f s n = let k = size n - prec f in cond s (top f) 0 + k * hid f + n / 2 ^ k

bits_are : (f : Format) (x : Float) (s : Bool) (a c : ℕ) → 0 < c → HasValue x s a c → to_bits f x ≡ bits f s (a * 2 ^ low f / c)
unfolding to_bits bits
bits_are f nan s a c C v = absurd v
bits_are f (inf t) s a c C v = absurd v
bits_are f (fin t m e) s a c C v =
    let l = 2 ^ low f in
    let same : m * up e * l / down e ≡ a * l / c =
    div_same (m * up e * l) (down e) (a * l) c (down_pos e) C
    (mul_right_comm (m * up e) l c ∙ ap (λ (n : ℕ). n * l) v.1 ∙ mul_right_comm a (down e) l) in
    rw (v.0, same) refl

pub value-unique : (f : Format) (x y : Float) (s : Bool) (a c : ℕ) → 0 < c
    → T (fits f x) → T (fits f y) → HasValue x s a c → HasValue y s a c → x ≡ y
value-unique f x y s a c C p q v w =
    sym (of_bits-to_bits f x p) ∙ ap (of_bits f) (bits_are f x s a c C v ∙ sym (bits_are f y s a c C w)) ∙ of_bits-to_bits f y q

pub exact-unique : (z : ℤ) (k : ℕ) {x y : Float} → Exact z k x → Exact z k y → x ≡ y
exact-unique z k {x} {y} v w =
    value-unique binary64 x y (negative z) (nat_abs z) (2 ^ k) (pow_pos k) v.held w.held v.value w.value
