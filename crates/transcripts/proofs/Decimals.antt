-- Decimals: one digit more, and how long they are. Any fuel that is enough gives the same digits, and the number of binary digits is enough.
use Prim.Native.Nat.{ℕ, zero, suc, ◌+◌, ◌^◌, ◌/◌, ◌%◌, ◌≤◌, ◌<◌}
use mathlib.Core.Path.{◌≡◌, refl, sym, ap, ◌∙◌}
use mathlib.Core.List.{List, ◌++◌}
use native.Mathlib.Omega.{arith}
use native.Mathlib.Nat.{pow-suc}
use lib.Ieee.{size}
use lib.Ieee.Digits.{size-lt}
use lib.IntN.{ℤ, pos, negsuc, nat_abs}
use lib.ListN.{length, length-append}
use borrow.Author.Tests.{lt-ltb, le-ltb}
use Rattle.designs.proofs.Cases.{either_lt}
use Rattle.transcripts.specs.Text.{digit, digits, decimal, signed_decimal}

-- with any fuel a number below 10 is its digit, and one that is not has, with one more, the digits of n / 10 before its last
one : (f n : ℕ) → n < 10 → digits f n ≡ digit n
unfolding digits
one zero n h = refl
one (suc f) n h = simp (lt-ltb n 10 h)

more : (f n : ℕ) → 10 ≤ n → digits (suc f) n ≡ digits f (n / 10) ++ digit (n % 10)
unfolding digits
more f n h = simp (le-ltb n 10 h)

enough : (f g n : ℕ) → n < 2 ^ f → n < 2 ^ g → digits f n ≡ digits g n
enough zero g n h k = one zero n (omega arith) ∙ sym (one g n (omega arith))
enough (suc f) zero n h k = one (suc f) n (omega arith) ∙ sym (one zero n (omega arith))
enough (suc f) (suc g) n h k =
    either_lt n 10 (λ l. one (suc f) n l ∙ sym (one (suc g) n l))
    (λ l. more f n l
    ∙ ap (λ (d : List ℕ). d ++ digit (n % 10)) (enough f g (n / 10) (omega (arith, pow-suc 2 f)) (omega (arith, pow-suc 2 g))) ∙ sym (more g n l))

pub one-digit : (n : ℕ) → n < 10 → decimal n ≡ digit n
unfolding decimal
one-digit n h = one (size n) n h

pub more-digits : (n : ℕ) → 10 ≤ n → decimal n ≡ decimal (n / 10) ++ digit (n % 10)
unfolding decimal
more-digits n h =
    enough (size n) (suc (size n)) n (size-lt n) (omega (arith, size-lt n, pow-suc 2 (size n))) ∙ more (size n) n h
    ∙ ap (λ (d : List ℕ). d ++ digit (n % 10)) (enough (size n) (size (n / 10)) (n / 10) (omega (arith, size-lt n)) (size-lt (n / 10)))

-- a number below 10^(k+1) has at most k + 1 digits, and one more byte for a sign
pub decimal-length : (k n : ℕ) → n < 10 ^ suc k → length (decimal n) ≤ suc k
decimal-length zero n h = omega (arith, ap length (one-digit n h))
decimal-length (suc k) n h =
    either_lt n 10 (λ l. omega (arith, ap length (one-digit n l)))
    (λ l. rw (more-digits n l, length-append (decimal (n / 10)) (digit (n % 10)))
    (omega (arith, decimal-length k (n / 10) (omega (arith, pow-suc 10 (suc k))))))

pub signed-length : (k : ℕ) (z : ℤ) → nat_abs z < 10 ^ suc k → length (signed_decimal z) ≤ suc k + 1
unfolding signed_decimal
signed-length k (pos n) h = omega (arith, decimal-length k n h)
signed-length k (negsuc n) h = omega (arith, decimal-length k (suc n) h)
