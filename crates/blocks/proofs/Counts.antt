-- Laws of sums over the numbers below n, and of the greatest, each by induction on n.
use mathlib.Core.Path.{◌≡◌, refl, sym, ap, ap₂, ◌∙◌}
use Prim.Native.Nat.{ℕ, zero, suc, max, ◌+◌, ◌*◌, ◌≤◌, ◌<◌}
use native.Mathlib.Nat.{add-zero, add-suc, suc-mul}
use native.Mathlib.Numerals.{add-one}
use native.Mathlib.Omega.{arith}
use lib.IntN.{ℤ, nat_abs, ◌+ℤ◌, +ℤ_assoc, +ℤ_idr}
use Rattle.designs.proofs.Cases.{either_lt}
use Rattle.designs.proofs.Sizes.{size-add}
use Rattle.blocks.specs.Counts.{count, greatest, total}

-- one number more
pub total-next : (f : ℕ → ℤ) (n : ℕ) → total f (n + 1) ≡ total f n +ℤ f n
unfolding total
total-next f n = rw (add-one n)

pub count_next : (f : ℕ → ℕ) (n : ℕ) → count f (n + 1) ≡ count f n + f n
unfolding count
count_next f n = rw (add-one n)

pub greatest-next : (f : ℕ → ℕ) (n : ℕ) → greatest f (n + 1) ≡ max (greatest f n) (f n)
unfolding greatest
greatest-next f n = rw (add-one n)

-- m more
pub total-more : (f : ℕ → ℤ) (n m : ℕ) → total f (n + m) ≡ total f n +ℤ total (λ k. f (n + k)) m
unfolding total
total-more f n zero = rw (add-zero n) (sym (+ℤ_idr (total f n)))
total-more f n (suc m) = rw (add-suc n m) (ap (λ (z : ℤ). z +ℤ f (n + m)) (total-more f n m) ∙ +ℤ_assoc (total f n) (total (λ k. f (n + k)) m) (f (n + m)))

pub count-more : (f : ℕ → ℕ) (n m : ℕ) → count f (n + m) ≡ count f n + count (λ k. f (n + k)) m
unfolding count
count-more f n zero = rw (add-zero n) (omega arith)
count-more f n (suc m) = rw (add-suc n m) (omega (arith, count-more f n m))

-- of what is the same below n
pub count-as : {f g : ℕ → ℕ} (n : ℕ) → ((k : ℕ) → k < n → f k ≡ g k) → count f n ≡ count g n
unfolding count
count-as zero same = refl
count-as (suc n) same = ap₂ ◌+◌ (count-as n (λ k h. same k (omega arith))) (same n (omega arith))

pub greatest-as : {f g : ℕ → ℕ} (n : ℕ) → ((k : ℕ) → k < n → f k ≡ g k) → greatest f n ≡ greatest g n
unfolding greatest
greatest-as zero same = refl
greatest-as (suc n) same = ap₂ max (greatest-as n (λ k h. same k (omega arith))) (same n (omega arith))

-- a sum of n numbers that are at most b each
pub total_size : (f : ℕ → ℤ) (b n : ℕ) → ((k : ℕ) → k < n → nat_abs (f k) ≤ b) → nat_abs (total f n) ≤ n * b
unfolding total
total_size f b zero h = omega arith
total_size f b (suc n) h = omega (arith, size-add (total f n) (f n), total_size f b n (λ k g. h k (omega arith)), h n (omega arith), suc-mul n b)

pub count-size : (f : ℕ → ℕ) (b n : ℕ) → ((k : ℕ) → k < n → f k ≤ b) → count f n ≤ n * b
unfolding count
count-size f b zero h = omega arith
count-size f b (suc n) h = omega (arith, count-size f b n (λ k g. h k (omega arith)), h n (omega arith), suc-mul n b)

-- the greatest is none below another, and some number is it, unless it is 0
pub greatest-bounds : (f : ℕ → ℕ) (n k : ℕ) → k < n → f k ≤ greatest f n
unfolding greatest
greatest-bounds f zero k h = absurd (omega arith)
greatest-bounds f (suc n) k h =
    either_lt k n (λ l. omega (arith, greatest-bounds f n k l)) (λ l. let e : k ≡ n = omega arith in rw e (omega arith))

pub greatest-met : (f : ℕ → ℕ) (n : ℕ) → 0 < greatest f n → ((k : ℕ) → k < n → f k ≡ greatest f n → ⊥) → ⊥
unfolding greatest
greatest-met f zero h none = omega arith
greatest-met f (suc n) h none =
    either_lt (f n) (greatest f n)
    (λ l. greatest-met f n (omega arith) (λ k b e. none k (omega arith) (omega arith)))
    (λ l. none n (omega arith) (omega arith))
