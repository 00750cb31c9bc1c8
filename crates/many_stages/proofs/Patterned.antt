-- Loops over the raised patterns of numbers: one turn more is one pattern more, whatever a number becomes; and a sum of numbers, turn by
-- turn.
use Rattle.std.proofs.Common.{◌≡◌, ℕ, ◌+◌, ◌^◌, ◌<◌, ◌≤◌, List, length, get_or, set, ℤ, ◌+ℤ◌, nat_abs, sym, refl, ap, ◌∙◌, ap₂, arith, to_z-of_z, w16, w32, SFits, to_z, of_z, below_more}
use lib.Signed.{mag, nat_abs-le}
use Rattle.pairs.proofs.Integers.{sized}
use Rattle.patterns.specs.Blocks.{place}
use Rattle.patterns.specs.Patterns.{raised_of}
use Rattle.blocks.specs.Counts.{total}
use Rattle.blocks.proofs.Counts.{total-next, total_size}
use Rattle.strips.proofs.EachStage.{Filled, next-filled, none_filled}
use Rattle.many_stages.specs.Strips.{Leaving, Patterned}

-- the same patterns of numbers that are equal
pub patterned-as : {n : ℕ} {f g : ℕ → ℤ} {left : List ℕ} → ((k : ℕ) → f k ≡ g k) → Patterned n f left → Patterned n g left
patterned-as e p =
    record {
      room = p.room;
      small = λ k h. rw (← e k) (p.small k h);
      at = λ k h. p.at k h ∙ ap raised_of (e k);
    }

-- and of as many
pub as-many : {n m : ℕ} {f : ℕ → ℤ} {left : List ℕ} → n ≡ m → Patterned n f left → Patterned m f left
as-many e p = rw (← e) p

-- the patterns of the first j of n numbers
pub record Raising (n : ℕ) (f : ℕ → ℤ) (before left : List ℕ) (j : ℕ) : Type 0 where
  pub inside : j ≤ n
  pub done : Filled (λ k. raised_of (f k)) j before left
  pub small : (k : ℕ) → k < j → mag (f k) < 2 ^ 15

module _ {n : ℕ} {f : ℕ → ℤ} {before : List ℕ} where
  pub none-raised : Raising n f before before 0
  none-raised = record { inside = omega arith; done = none_filled _ _; small = λ k h. absurd (omega arith) }

  pub next-raised : {left : List ℕ} {j p : ℕ} → Raising n f before left j → j < n → n ≤ length before → mag (f j) < 2 ^ 15 → p ≡ raised_of (f j) → Raising n f before (set left j p) (j + 1)
  next-raised r h room fits e =
      record {
        inside = omega arith;
        done = next-filled r.done (omega arith) e;
        small = below_more _ _ r.small fits;
      }

  pub all-raised : {left : List ℕ} {j : ℕ} → Raising n f before left j → n ≤ j → n ≤ length before → Patterned n f left
  all-raised r h room =
      record { room = omega (arith, r.done.size); small = λ k l. r.small k (omega arith); at = λ k l. r.done.first k (omega arith) }

-- the next pattern of what h makes of a number, as callees give both
pub next-made : (h : ℤ → ℤ) (numbers : List ℤ) {n : ℕ} {before left : List ℕ} {j p : ℕ} {y : ℤ}
    → Raising n (λ k. h (place numbers k)) before left j → j < n → n ≤ length before → mag (place numbers j) < 2 ^ 15 → mag y < 2 ^ 15
    → y ≡ h (to_z w16 (of_z w16 (place numbers j))) → p ≡ raised_of (to_z w16 (of_z w16 y)) → Raising n (λ k. h (place numbers k)) before (set left j p) (j + 1)
next-made h numbers {j = j} {y = y} r l room fits narrow ey ep =
    let e : y ≡ h (place numbers j) = ey ∙ ap h (to_z-of_z {w = w16} (record { sfits = fits })) in
    next-raised r l room (rw (← e) narrow) (ep ∙ ap raised_of (to_z-of_z {w = w16} (record { sfits = narrow }) ∙ e))

-- a pattern that is still as it was, where the first j have changed
pub still : {g : ℕ → ℕ} {n j : ℕ} {f : ℕ → ℤ} {before left : List ℕ} → Patterned n f before → Filled g j before left → j < n → get_or left j 0 ≡ raised_of (f j)
still {j = j} p done h = done.later j (omega arith) ∙ p.at j h

-- one number more, of which a callee makes h
pub more-taken : (h : ℤ → ℤ) {n j r : ℕ} {f : ℕ → ℤ} {before left : List ℕ} → Patterned n f before
    → Filled (λ k. raised_of (h (f k))) j before left → j < n → r ≡ raised_of (h (f j))
    → Filled (λ k. raised_of (h (f k))) (j + 1) before (set left j r)
more-taken h p done l made = next-filled done (omega (arith, p.room)) made

-- the patterns of what h makes of each number
pub all-taken : (h : ℤ → ℤ) → ((z : ℤ) → mag z < 2 ^ 15 → mag (h z) < 2 ^ 15) → {n j : ℕ} {f : ℕ → ℤ} {before left : List ℕ} → Patterned n f before
    → Filled (λ k. raised_of (h (f k))) j before left → n ≤ j → Patterned n (λ k. h (f k)) left
all-taken h keeps {f = f} p done l =
    record {
      room = omega (arith, p.room, done.size);
      small = λ k m. keeps (f k) (p.small k m);
      at = λ k m. done.first k (omega arith);
    }

-- a callee that makes h of patterns
pub leaving : {pre : ℕ → Type 0} {post : ℕ → ℕ → Type 0} (h : ℤ → ℤ) → ((z : ℤ) → mag z < 2 ^ 15 → mag (h z) < 2 ^ 15)
    → ((p : ℕ) → (z : ℤ) × (nat_abs z ≤ 2 ^ 15) × (p ≡ raised_of z) → pre p)
    → ((p q : ℕ) → post p q → (z : ℤ) → nat_abs z ≤ 2 ^ 15 → p ≡ raised_of z → q ≡ raised_of (h z)) → Leaving pre post h
leaving h keeps taken made =
    record {
      taken = λ z small. taken (raised_of z) (z, nat_abs-le z small, refl);
      made = λ z q small e. made (raised_of z) q e z (nat_abs-le z small) refl;
      keeps = keeps;
    }

-- the sum of the first j numbers, and of one more, as a callee gives it
pub sum_more : (f : ℕ → ℤ) {j : ℕ} {s y : ℤ} → s ≡ total f j → mag y < 2 ^ 31 → y ≡ f j → s +ℤ to_z w32 (of_z w32 y) ≡ total f (j + 1)
sum_more f {j} es small ey = ap₂ ◌+ℤ◌ es (to_z-of_z {w = w32} (record { sfits = small }) ∙ ey) ∙ sym (total-next f j)

pub sum-size : (f : ℕ → ℤ) {n : ℕ} → ((k : ℕ) → k < n → mag (f k) < 2 ^ 15) → n ≤ 128 → nat_abs (total f n) ≤ 2 ^ 22
sum-size f {n} small few = omega (arith, total_size f (2 ^ 15) n (λ k h. nat_abs-le (f k) (small k h)))

pub sum_fits : (f : ℕ → ℤ) {n : ℕ} → ((k : ℕ) → k < n → mag (f k) < 2 ^ 15) → n ≤ 128 → SFits w32 (total f n)
sum_fits f {n} small few = sized (total f n) (omega (arith, sum-size f small few))

pub no-sum : (f : ℕ → ℤ) → to_z w32 0 ≡ total f 0
unfolding total
no-sum f = refl
