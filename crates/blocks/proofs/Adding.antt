-- What the pairs of a block add up to. Each sum grows by what the next pair has, and 64 pairs leave room in all of them; and a number is its
-- quotient by 2^16 and its rest, so that both halves of a sum make the sum.
use mathlib.Core.Path.{◌≡◌, refl, ap, ap₂, ◌∙◌, subst}
use Prim.Native.Nat.{ℕ, zero, suc, ◌+◌, ◌-◌, ◌*◌, ◌/◌, ◌%◌, ◌^◌, ◌≤◌, ◌<◌}
use native.Mathlib.Nat.{le_antisymm}
use native.Mathlib.Omega.{arith}
use mathlib.Core.Bool.{Bool, true, false, cond}
use lib.IntN.{ℤ, pos, nat_abs, ◌*ℤ◌}
use lib.Signed.{mag}
use mir.Syntax.{w16}
use mir.Val.{SFits, to_z, of_z}
use mir.Facts.{to_z-of_z}
use Rattle.designs.specs.Designs.{unless_zero}
use Rattle.designs.specs.Rows.{nonzero}
use Rattle.designs.specs.Signs.{negative}
use Rattle.designs.proofs.Cases.{either_lt}
use Rattle.pairs.specs.Sizes.{minus_size}
use Rattle.pairs.proofs.Integers.{true-size}
use Rattle.blocks.specs.Counts.{count, greatest}
use Rattle.blocks.specs.Sums.{Adds, no_sums, Roomy, sums_of, with_pair}
use Rattle.blocks.specs.declared.sums.BlockSums.{BlockSums}
use Rattle.blocks.proofs.Counts.{count-as, count_next, count-size, greatest-as, greatest-next}

pub counts-once : (w x : ℤ) → nonzero w x ≤ 1
counts-once w x = once (nat_abs w) (nat_abs x)
  where
    once : (A B : ℕ) → unless_zero A B 1 ≤ 1
    once zero B = omega arith
    once (suc A) zero = omega arith
    once (suc A) (suc B) = omega arith

minus-le : (z : ℤ) → minus_size z ≤ nat_abs z
minus-le z = go (negative z)
  where
    go : (s : Bool) → cond s (nat_abs z) 0 ≤ nat_abs z
    go true = omega arith
    go false = omega arith

-- the two halves of a sum
halves : (f : ℕ → ℕ) (n : ℕ) → count (λ k. f k / 65536) n * 65536 + count (λ k. f k % 65536) n ≡ count f n
unfolding count
halves f zero = refl
halves f (suc n) = omega (arith, halves f n)

pub none-added : (z w x : ℕ → ℤ) {s : BlockSums} → s ≡ no_sums → Adds z w x 0 s
unfolding sums_of count greatest
none-added z w x e = record { is = e; fits = λ k h. absurd (omega arith) }

module _ {z w x : ℕ → ℤ} {n : ℕ} {s : BlockSums} (sums : Adds z w x n s) where
  next-added : SFits w16 (w n) → SFits w16 (x n) → Adds z w x (n + 1) (with_pair s (w n) (x n) (z n))
  unfolding sums_of
  next-added hw hx =
      record {
        is =
            rw (
              sums.is,
              count_next (λ k. nat_abs (w k *ℤ x k) / 65536) n,
              count_next (λ k. nat_abs (w k *ℤ x k) % 65536) n,
              count_next (λ k. minus_size (w k *ℤ x k) / 65536) n,
              count_next (λ k. minus_size (w k *ℤ x k) % 65536) n,
              count_next (λ k. 1 - nonzero (w k) (x k)) n,
              greatest-next (λ k. nat_abs (z k)) n,
            ) refl;
        fits = λ k h. either_lt k n (sums.fits k) (λ b. let e : k ≡ n = omega arith in rw e (hw, hx));
      }

  -- the same with what a loop reads and its callee gives
  pub turned : {r : ℤ} {s' : BlockSums} → mag (w n) < 2 ^ 15 → mag (x n) < 2 ^ 15 → r ≡ z n → s' ≡ with_pair s (to_z w16 (of_z w16 (w n))) (to_z w16 (of_z w16 (x n))) r → Adds z w x (n + 1) s'
  turned hw hx er e =
      let fw : SFits w16 (w n) = record { sfits = hw } in
      let fx : SFits w16 (x n) = record { sfits = hx } in
      rw (e, to_z-of_z fw, to_z-of_z fx, er) (next-added fw fx)

  pub all-added : {m l : ℕ} → n ≤ m → m ≤ n → m ≡ l → Adds z w x l s
  all-added h g e = subst (λ (k : ℕ). Adds z w x k s) (le_antisymm h g ∙ e) sums

  -- the sums as they are meant
  pub sizes : s.sizes_high * 65536 + s.sizes_low ≡ count (λ k. nat_abs (w k *ℤ x k)) n
  unfolding sums_of
  sizes = rw sums.is (halves (λ k. nat_abs (w k *ℤ x k)) n)

  pub minus : s.minus_high * 65536 + s.minus_low ≡ count (λ k. minus_size (w k *ℤ x k)) n
  unfolding sums_of
  minus = rw sums.is (halves (λ k. minus_size (w k *ℤ x k)) n)

  pub zeros : s.zero_pairs + count (λ k. nonzero (w k) (x k)) n ≡ n
  unfolding sums_of count
  zeros = rw sums.is (counted n)
    where
      counted : (m : ℕ) → count (λ k. 1 - nonzero (w k) (x k)) m + count (λ k. nonzero (w k) (x k)) m ≡ m
      counted zero = refl
      counted (suc m) = omega (arith, counted m, counts-once (w m) (x m))

  pub largest : s.largest ≡ pos (greatest (λ k. nat_abs (z k)) n)
  unfolding sums_of
  largest = rw sums.is refl

  pub roomy : n ≤ 64 → Roomy s
  unfolding sums_of
  roomy h =
      rw sums.is
      (record {
        sizes-high = omega (arith, count-size (λ k. nat_abs (w k *ℤ x k) / 65536) 65535 n (λ k l. omega (arith, size k l)));
        sizes-low = omega (arith, count-size (λ k. nat_abs (w k *ℤ x k) % 65536) 65535 n (λ k l. omega arith));
        minus-high = omega (arith, count-size (λ k. minus_size (w k *ℤ x k) / 65536) 65535 n (λ k l. omega (arith, size k l, minus-le (w k *ℤ x k))));
        minus-low = omega (arith, count-size (λ k. minus_size (w k *ℤ x k) % 65536) 65535 n (λ k l. omega arith));
        pairs = omega (arith, count-size (λ k. 1 - nonzero (w k) (x k)) 1 n (λ k l. omega arith));
        largest = refl;
      })
    where
      size : (k : ℕ) → k < n → nat_abs (w k *ℤ x k) ≤ 2 ^ 30
      size k l = true-size (sums.fits k l).0 (sums.fits k l).1

-- with the same of each pair in other words
pub added-as : {z z' w w' x x' : ℕ → ℤ} {n : ℕ} {s : BlockSums} → ((k : ℕ) → k < n → (z k ≡ z' k) × (w k ≡ w' k) × (x k ≡ x' k)) → Adds z w x n s → Adds z' w' x' n s
unfolding sums_of
added-as {z} {z'} {w} {w'} {x} {x'} {n} same a =
    record {
      is =
          a.is
          ∙ rw (
            of-pairs (λ u v. nat_abs (u *ℤ v) / 65536),
            of-pairs (λ u v. nat_abs (u *ℤ v) % 65536),
            of-pairs (λ u v. minus_size (u *ℤ v) / 65536),
            of-pairs (λ u v. minus_size (u *ℤ v) % 65536),
            of-pairs (λ u v. 1 - nonzero u v),
            greatest-as n (λ k h. ap nat_abs (same k h).0),
          ) refl;
      fits = λ k h. (subst (SFits w16) (same k h).1 (a.fits k h).0, subst (SFits w16) (same k h).2 (a.fits k h).1);
    }
  where
    of-pairs : (q : ℤ → ℤ → ℕ) → count (λ k. q (w k) (x k)) n ≡ count (λ k. q (w' k) (x' k)) n
    of-pairs q = count-as n (λ k h. ap₂ q (same k h).1 (same k h).2)
