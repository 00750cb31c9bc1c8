-- The first place of a block that has a number of some size: with a place more it is the smaller of the first so far and of this place, where
-- the number has the size, or else of 64.
use mathlib.Core.Path.{◌≡◌, sym, ap, ◌∙◌}
use mathlib.Core.Bool.{cond}
use mathlib.Core.List.{List}
use Prim.Native.Nat.{ℕ, min, ◌+◌, ◌≤◌, ◌<◌}
use native.Mathlib.Omega.{arith}
use borrow.Author.Tests.{eqb-false, eqb-true}
use lib.Dec.{eqb}
use lib.ListN.{length, take}
use lib.Seq.{get_or-take, length-take-le}
use lib.IntN.{ℤ, pos, nat_abs}
use Rattle.designs.proofs.Cases.{by_bool, either_lt}
use Rattle.patterns.specs.Blocks.{place}
use Rattle.rows.specs.Worst.{First}

module _ {block : List ℤ} {size : ℕ} where
  pub none_yet : First block size 0 64
  none_yet = record { inside = omega arith; found = λ h. absurd (omega arith); none = λ k h. absurd (omega arith) }

  module _ {j p : ℕ} (so_far : First block size j p) (h : j < 64) where
    -- what was found stays, where the next place is not before it and has the size
    kept : (j < p → nat_abs (place block j) ≡ size → ⊥) → First block size (j + 1) p
    kept not-here =
        record {
          inside = so_far.inside;
          found = λ m. (omega (arith, (so_far.found m).0), (so_far.found m).1);
          none = λ k b m. either_lt k j (λ l. so_far.none k l m) (λ l. let e : k ≡ j = omega arith in rw e (not-here (omega arith)));
        }

    has : nat_abs (place block j) ≡ size → First block size (j + 1) (min p j)
    has e =
        either_lt p j (λ l. let same : min p j ≡ p = omega arith in rw same (kept (λ m. absurd (omega arith))))
        (λ l. let same : min p j ≡ j = omega arith in
        rw same (record { inside = omega arith; found = λ m. (omega arith, e); none = λ k b m. so_far.none k m (omega arith) }))

    has-not : (nat_abs (place block j) ≡ size → ⊥) → First block size (j + 1) (min p 64)
    has-not ne = let same : min p 64 ≡ p = omega (arith, so_far.inside) in rw same (kept (λ m. ne))

    pub next : First block size (j + 1) (min p (cond (eqb (nat_abs (place block j)) size) j 64))
    next =
        by_bool (λ b. First block size (j + 1) (min p (cond b j 64))) (eqb (nat_abs (place block j)) size) (λ t. has (eqb-true _ _ t)) (λ t. has-not (eqb-false _ _ t))

    -- the same with what the callees of a turn give
    pub next-by : {q r : ℕ} → r ≡ cond (eqb (nat_abs (place block j)) size) j 64 → q ≡ min p r → First block size (j + 1) q
    next-by is least = rw (least ∙ ap (min p) is) next

-- in the first n places, lent alone
pub of-front : {block : List ℤ} {size n p : ℕ} → n ≤ length block → First (take n block) size (length (take n block)) p → First block size n p
of-front {block} {size} {n} room first =
    let places : length (take n block) ≡ n = length-take-le n block room in
    let same : (k : ℕ) → k < n → nat_abs (place (take n block) k) ≡ nat_abs (place block k) = λ k h. ap nat_abs (get_or-take n block k (pos 0) h) in
    record {
      inside = first.inside;
      found = λ h. let f = first.found h in let l : _ < n = omega (arith, f.0) in (l, sym (same _ l) ∙ f.1);
      none = λ k h l e. first.none k (omega arith) l (same k h ∙ e);
    }
