-- The worst of some numbers. One number more in front either is worse than the rest or leaves its worst one place further on, so the
-- definitions give it; and as many more behind either keep it or have a worse one, which is how a loop finds it.
use mathlib.Core.Path.{◌≡◌, refl, sym, ap, subst, ◌∙◌}
use Prim.Native.Nat.{ℕ, zero, suc, ◌+◌, ◌-◌, ◌≤◌, ◌<◌}
use native.Mathlib.Nat.{le_of_lt, le_trans, max-eq_left, max-eq_right}
use native.Mathlib.Omega.{arith}
use mathlib.Core.List.{List, [], ◌∷◌}
use borrow.Author.Tests.{eq-eqb, ne_eqb}
use lib.IntN.{ℤ, pos, nat_abs}
use lib.ListN.{get_or, length}
use Rattle.designs.specs.Rows.{first_of_size, largest_size}
use Rattle.designs.specs.Worst.{Worst}
use Rattle.designs.proofs.Cases.{either-le, either_lt}

-- the number at a place
abbrev at : List ℤ → ℕ → ℤ
at zs k = get_or zs k (pos 0)

-- a number more in front
module _ (z : ℤ) (zs : List ℤ) {size place : ℕ} (rest : Worst (at zs) (length zs) size place) where
  worse : size ≤ nat_abs z → Worst (at (z ∷ zs)) (suc (length zs)) (nat_abs z) 0
  worse h = record { bounds = below; met = λ _. (omega arith, refl); earlier = λ k l. absurd (omega arith); none = λ e. absurd (omega arith) }
    where
      below : (k : ℕ) → k < suc (length zs) → nat_abs (at (z ∷ zs) k) ≤ nat_abs z
      below zero l = omega arith
      below (suc k) l = le_trans (rest.bounds k (omega arith)) h

  better : nat_abs z < size → Worst (at (z ∷ zs)) (suc (length zs)) size (suc place)
  better h =
      record {
        bounds = below;
        met = λ _. (omega (arith, (rest.met some).0), (rest.met some).1);
        earlier = before;
        none = λ e. absurd (omega arith);
      }
    where
      some : 0 < length zs
      some = either_lt 0 (length zs) (λ l. l) (λ l. absurd (omega (arith, (rest.none (omega arith)).0)))

      below : (k : ℕ) → k < suc (length zs) → nat_abs (at (z ∷ zs) k) ≤ size
      below zero l = omega arith
      below (suc k) l = rest.bounds k (omega arith)

      before : (k : ℕ) → k < suc place → nat_abs (at (z ∷ zs) k) < size
      before zero l = h
      before (suc k) l = rest.earlier k (omega arith)

pub worst-of : (zs : List ℤ) → Worst (at zs) (length zs) (largest_size zs) (first_of_size (largest_size zs) zs)
unfolding largest_size first_of_size
worst-of [] =
    record { bounds = λ k l. absurd (omega arith); met = λ l. absurd (omega arith); earlier = λ k l. absurd (omega arith); none = λ e. (refl, refl) }
worst-of (z ∷ zs) =
    either-le (largest_size zs) (nat_abs z)
    (λ l. rw (max-eq_left l, eq-eqb (nat_abs z) (nat_abs z) refl) (worse z zs (worst-of zs) l))
    (λ l. let largest : largest_size zs ≡ largest_size (z ∷ zs) = sym (max-eq_right (le_of_lt l)) in
    subst (λ (n : ℕ). Worst (at (z ∷ zs)) (suc (length zs)) n (first_of_size n (z ∷ zs))) largest
    (rw (ne_eqb (nat_abs z) (largest_size zs) (λ e. omega arith)) (better z zs (worst-of zs) l)))

-- of the same numbers in other words
pub worst-as : {y z : ℕ → ℤ} {n size place : ℕ} → ((k : ℕ) → k < n → y k ≡ z k) → Worst y n size place → Worst z n size place
worst-as {y} {z} {n} {size} {place} same w =
    record {
      bounds = λ k h. rw (ap nat_abs (same k h)) at (w.bounds k h);
      met = λ h. let found = w.met h in (found.0, sym (ap nat_abs (same place found.0)) ∙ found.1);
      earlier = λ k h. rw (ap nat_abs (same k (inside k h))) at (w.earlier k h);
      none = w.none;
    }
  where
    inside : (k : ℕ) → k < place → k < n
    inside k h = either_lt 0 n (λ l. omega (arith, (w.met l).0)) (λ l. absurd (omega (arith, (w.none (omega arith)).1)))

-- no other size and place
pub only : {z : ℕ → ℤ} {n a p b q : ℕ} → Worst z n a p → Worst z n b q → (a ≡ b) × (p ≡ q)
only {z} {n} {a} {p} {b} {q} v w = either_lt 0 n some (λ h. none (omega arith))
  where
    none : n ≡ 0 → (a ≡ b) × (p ≡ q)
    none e = (omega (arith, (v.none e).0, (w.none e).0), omega (arith, (v.none e).1, (w.none e).1))

    some : 0 < n → (a ≡ b) × (p ≡ q)
    some h =
        let first : nat_abs (z p) ≡ a = (v.met h).1 in
        let second : nat_abs (z q) ≡ b = (w.met h).1 in
        let size : a ≡ b = omega (arith, w.bounds p (v.met h).0, v.bounds q (w.met h).0) in
        (size, either_lt p q (λ l. absurd (omega (arith, w.earlier p l))) (λ l. either_lt q p (λ m. absurd (omega (arith, v.earlier q m))) (λ m. omega arith)))

-- none yet
pub none_yet : (z : ℕ → ℤ) → Worst z 0 0 0
none_yet z = record { bounds = λ k l. absurd (omega arith); met = λ l. absurd (omega arith); earlier = λ k l. absurd (omega arith); none = λ e. (refl, refl) }

-- m more behind
module _ {z : ℕ → ℤ} {n size place : ℕ} (so_far : Worst z n size place) (m : ℕ) where
  -- a number is among the first n, or among those behind
  here-or-behind : (Q : ℕ → Type 0) → ((k : ℕ) → k < n → Q k) → ((k : ℕ) → k < m → Q (n + k)) → (k : ℕ) → k < n + m → Q k
  here-or-behind Q f g k h = either_lt k n (f k) (λ l. let e : n + (k - n) ≡ k = omega arith in rw e at (g (k - n) (omega arith)))

  pub kept : ((k : ℕ) → k < m → nat_abs (z (n + k)) ≤ size) → Worst z (n + m) size place
  kept small =
      record {
        bounds = here-or-behind (λ k. nat_abs (z k) ≤ size) so_far.bounds small;
        met = λ h. either_lt 0 n (λ l. (omega (arith, (so_far.met l).0), (so_far.met l).1)) (λ l. begun h (omega arith));
        earlier = so_far.earlier;
        none = λ e. so_far.none (omega arith);
      }
    where
      begun : 0 < n + m → n ≡ 0 → (place < n + m) × (nat_abs (z place) ≡ size)
      begun h e =
          let none = so_far.none e in
          (omega (arith, none.1), omega (arith, ap (λ (k : ℕ). nat_abs (z k)) none.1, none.0, ap (λ (k : ℕ). nat_abs (z (k + 0))) e, small 0 (omega arith)))

  pub replaced : {larger j : ℕ} → size < larger → ((k : ℕ) → k < m → nat_abs (z (n + k)) ≤ larger) → j < m → nat_abs (z (n + j)) ≡ larger
      → ((k : ℕ) → k < j → nat_abs (z (n + k)) < larger) → Worst z (n + m) larger (n + j)
  replaced {larger} {j} above small l e before =
      record {
        bounds = here-or-behind (λ k. nat_abs (z k) ≤ larger) (λ k h. omega (arith, so_far.bounds k h)) small;
        met = λ h. (omega arith, e);
        earlier = λ k h. either_lt k n (λ b. omega (arith, so_far.bounds k b)) (λ b. let q : n + (k - n) ≡ k = omega arith in rw q at (before (k - n) (omega arith)));
        none = λ q. absurd (omega arith);
      }
