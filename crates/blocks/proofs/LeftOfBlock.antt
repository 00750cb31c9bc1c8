-- Design 3 on a block: what the stages leave of a weight, and n places behind it of its number of the frame. Both multiplied are the
-- residue of the pair.
use mathlib.Core.Path.{◌≡◌, refl, sym, ap, ap₂, ◌∙◌}
use Prim.Native.Nat.{ℕ, ◌+◌, ◌-◌, ◌/◌, ◌^◌, ◌≤◌, ◌<◌}
use native.Mathlib.Nat.{mul-le-mul}
use native.Mathlib.Omega.{arith}
use mathlib.Core.List.{List, ◌++◌}
use lib.IntN.{ℤ, pos, nat_abs, ◌*ℤ◌}
use lib.ListN.{length, get_or-append, length-append}
use lib.Seq.{get_or-append_right}
use Rattle.std.proofs.lemmas.List.{get_or-append-add}
use Rattle.designs.specs.Designs.{staged}
use Rattle.designs.specs.Signs.{left_ℤ, residue}
use Rattle.designs.proofs.Cases.{either_lt}
use Rattle.designs.proofs.Sizes.{size-true}
use Rattle.designs.proofs.SignedLeft.{staged-left}
use Rattle.pairs.specs.Lengths.{pairs_of}
use Rattle.patterns.specs.Blocks.{Done, joined, Left, place, Small}
use Rattle.patterns.proofs.Blocks.{behind, in-first, in-second}
use Rattle.blocks.specs.Residues.{of_pair, ResiduesByStages}
use Rattle.blocks.specs.Sums.{Adds, Held, taken, TakenByStages}
use Rattle.blocks.specs.declared.sums.BlockSums.{BlockSums}
use Rattle.blocks.proofs.Adding.{added-as}

module _ (s : ℕ) (ws fs : List ℤ) (n : ℕ) {before block after : List ℤ} (left : Left s ws fs n before block)
    (d : Done (λ k. place block k *ℤ place block (n + k)) n block after) where
  weight : (k : ℕ) → k < n → place block k ≡ left_ℤ s (place ws k)
  weight k h = left.done.first k (omega arith) ∙ ap (left_ℤ s) (in-first n (place ws) (place fs) k h)

  number : (k : ℕ) → k < n → place block (n + k) ≡ left_ℤ s (place fs k)
  number k h = left.done.first (n + k) (omega arith) ∙ ap (left_ℤ s) (behind n (place ws) (place fs) k)

  abbrev residues : ℕ → ℤ
  residues = of_pair (residue (staged s)) ws fs

  abbrev of-frame : ℕ → ℤ
  of-frame k = left_ℤ s (place fs k)

  multiplied : Done (joined n residues of-frame) (n + n) before after
  multiplied =
      record {
        size = d.size ∙ left.done.size;
        first =
            λ k h. either_lt k n
            (λ l. d.first k l ∙ ap₂ ◌*ℤ◌ (weight k l) (number k l) ∙ sym (staged-left s (place ws k) (place fs k)) ∙ sym (in-first n residues of-frame k l))
            (λ l. d.later k l ∙ left.done.first k h ∙ ap (left_ℤ s) (in-second n (place ws) (place fs) k l) ∙ sym (in-second n residues of-frame k l));
        later = λ k h. d.later k (omega arith) ∙ left.done.later k h;
      }

  small : (k : ℕ) → k < n → nat_abs (place after k) < 2 ^ 31
  small k h =
      rw (d.first k h)
      (omega (arith, size-true (place block k) (place block (n + k)), mul-le-mul (left.small.at k (omega arith)) (left.small.at (n + k) (omega arith))))

  pub filled : length before ≡ 128 → n ≡ pairs_of (length ws) (length fs) (length before / 2) → ResiduesByStages s ws fs (taken ws fs) before after × Held ws fs after
  filled l e =
      let same : n ≡ taken ws fs = omega arith in
      (rw (sym same) multiplied, record { places = omega (arith, multiplied.size); small = λ k h. small k (omega arith) })

-- a block in two parts, of which the first n places are lent alone
module _ (us vs : List ℤ) {n : ℕ} (size : length us ≡ n) where
  front_at : (k : ℕ) → k < n → place (us ++ vs) k ≡ place us k
  front_at k h = get_or-append us vs (pos 0) k (omega arith)

  behind_at : (k : ℕ) → place (us ++ vs) (n + k) ≡ place vs k
  behind_at k = rw (sym size) (get_or-append-add us vs k (pos 0))

  pub both-small : Small (n + n) (us ++ vs) → Small (length us) us × Small (length us) vs
  both-small s = (
    record { room = omega arith; at = λ k h. rw (sym (front_at k (omega arith))) (s.at k (omega arith)) },
    record { room = omega (arith, s.room, length-append us vs); at = λ k h. rw (sym (behind_at k)) (s.at (n + k) (omega arith)) },
  )

  pub products : {part : List ℤ} → Done (λ k. place us k *ℤ place vs k) (length us) us part
      → Done (λ k. place (us ++ vs) k *ℤ place (us ++ vs) (n + k)) n (us ++ vs) (part ++ vs)
  products {part} d =
      record {
        size = omega (arith, d.size, length-append part vs, length-append us vs);
        first = λ k h. get_or-append part vs (pos 0) k (omega (arith, d.size)) ∙ d.first k (omega arith) ∙ ap₂ ◌*ℤ◌ (sym (front_at k h)) (sym (behind_at k));
        later = λ k h. beyond part k h (d.size ∙ size) ∙ sym (beyond us k h size);
      }
    where
      beyond : (xs : List ℤ) (k : ℕ) → n ≤ k → length xs ≡ n → place (xs ++ vs) k ≡ place vs (k - n)
      beyond xs k h e = get_or-append_right xs vs k (pos 0) (omega arith) ∙ ap (place vs) (omega arith)

-- the sums of a block that holds the residues in its first places
pub then-added : {t : ℕ} {ws fs before after : List ℤ} {s : BlockSums} → ResiduesByStages t ws fs (taken ws fs) before after → Adds (place after) (place ws) (place fs) (taken ws fs) s → TakenByStages t ws fs before after s
then-added {t} {ws} {fs} filled adds =
    record { filled = filled; adds = added-as (λ k h. (filled.first k (omega arith) ∙ in-first (taken ws fs) (of_pair (residue (staged t)) ws fs) (λ i. left_ℤ t (place fs i)) k h, refl, refl)) adds }
