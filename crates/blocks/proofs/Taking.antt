-- A block by any design. Where one loop fills it and adds its pairs up, a turn puts the next residue to its place and into the sums. Where
-- the sums come after, they are those of what the block holds, which are the residues.
use mathlib.Core.Path.{◌≡◌, refl, sym, ap₂, ◌∙◌}
use mathlib.Core.List.{List}
use Prim.Native.Nat.{ℕ, ◌+◌, ◌^◌, ◌≤◌, ◌<◌}
use native.Mathlib.Omega.{arith}
use lib.IntN.{ℤ, nat_abs}
use lib.ListN.{length, set}
use lib.Signed.{mag, nat_abs-le}
use mir.Syntax.{w16, w32}
use mir.Val.{to_z, of_z}
use mir.Facts.{to_z-of_z}
use Rattle.designs.specs.Designs.{Design, KeepsBit}
use Rattle.designs.specs.Signs.{residue}
use Rattle.designs.proofs.Cases.{either_lt}
use Rattle.pairs.proofs.Integers.{read_back}
use Rattle.patterns.specs.Blocks.{place}
use Rattle.patterns.proofs.Blocks.{all_done, next-done, none_done}
use Rattle.patterns.proofs.Pair.{residue-size}
use Rattle.blocks.specs.Residues.{of_pair, Residues}
use Rattle.blocks.specs.Sums.{Adds, Held, no_sums, Roomy, Taken, taken, with_pair}
use Rattle.blocks.specs.declared.sums.BlockSums.{BlockSums}
use Rattle.blocks.proofs.Adding.{added-as, all-added, none-added, roomy, turned}

-- what the loops keep after j of n pairs
pub record SoFar (D : Design) (ws fs before after : List ℤ) (n j : ℕ) (s : BlockSums) : Type 0 where
  pub inside : j ≤ n
  pub residues : Residues D ws fs j before after
  pub adds : Adds (of_pair (residue D) ws fs) (place ws) (place fs) j s

-- two 16-bit numbers as they are read, and a residue as a callee gives it
pub record Read (D : Design) (w x r : ℤ) : Type 0 where
  pub weight : mag w < 2 ^ 15
  pub number : mag x < 2 ^ 15
  pub ok : mag r < 2 ^ 31
  pub is : r ≡ residue D (to_z w16 (of_z w16 w)) (to_z w16 (of_z w16 x))

module _ {D : Design} {w x r : ℤ} (pair : Read D w x r) where
  read : to_z w32 (of_z w32 r) ≡ residue D w x
  read = read_back pair.ok (pair.is ∙ ap₂ (residue D) (to_z-of_z {w = w16} (record { sfits = pair.weight })) (to_z-of_z {w = w16} (record { sfits = pair.number })))

  small : KeepsBit D → nat_abs (to_z w32 (of_z w32 r)) < 2 ^ 31
  small keeps = rw read (residue-size D keeps w x (nat_abs-le w pair.weight) (nat_abs-le x pair.number))

module _ {D : Design} {ws fs before : List ℤ} {n : ℕ} where
  pub begun : {s : BlockSums} → s ≡ no_sums → SoFar D ws fs before before n 0 s
  begun e = record { inside = omega arith; residues = none_done _ before; adds = none-added _ _ _ e }

  module _ {after : List ℤ} {j : ℕ} {s : BlockSums} {r : ℤ} (so_far : SoFar D ws fs before after n j s) (pair : Read D (place ws j) (place fs j) r) where
    pub ready : KeepsBit D → n ≤ 64 → Roomy s × (nat_abs (to_z w32 (of_z w32 r)) < 2 ^ 31)
    ready keeps few = (roomy so_far.adds (omega (arith, so_far.inside)), small pair keeps)

    pub next : {s' : BlockSums} → j < n → j < length before → s' ≡ with_pair s (to_z w16 (of_z w16 (place ws j))) (to_z w16 (of_z w16 (place fs j))) (to_z w32 (of_z w32 r))
        → SoFar D ws fs before (set after j (to_z w32 (of_z w32 r))) n (j + 1) s'
    next h room e =
        record {
          inside = omega arith;
          residues = next-done _ j _ so_far.residues room (read pair);
          adds = turned so_far.adds pair.weight pair.number (read pair) e;
        }

  pub taken-all : {after : List ℤ} {j : ℕ} {s : BlockSums} → SoFar D ws fs before after n j s → n ≤ j → n ≡ taken ws fs → Taken D ws fs before after s
  taken-all so_far h e =
      record { filled = all_done so_far.residues (omega (arith, so_far.inside)) (omega arith); adds = all-added so_far.adds so_far.inside h e }

-- the same of a loop that only fills
pub record FilledSoFar (D : Design) (ws fs before after : List ℤ) (n j : ℕ) : Type 0 where
  pub inside : j ≤ n
  pub residues : Residues D ws fs j before after
  pub small : (k : ℕ) → k < j → nat_abs (of_pair (residue D) ws fs k) < 2 ^ 31

module _ {D : Design} {ws fs before : List ℤ} {n : ℕ} where
  pub none_filled : FilledSoFar D ws fs before before n 0
  none_filled = record { inside = omega arith; residues = none_done _ before; small = λ k h. absurd (omega arith) }

  module _ {after : List ℤ} {j : ℕ} (so_far : FilledSoFar D ws fs before after n j) where
    pub next-filled : KeepsBit D → {r : ℤ} → Read D (place ws j) (place fs j) r → j < n → j < length before → FilledSoFar D ws fs before (set after j (to_z w32 (of_z w32 r))) n (j + 1)
    next-filled keeps pair h room =
        record {
          inside = omega arith;
          residues = next-done _ j _ so_far.residues room (read pair);
          small = λ k l. either_lt k j (so_far.small k) (λ m. let e : k ≡ j = omega arith in rw (e, sym (read pair)) (small pair keeps));
        }

    pub all-filled : n ≤ j → n ≡ taken ws fs → 64 ≤ length before → Residues D ws fs (taken ws fs) before after × Held ws fs after
    all-filled h e room =
        let all : Residues D ws fs (taken ws fs) before after = all_done so_far.residues (omega (arith, so_far.inside)) (omega arith) in
        (all, record { places = omega (arith, all.size); small = λ k l. rw (all.first k l) (so_far.small k (omega (arith, so_far.inside))) })

-- a filled block, added up
pub then-added : {D : Design} {ws fs before after : List ℤ} {s : BlockSums} → Residues D ws fs (taken ws fs) before after → Adds (place after) (place ws) (place fs) (taken ws fs) s → Taken D ws fs before after s
then-added filled adds = record { filled = filled; adds = added-as (λ k h. (filled.first k h, refl, refl)) adds }
