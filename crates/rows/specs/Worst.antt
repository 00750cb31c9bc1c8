-- The worst of the first pairs of a row, as the code keeps it. Definitions only.
use Rattle.std.specs.Prelude.{◌≡◌, cond, List, ℕ, ◌+◌, ◌-◌, ◌≤◌, ◌<◌, ltb, ℤ, pos, nat_abs, length}
use Rattle.designs.specs.Worst as designs
use Rattle.patterns.specs.Blocks.{place}
use Rattle.blocks.specs.Counts.{greatest}
use Rattle.rows.specs.declared.worst.Worst.{Worst}

-- the worst of n pairs whose residues are z
abbrev pub WorstOf : (ℕ → ℤ) → ℕ → Worst → Type 0
WorstOf z n w = designs.Worst z n w.size w.place

-- of no pairs
abbrev pub no_worst : Worst
no_worst = record { size = 0; place = 0 }

-- with the residue r of place `at`
abbrev pub with_residue : Worst → ℤ → ℕ → Worst
with_residue w r at = cond (ltb w.size (nat_abs r)) (record { size = nat_abs r; place = at }) w

-- The first places of a block hold the residues of the pairs from `from` up to `end`.
pub record InBlock (z : ℕ → ℤ) (block : List ℤ) (from end : ℕ) : Type 0 where
  pub upward : from ≤ end
  pub pairs : end ≤ 4096
  pub few : end - from ≤ 64
  pub places : end - from ≤ length block
  pub filled : (k : ℕ) → k < end - from → place block k ≡ z (from + k)

-- what comparing a block with the pairs before it asks
pub record Comparable (z : ℕ → ℤ) (w : Worst) (largest : ℤ) (block : List ℤ) (from end : ℕ) : Type 0 where
  pub so_far : WorstOf z from w
  pub in_block : InBlock z block from end
  pub is : largest ≡ pos (greatest (λ k. nat_abs (z (from + k))) (end - from))

-- p is the first of n places that has a number of this size, or 64
pub record First (block : List ℤ) (size n p : ℕ) : Type 0 where
  pub inside : p ≤ 64
  pub found : p < 64 → (p < n) × (nat_abs (place block p) ≡ size)
  pub none : (k : ℕ) → k < n → k < p → nat_abs (place block k) ≡ size → ⊥
