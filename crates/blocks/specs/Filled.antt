-- What a row asks of a block, and that each promise of one gives it.
use Rattle.std.specs.Prelude.{◌≡◌, ℕ, ◌<◌, List, ℤ, length}
use Rattle.std.proofs.Common.{arith, ◌∙◌}
use Rattle.designs.specs.Designs.{Design, staged}
use Rattle.designs.specs.Signs.{left_ℤ, residue}
use Rattle.patterns.specs.Blocks.{place}
use Rattle.patterns.proofs.Blocks.{in-first}
use Rattle.blocks.specs.Residues.{of_pair}
use Rattle.blocks.specs.Sums.{Adds, Taken, taken, TakenByStages}
use Rattle.blocks.specs.declared.sums.BlockSums.{BlockSums}

-- the first places hold the residues, whatever the later ones do, and the pairs add up to s
pub record Filled (D : Design) (ws fs before after : List ℤ) (s : BlockSums) : Type 0 where
  pub size : length after ≡ length before
  pub first : (k : ℕ) → k < taken ws fs → place after k ≡ of_pair (residue D) ws fs k
  pub adds : Adds (of_pair (residue D) ws fs) (place ws) (place fs) (taken ws fs) s

pub of-taken : {D : Design} {ws fs before after : List ℤ} {s : BlockSums} → Taken D ws fs before after s → Filled D ws fs before after s
of-taken by = record { size = by.filled.size; first = by.filled.first; adds = by.adds }

pub of-stages : {t : ℕ} {ws fs before after : List ℤ} {s : BlockSums} → TakenByStages t ws fs before after s → Filled (staged t) ws fs before after s
of-stages {t} {ws} {fs} by =
    record {
      size = by.filled.size;
      first = λ k h. by.filled.first k (omega arith) ∙ in-first (taken ws fs) (of_pair (residue (staged t)) ws fs) (λ i. left_ℤ t (place fs i)) k h;
      adds = by.adds;
    }
