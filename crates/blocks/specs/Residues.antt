-- The residues of the first pairs of two slices, in the first places of a block. Definitions only.
use Rattle.std.specs.Prelude.{List, ℕ, ◌+◌, ℤ}
use Rattle.designs.specs.Designs.{Design, staged}
use Rattle.designs.specs.Signs.{left_ℤ, residue}
use Rattle.patterns.specs.Blocks.{Done, joined, place}

-- q of pair k of two slices
abbrev pub of_pair : {X : Type 0} → (ℤ → ℤ → X) → List ℤ → List ℤ → ℕ → X
of_pair q ws fs k = q (place ws k) (place fs k)

-- the first n places hold the residues of the first n pairs, and the later ones what they held before
abbrev pub Residues : Design → List ℤ → List ℤ → ℕ → List ℤ → List ℤ → Type 0
Residues D ws fs n before after = Done (of_pair (residue D) ws fs) n before after

-- by stages, with two places for a pair: behind the residues stands what the stages leave of the frame
abbrev pub ResiduesByStages : ℕ → List ℤ → List ℤ → ℕ → List ℤ → List ℤ → Type 0
ResiduesByStages s ws fs n before after = Done (joined n (of_pair (residue (staged s)) ws fs) (λ k. left_ℤ s (place fs k))) (n + n) before after
