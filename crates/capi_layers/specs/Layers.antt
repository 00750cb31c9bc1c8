-- How the outcome of a layer is laid out for C, and what is promised of it. Definitions only.
use Rattle.std.specs.Prelude.{◌≡◌, List, ℕ, ◌<◌, ℤ}
use Rattle.designs.specs.Outcomes.{Outcome, accepted, refused}
use Rattle.designs.specs.Products.{design_of}
use Rattle.patterns.specs.Blocks.{place}
use Rattle.layers.specs.Answers.{Row}
use Rattle.layers.specs.Layers.{layer_outcome, layer_written, row_of}
use Rattle.capi_layers.specs.declared.ScoredLayer.{ScoredLayer}

-- A refusal of 0 with the number of rows, or the refusal's number with no rows.
abbrev pub layer_struct : Outcome ℕ → ScoredLayer
layer_struct (accepted n) = record { rows = n; refusal = 0 }
layer_struct (refused k) = record { rows = 0; refusal = k }

-- The promise, as that of the layer itself.
pub record LayerStruct (design setting : ℕ) (store : List ℤ) (columns : ℕ) (fs before after : List ℤ) (r : ScoredLayer) : Type 0 where
  pub outcome : r ≡ layer_struct (layer_outcome design setting store columns fs before)
  pub written : after ≡ layer_written design setting store columns fs before
  pub row : (k : ℕ) → k < r.rows → Row (design_of design setting) (row_of store columns k) fs (place after k)
