-- What an answer of a layer says, and what it promises. Definitions only.
use Rattle.std.specs.Prelude.{◌≡◌, List, ℕ, ◌<◌, ℤ, nat_abs, ◌-ℤ◌, Result}
use Rattle.designs.specs.Demand.{Bounded, Demand}
use Rattle.designs.specs.Designs.{Design}
use Rattle.designs.specs.Outcomes.{accepted}
use Rattle.designs.specs.Products.{design_of}
use Rattle.designs.specs.Rows.{report}
use Rattle.patterns.specs.Blocks.{place}
use Rattle.layers.specs.Layers.{layer_outcome, layer_written, row_of}
use Rattle.refusals.specs.Refusals.{answer}
use Rattle.refusals.specs.declared.Refusal.{Refusal}

-- A place that is written has the score of its row alone, and the third demand, which holds of that row's report, bounds the true sum less
-- what stands at the place.
pub record Row (D : Design) (ws fs : List ℤ) (score : ℤ) : Type 0 where
  pub alone : score ≡ (report D ws fs).score
  pub demand : Demand D ws fs (report D ws fs)
  pub bounded : let r = report D ws fs in Bounded D (nat_abs (r.true_sum -ℤ score)) r.magnitude_sum r.nonzero_pairs

-- The promise: the answer is the definition's, the slice holds what the definition says, and of every row that is counted its place has what
-- a place must.
pub record Layering (design setting : ℕ) (store : List ℤ) (columns : ℕ) (fs before after : List ℤ) (result : Result ℕ Refusal) : Type 0 where
  pub outcome : answer result ≡ layer_outcome design setting store columns fs before
  pub written : after ≡ layer_written design setting store columns fs before
  pub row : (n : ℕ) → answer result ≡ accepted n → (r : ℕ) → r < n → Row (design_of design setting) (row_of store columns r) fs (place after r)
