-- A layer's answer, laid out for C. Its number of rows is as it was, so what the layer promises of each row is promised of the struct's; where it
-- is refused there are no rows.
use mathlib.Core.Path.{◌≡◌, sym, ap, ◌∙◌}
use Prim.Native.Nat.{ℕ, ◌<◌}
use native.Mathlib.Omega.{arith}
use mathlib.Core.List.{List}
use lib.IntN.{ℤ}
use Rattle.designs.specs.Products.{design_of}
use Rattle.patterns.specs.Blocks.{place}
use Rattle.std.specs.Prelude.{Result, Ok, Err}
use Rattle.refusals.specs.Refusals.{answer}
use Rattle.refusals.specs.declared.Refusal.{Refusal}
use Rattle.layers.specs.Answers.{Layering, Row}
use Rattle.layers.specs.Layers.{row_of}
use Rattle.capi_layers.specs.Layers.{layer_struct, LayerStruct}
use Rattle.capi_layers.specs.declared.ScoredLayer.{ScoredLayer}

module _ {design setting : ℕ} {store : List ℤ} {columns : ℕ} {fs before after : List ℤ} where
  pub laid_out : {result : Result ℕ Refusal} (a : Result ℕ Refusal) → result ≡ a → {r : ScoredLayer}
      → Layering design setting store columns fs before after result → r ≡ layer_struct (answer a)
      → LayerStruct design setting store columns fs before after r
  laid_out {result} a e {r} promise laid =
      record {
        outcome = laid ∙ ap (λ (a : Result ℕ Refusal). layer_struct (answer a)) (sym e) ∙ ap layer_struct promise.outcome;
        written = promise.written;
        row = rows a (ap answer e) laid;
      }
    where
      rows : (a : Result ℕ Refusal) → answer result ≡ answer a → r ≡ layer_struct (answer a) → (k : ℕ) → k < r.rows
          → Row (design_of design setting) (row_of store columns k) fs (place after k)
      rows (Ok n) e laid k h = promise.row n e k (omega (arith, ap (λ (s : ScoredLayer). s.rows) laid))
      rows (Err n) e laid k h = absurd (omega (arith, ap (λ (s : ScoredLayer). s.rows) laid))
