-- A product that is not refused: its numbers are within what the kernels serve, so that the design that they compute is the one that is
-- meant.
use mathlib.Core.Path.{◌≡◌, sym, ap, ◌∙◌}
use Prim.Native.Nat.{ℕ}
use mathlib.Core.Bool.{Bool}
use Rattle.std.specs.Prelude.{Ok}
use Rattle.designs.specs.Outcomes.{first}
use Rattle.designs.specs.Products.{design_of, refusals}
use Rattle.designs.proofs.Accepted.{Settled, settled}
use Rattle.kernels.specs.Steps.{served}
use Rattle.kernels.proofs.Served.{serves}
use Rattle.refusals.specs.Methods.{Judged, meant}
use Rattle.refusals.specs.declared.methods.Method.{Method}

pub record Accepted (design width setting : ℕ) (a b : Bool) (m : Method) : Type 0 where
  pub none : 0 ≡ first (refusals design width setting a b)
  pub within : Settled design width setting a b
  pub meant : served (meant m) ≡ design_of design setting

module _ (design width setting : ℕ) (a b : Bool) where
  pub judged-ok : {m : Method} → Judged (refusals design width setting a b) design setting (Ok m) → Accepted design width setting a b m
  judged-ok judged =
      let within = settled design width setting a b (sym judged.refusal) in
      record {
        none = judged.refusal;
        within = within;
        meant = ap served judged.method ∙ serves (design_of design setting) within.few;
      }
