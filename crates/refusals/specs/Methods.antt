-- The design that a method is, and what judging a call's numbers promises. Definitions only.
use Rattle.std.specs.Prelude.{◌≡◌, ℕ, List, Result, IfOk}
use Rattle.designs.specs.Designs.{Design, mitchell, nearest, staged, truncated, twice_truncated}
use Rattle.designs.specs.Outcomes.{Refusal, first}
use Rattle.designs.specs.Products.{design_of}
use Rattle.refusals.specs.Refusals.{refused_by}
use Rattle.refusals.specs.declared.Refusal as D
use Rattle.refusals.specs.declared.methods.Method.{Method}
use Rattle.refusals.specs.declared.methods.Method.TheVariants as M

abbrev pub meant : Method → Design
meant M.Mitchell = mitchell
meant M.Nearest = nearest
meant (M.Staged s) = staged s
meant (M.Truncated t) = truncated t
meant (M.TwiceTruncated t) = twice_truncated t

-- The first of the refusals that applies is the answer's, and where none does, the answer is the design of that number with that setting.
pub record Judged (refusals : List Refusal) (design setting : ℕ) (result : Result Method D.Refusal) : Type 0 where
  pub refusal : refused_by result ≡ first refusals
  pub method : IfOk result (λ m. meant m ≡ design_of design setting)
