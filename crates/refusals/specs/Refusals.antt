-- The number that docs/SCOPE.md gives each refusal, and what a result says of an operation. Definitions only.
use Rattle.std.specs.Prelude.{ℕ, false, Result, Ok, Err}
use Rattle.designs.specs.Outcomes.{Outcome, accepted, refused}
use Rattle.designs.specs.Products.{unknown_design, unknown_width, setting_out_of_range, first_outside_width, second_outside_width}
use Rattle.designs.specs.Scoring.{lengths_differ, too_many_pairs, residues_too_short}
use Rattle.refusals.specs.declared.Refusal.{Refusal}
use Rattle.refusals.specs.declared.Refusal.TheVariants as R

-- Those of products and rows stand at their definitions, whatever the test finds; the definitions of the others cite theirs from here.
abbrev pub number : Refusal → ℕ
number R.UnknownDesign = (unknown_design 0).number
number R.UnknownWidth = (unknown_width 0).number
number R.SettingOutOfRange = (setting_out_of_range 0 0 0).number
number R.FirstOperandOutsideWidth = (first_outside_width false).number
number R.SecondOperandOutsideWidth = (second_outside_width false).number
number R.LengthsDiffer = (lengths_differ 0 0).number
number R.TooManyPairs = (too_many_pairs 0).number
number R.ResiduesTooShort = (residues_too_short 0 0).number
number R.NotFinite = 8
number R.Subnormal = 9
number R.ExponentTooLarge = 10
number R.ExponentTooSmall = 11
number R.ColumnsOutOfRange = 12
number R.UnevenStore = 13
number R.NoSuchRow = 14
number R.ScoresTooShort = 21
number R.ShiftTooLarge = 15
number R.SizeTooLarge = 16
number R.UnknownKind = 17
number R.CutShort = 18
number R.InputTooLong = 19

-- the number of the refusal, or 0
abbrev pub refused_by : {X : Type 0} → Result X Refusal → ℕ
refused_by (Ok x) = 0
refused_by (Err r) = number r

-- the answer, a value being what f makes of it
abbrev pub answer_by : {X Y : Type 0} → (X → Y) → Result X Refusal → Outcome Y
answer_by f (Ok x) = accepted (f x)
answer_by f (Err r) = refused (number r)

-- the answer, as it is
abbrev pub answer : {X : Type 0} → Result X Refusal → Outcome X
answer = answer_by (λ x. x)
