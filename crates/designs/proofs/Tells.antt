-- What the number of a refusal tells, where it is known of each operand whether it is inside: 4 that the first is not, 20 that the first is and
-- the second is not.
use mathlib.Core.Path.{◌≡◌}
use Prim.Native.Nat.{ℕ}
use mathlib.Core.Bool.{Bool, true, false}

abbrev pub Tells : ℕ → Bool → Bool → Type 0
Tells n a-inside b-inside = (n ≡ 4 → a-inside ≡ false) × (n ≡ 20 → (a-inside ≡ true) × (b-inside ≡ false))
