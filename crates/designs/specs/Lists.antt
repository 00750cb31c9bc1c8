-- Tests of a list and of the numbers below one, which compute where these are known. Definitions only.
use Rattle.std.specs.Prelude.{ℕ, zero, suc, Bool, true, false, ◌&&◌, ◌||◌, List, [], ◌∷◌, eqb}

-- A number is found in a list.
infix 70 ◌is_in◌
abbrev pub ◌is_in◌ : ℕ → List ℕ → Bool
n is_in [] = false
n is_in (m ∷ ms) = eqb n m || n is_in ms

-- A test passes at every number below n.
abbrev pub every_below : (ℕ → Bool) → ℕ → Bool
every_below p zero = true
every_below p (suc n) = p n && every_below p n
