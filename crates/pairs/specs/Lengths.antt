-- How many pairs two slices have. Definitions only.
use Rattle.std.specs.Prelude.{ℕ, min}

-- how many are taken of two slices of these lengths, where there is room for so many
abbrev pub pairs_of : ℕ → ℕ → ℕ → ℕ
pairs_of weights frame room = min (min weights frame) room
