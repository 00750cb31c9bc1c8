-- The fields of a record's body (docs/SCOPE.md, "The bench program's records"). Definitions only.
use Rattle.std.specs.Prelude.{ℕ, ◌+◌, ◌-◌, ◌*◌, ◌^◌, cond, List, ltb, ℤ, pos, ◌-ℤ◌, get_or}

-- A field of one byte, of two and of four, at a place of a body: the lower byte stands first.
abbrev pub field8 : List ℕ → ℕ → ℕ
field8 b i = get_or b i 0

abbrev pub field16 : List ℕ → ℕ → ℕ
field16 b i = field8 b i + 256 * field8 b (i + 1)

abbrev pub field32 : List ℕ → ℕ → ℕ
field32 b i = field16 b i + 65536 * field16 b (i + 2)

-- The number that so many bits stand for by two's complement.
abbrev pub signed : ℕ → ℕ → ℤ
signed bits n = cond (ltb n (2 ^ (bits - 1))) (pos n) (pos n -ℤ pos (2 ^ bits))
