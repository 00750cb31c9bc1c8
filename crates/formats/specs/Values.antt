-- The number that a normal pattern stands for, in whole numbers: size / unit, with its sign (`Values.has_value`). Definitions only.
use Rattle.std.specs.Prelude.{ℕ, ◌+◌, ◌*◌, ◌^◌}
use Rattle.formats.specs.Formats.{Format, exponent_field, fraction_field, hidden}

module _ (f : Format) where
  -- the significand, the hidden one included, times 2 to the exponent field
  abbrev pub size : ℕ → ℕ
  size x = (hidden f + fraction_field f x) * 2 ^ exponent_field f x

  abbrev pub unit : ℕ
  unit = 2 ^ (f.bias + f.fraction_bits)
