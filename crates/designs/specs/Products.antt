-- What a product gives for any input (docs/SCOPE.md, "Setting" and "Product, unsigned or signed"). Definitions only.
use Rattle.std.specs.Prelude.{ℕ, suc, ◌-◌, ◌^◌, Bool, not, ◌&&◌, cond, List, [], ◌∷◌, ◌++◌, leb, eqb, ℤ, pos, negsuc}
use Rattle.designs.specs.Designs.{Design, mitchell, nearest, staged, truncated, twice_truncated, product}
use Rattle.designs.specs.Signs.{signed_product}
use Rattle.designs.specs.Lists.{◌is_in◌}
use Rattle.designs.specs.Outcomes.{Outcome, Refusal, ◌when◌, first, unless_refused}

-- The designs are numbered 1 to 5.
abbrev pub is_design : ℕ → Bool
is_design n = leb 1 n && leb n 5

-- The widths, in bits.
abbrev pub widths : List ℕ
widths = 8 ∷ 12 ∷ 16 ∷ 32 ∷ []

unfoldable pub is_width : ℕ → Bool
is_width w = w is_in widths

-- Design n with a setting. Only the numbers 1 to 5 reach a product.
abbrev pub design_of : ℕ → ℕ → Design
design_of n setting =
    cond (eqb n 1) mitchell
    (cond (eqb n 2) nearest (cond (eqb n 3) (staged setting) (cond (eqb n 4) (truncated setting) (twice_truncated setting))))

-- Whether design n takes a setting at width w: 0 for designs 1 and 2, from 1 to w stages for design 3, from 1 to w − 1 kept bits for
-- designs 4 and 5.
abbrev pub takes_setting : ℕ → ℕ → ℕ → Bool
takes_setting n w setting = cond (leb n 2) (eqb setting 0) (leb 1 setting && leb setting (cond (eqb n 3) w (w - 1)))

-- The refusals of a product, each a number and what it stands for.
abbrev pub unknown_design : ℕ → Refusal
unknown_design design = 1 when not (is_design design)

abbrev pub unknown_width : ℕ → Refusal
unknown_width width = 2 when not (is_width width)

abbrev pub setting_out_of_range : ℕ → ℕ → ℕ → Refusal
setting_out_of_range design width setting = 3 when not (takes_setting design width setting)

abbrev pub first_outside_width : Bool → Refusal
first_outside_width a-inside = 4 when not a-inside

abbrev pub second_outside_width : Bool → Refusal
second_outside_width b-inside = 20 when not b-inside

-- In order: those of the numbers beside the operands, and those of the operands, of which is known whether each is inside the width. So 4
-- is given wherever the first operand is outside, and 20 where only the second is.
unfoldable pub setting_refusals : ℕ → ℕ → ℕ → List Refusal
unfolding is_width
setting_refusals design width setting = unknown_design design ∷ unknown_width width ∷ setting_out_of_range design width setting ∷ []

unfoldable pub operand_refusals : Bool → Bool → List Refusal
operand_refusals a-inside b-inside = first_outside_width a-inside ∷ second_outside_width b-inside ∷ []

unfoldable pub refusals : ℕ → ℕ → ℕ → Bool → Bool → List Refusal
unfolding setting_refusals operand_refusals
refusals design width setting a-inside b-inside = setting_refusals design width setting ++ operand_refusals a-inside b-inside

-- Inside the width: 0 to 2^w − 1, or −2^(w−1) to 2^(w−1) − 1.
abbrev pub inside_unsigned : ℕ → ℕ → Bool
inside_unsigned w a = leb a (2 ^ w - 1)

abbrev pub inside_signed : ℕ → ℤ → Bool
inside_signed w (pos a) = leb a (2 ^ (w - 1) - 1)
inside_signed w (negsuc a) = leb (suc a) (2 ^ (w - 1))

unfoldable pub unsigned_outcome : ℕ → ℕ → ℕ → ℕ → ℕ → Outcome ℕ
unfolding first refusals product
unsigned_outcome design width setting a b =
    unless_refused (first (refusals design width setting (inside_unsigned width a) (inside_unsigned width b)))
    (product (design_of design setting) a b)

unfoldable pub signed_outcome : ℕ → ℕ → ℕ → ℤ → ℤ → Outcome ℤ
unfolding first refusals signed_product
signed_outcome design width setting a b =
    unless_refused (first (refusals design width setting (inside_signed width a) (inside_signed width b)))
    (signed_product (design_of design setting) a b)
