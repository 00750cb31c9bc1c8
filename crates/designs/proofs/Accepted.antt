-- What holds of a product that is accepted, at each width that there is: no test applied, so that the width has 1 to 32 bits, the kept bits
-- are as the kernels need them, and both operands are inside the width. So an unsigned product of w bits is below 2^(2w), and a signed one
-- below 2^(2w−1) in size, which 64 bits hold.
use mathlib.Core.Path.{◌≡◌}
use Prim.Native.Nat.{ℕ, ◌-◌, ◌*◌, ◌^◌, ◌≤◌, ◌<◌}
use mathlib.Core.Bool.{Bool, true}
use borrow.Author.Tests.{not-false}
use lib.Ieee.{unlike}
use lib.IntN.{ℤ, nat_abs}
use Rattle.designs.specs.Designs.{product, KeepsBit, KeepsAtMost}
use Rattle.designs.specs.Signs.{negative, signed_product}
use Rattle.designs.specs.Outcomes.{accepted, first, unless_refused}
use Rattle.designs.specs.Products.{design_of, is_design, is_width, takes_setting, refusals, inside_unsigned, inside_signed, unsigned_outcome, signed_outcome}
use Rattle.designs.proofs.Inside.{unsigned-lt, signed_lt}
use Rattle.designs.proofs.Refusals.{none, accepted-with}
use Rattle.designs.proofs.Settings.{width-bounds, keeps, few}
use Rattle.designs.proofs.Sizes.{size-sign}

pub record Settled (design width setting : ℕ) (a b : Bool) : Type 0 where
  pub low : 1 ≤ width
  pub high : width ≤ 32
  pub keeps : KeepsBit (design_of design setting)
  pub few : KeepsAtMost 31 (design_of design setting)
  pub a-inside : a ≡ true
  pub b-inside : b ≡ true

module _ (design width setting : ℕ) where
  pub settled : (a b : Bool) → first (refusals design width setting a b) ≡ 0 → Settled design width setting a b
  unfolding refusals
  settled a b z =
      let tests = none (refusals design width setting a b) tt z in
      let d = not-false (is_design design) (tests 0) in
      let w = width-bounds width (not-false (is_width width) (tests 1)) in
      let t = not-false (takes_setting design width setting) (tests 2) in
      record {
        low = w.0;
        high = w.1;
        keeps = keeps design width setting d t;
        few = few design width setting d t w.1;
        a-inside = not-false a (tests 3);
        b-inside = not-false b (tests 4);
      }

  -- an outcome by these refusals that has a value: all is settled, and the value is the one that is meant
  given : {X : Type 0} (a b : Bool) {v x : X} → accepted x ≡ unless_refused (first (refusals design width setting a b)) v
      → Settled design width setting a b × (x ≡ v)
  given a b e = let found = accepted-with (first (refusals design width setting a b)) e in (settled a b found.0, found.1)

  pub unsigned-below : (a b : ℕ) {p : ℕ} → accepted p ≡ unsigned_outcome design width setting a b → p < 2 ^ (2 * width)
  unfolding unsigned_outcome
  unsigned-below a b e =
      let (s, is) = given (inside_unsigned width a) (inside_unsigned width b) e in
      rw is (unsigned-lt width (design_of design setting) a b s.a-inside s.b-inside)

  pub signed_below : (a b : ℤ) {z : ℤ} → accepted z ≡ signed_outcome design width setting a b → nat_abs z < 2 ^ (2 * width - 1)
  unfolding signed_outcome signed_product
  signed_below a b e =
      let (s, is) = given (inside_signed width a) (inside_signed width b) e in
      rw (is, size-sign (unlike (negative a) (negative b)) (product (design_of design setting) (nat_abs a) (nat_abs b)))
      (signed_lt width s.low (design_of design setting) s.keeps a b s.a-inside s.b-inside)
