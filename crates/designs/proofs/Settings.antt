-- What a setting that is accepted gives: a width has 1 to 32 bits, which is computed over the whole list of widths, and at such a width
-- designs 4 and 5 keep at least one bit and at most 31, by the tests that were passed.
use mathlib.Core.Path.{◌≡◌}
use Prim.Native.Nat.{ℕ, ◌-◌, ◌≤◌, ◌<◌}
use native.Mathlib.Omega.{arith}
use mathlib.Core.Bool.{true, ◌&&◌}
use borrow.Author.Tests.{lt-leb, leb-true, eqb-false}
use lib.Dec.{leb, eqb, leb→le}
use lib.Ieee.Fits.{and_l, and_r}
use Rattle.designs.specs.Designs.{Design, KeepsBit, KeepsAtMost, mitchell, nearest, staged, truncated, twice_truncated}
use Rattle.designs.specs.Products.{is_design, widths, is_width, design_of, takes_setting}
use Rattle.designs.proofs.Cases.{both, by_bool}
use Rattle.designs.proofs.Lists.{of-found}

pub width-bounds : (width : ℕ) → is_width width ≡ true → (1 ≤ width) × (width ≤ 32)
unfolding is_width
width-bounds width e =
    let range = of-found (λ (w : ℕ). leb 1 w && leb w 32) widths width tt e in
    (leb→le 1 width (and_l (leb 1 width) (leb width 32) range), leb→le width 32 (and_r (leb 1 width) (leb width 32) range))

module _ (design width setting : ℕ) (d : is_design design ≡ true) (t : takes_setting design width setting ≡ true) where
  pub known : 0 < design
  known = leb-true 1 design (both (leb 1 design) (leb design 5) d).0

  -- a claim on the design with its number, from the claim on each
  pub by-design : (P : Design → Type 0) → P mitchell → P nearest → P (staged setting)
      → (1 ≤ setting → setting ≤ width - 1 → P (truncated setting) × P (twice_truncated setting)) → P (design_of design setting)
  by-design P one two three last =
      by_bool (λ _. P (design_of design setting)) (eqb design 1) (λ h. rw h one)
      (λ h. by_bool (λ _. P (design_of design setting)) (eqb design 2) (λ g. rw (h, g) two)
      (λ g. by_bool (λ _. P (design_of design setting)) (eqb design 3) (λ f. rw (h, g, f) three)
      (λ f. let above : 2 < design = omega (arith, known, eqb-false design 1 h, eqb-false design 2 g) in
      let range = both (leb 1 setting) (leb setting (width - 1)) (simp (lt-leb design 2 above, f) at t) in
      let either = last (leb-true 1 setting range.0) (leb-true setting (width - 1) range.1) in
      by_bool (λ _. P (design_of design setting)) (eqb design 4) (λ l. rw (h, g, f, l) either.0) (λ l. rw (h, g, f, l) either.1))))

  pub keeps : KeepsBit (design_of design setting)
  keeps = by-design KeepsBit tt tt tt (λ h g. (h, h))

  pub few : width ≤ 32 → KeepsAtMost 31 (design_of design setting)
  few w = by-design (KeepsAtMost 31) tt tt tt (λ h g. (omega arith, omega arith))
