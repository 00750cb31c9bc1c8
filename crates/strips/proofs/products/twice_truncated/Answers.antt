-- The first stage is design 4, and what it leaves goes through the second, whose product gets the sign of the first stage's sum.
use Rattle.std.proofs.Common.{◌≡◌, ℕ, ◌-◌, ◌*◌, ◌^◌, Bool, cond, ltb, leb, ℤ, pos, ◌+ℤ◌, nat_abs, ap, ◌∙◌, ap₂, arith, to_z-of_z, w16, w32, to_z, of_z}
use Rattle.designs.specs.Codes.{kept_code}
use Rattle.designs.specs.Designs.{kept, left_over, twice_truncated}
use Rattle.designs.specs.Signs.{signed_product, with_sign}
use Rattle.signs.proofs.Integers.{fits-as, read_as}
use Rattle.pairs.proofs.Integers.{read_back, size16}
use Rattle.patterns.specs.Patterns.{clamped, raised_by, raised_of}
use Rattle.patterns.proofs.SecondStage.{left-small}
use Rattle.strips.specs.Codes.{SecondLogs, TwiceCoded}
use Rattle.strips.proofs.TwoStages as two
use Rattle.strips.proofs.products.twice_truncated.Goals.{After-chosen, After-with_sign}
use Rattle.strips.proofs.products.twice_truncated.Goals as goal

-- what is left of the weight, and the number's code for what is left of it
module _ (c : After-chosen) {x : ℤ} (l : TwiceCoded (clamped c.args.kept_bits) x c.args.first c.args.room c.args.low c.args.high) where
  abbrev A : ℕ
  A = nat_abs c.args.w

  abbrev low : Bool
  low = two.low c.args.kept_bits c.args.w (size16 c.ranges.w) l

  pattern : c.kept-p.result ≡ raised_by (kept_code 23 (clamped c.args.kept_bits)) c.args.w
  pattern = c.kept-p.ensures _ (size16 c.ranges.w) (c.raised.ensures ∙ ap raised_of (to_z-of_z c.ranges.w))

  low-is : ltb c.fraction_of.result c.args.room ≡ low
  low-is =
      ap (λ (f : ℕ). ltb f c.args.room) (c.fraction_of.ensures ∙ ap (λ z. fraction (nat_abs z)) (to_z-of_z c.ranges.w))
      ∙ two.low-is c.args.kept_bits c.args.w (size16 c.ranges.w) l
    where
      fraction : ℕ → ℕ
      fraction n = let t = clamped c.args.kept_bits in kept t n * 2 ^ (23 - t)

  left_is : to_z w16 (of_z w16 c.left_of.result) ≡ pos (left_over low A)
  left_is =
      to_z-of_z {w = w16} (record { sfits = c.left_of.type_inv }) ∙ c.left_of.ensures
      ∙ ap₂ (λ b z. pos (left_over b (nat_abs z))) low-is (to_z-of_z c.ranges.w)

  logs : SecondLogs (left_over low A) (left_over low (nat_abs x)) c.kept-left.result c.chosen.result
  logs =
      two.second-logs c.args.kept_bits c.args.w (size16 c.ranges.w) l
      (c.kept-left.ensures (pos (left_over low A)) (omega (arith, left-small low A (size16 c.ranges.w))) (c.raised-2.ensures ∙ ap raised_of left_is))
      (c.chosen.ensures ∙ ap (λ b. cond b c.args.low c.args.high) low-is)

-- both stages
module _ (c : After-with_sign) {x : ℤ} (l : TwiceCoded (clamped c.args.kept_bits) x c.args.first c.args.room c.args.low c.args.high) where
  abbrev chosen : After-chosen
  chosen = (goal.at.returns c).After-chosen

  signed : to_z w32 (of_z w32 c.with_sign.result)
      ≡ with_sign (two.sign c.args.kept_bits c.args.w (size16 c.ranges.w) l) (two.second c.args.kept_bits c.args.w (size16 c.ranges.w) l)
  signed =
      read_back c.with_sign.type_inv
      (c.with_sign.ensures
      ∙ ap₂ (λ (s n : ℕ). with_sign (leb (2 ^ 31) s) n) c.wrapping_add_u32-minus.ensures.value (c.second_stage-second.ensures _ _ (logs chosen l))
      ∙ two.sign-is c.args.kept_bits c.args.w (size16 c.ranges.w) l (pattern chosen l))

  is : to_z w32 (of_z w32 c.truncated.result) +ℤ to_z w32 (of_z w32 c.with_sign.result)
      ≡ signed_product (twice_truncated (clamped c.args.kept_bits)) c.args.w x
  is =
      ap₂ ◌+ℤ◌
      (read_back c.truncated.type_inv (c.truncated.ensures _ _ (two.first-logs c.args.kept_bits c.args.w (size16 c.ranges.w) l (pattern chosen l))))
      signed
      ∙ two.is c.args.kept_bits c.args.w (size16 c.ranges.w) l

pub second_stage-second-requires : goal.second_stage-second-requires
second_stage-second-requires c = (_, _, logs c c.requires.1)

pub with_sign-requires : goal.with_sign-requires
with_sign-requires c =
    rw (c.second_stage-second.ensures _ _ (logs (goal.at.with_sign-requires c).After-chosen c.requires.1))
    (two.second-small c.args.kept_bits c.args.w (size16 c.ranges.w) c.requires.1)

pub overflow_add-result : goal.overflow_add-result
overflow_add-result c = let l = c.requires.1 in fits-as (is c l) (two.fits c.args.kept_bits c.args.w (size16 c.ranges.w) l)

pub returns : goal.returns
returns c x l = read_as (is c l) (two.fits c.args.kept_bits c.args.w (size16 c.ranges.w) l)
