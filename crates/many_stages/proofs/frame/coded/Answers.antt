-- Three runs of powers, each from what is shown of the numbers before it.
use Rattle.std.proofs.Common.{◌≡◌, ℕ, ◌^◌, ◌<◌, length, ap, ◌∙◌, arith}
use lib.Signed.{mag}
use Rattle.signs.proofs.Integers.{read_back}
use Rattle.patterns.specs.Blocks.{place}
use Rattle.many_stages.specs.Powers.{high_byte, low_byte}
use Rattle.many_stages.specs.Strips.{excess_of}
use Rattle.many_stages.proofs.FrameStrip.{short-high, short-low, short-rests, strip-coded}
use Rattle.many_stages.proofs.Patterned.{as-many}
use Rattle.many_stages.proofs.frame.coded.Goals as goal

pub spread-requires : goal.spread-requires
spread-requires c =
    let (high, fits) = c.raise.ensures high_byte (λ x y small e. e) in
    ((_, _, c.raise.auto.left, short-high c.args.part.now fits high), omega arith, omega arith, omega arith, omega arith)

pub spread-requires-2 : goal.spread-requires-2
spread-requires-2 c =
    let (low, fits) = c.raise-2.ensures low_byte (λ x y small e. e) in
    ((_, _, c.raise-2.auto.left, short-low c.args.part.now fits low), omega arith, omega arith, omega arith, omega arith)

pub spread-requires-3 : goal.spread-requires-3
spread-requires-3 c =
    let (low, fits) = c.raise-2.ensures low_byte (λ x y small e. e) in (
      (
        _,
        _,
        c.excess-over.auto.left,
        short-rests c.args.part.now (λ k h. fits k (omega (arith, h, c.spread-2.auto.left, c.raise-2.auto.left))) c.args.stages.many c.excess-over.ensures.1,
      ),
      omega arith,
      omega arith,
      omega arith,
      omega arith,
    )

pub returns : goal.returns
returns c =
    let part = c.args.part.now in
    let (high, fits) = c.raise.ensures high_byte (λ x y small e. e) in
    let (low, _) = c.raise-2.ensures low_byte (λ x y small e. e) in
    let first : length c.spread.new.left ≡ length part = c.spread.auto.left ∙ c.raise.auto.left ∙ c.requires.2 in
    let second : length c.spread-2.new.left ≡ length part = c.spread-2.auto.left ∙ c.raise-2.auto.left ∙ first in
    let all : (k : ℕ) → k < length part → mag (place part k) < 2 ^ 15 = λ k h. fits k (omega (arith, h, c.requires.2)) in (
      strip-coded part all c.requires.0 (c.spread.ensures _ _ (c.raise.auto.left ∙ c.requires.2) (short-high part all (as-many c.requires.2 high)))
          (c.spread-2.ensures _ _ (c.raise-2.auto.left ∙ first) (short-low part all (as-many first low)))
          (c.spread-3.ensures _ _ (c.excess-over.auto.left ∙ second) (short-rests part all c.args.stages.many (as-many second c.excess-over.ensures.1))),
      read_back _ c.excess-over.type_inv ∙ c.excess-over.ensures.0 ∙ ap (excess_of c.args.stages.count (place part)) second,
    )
