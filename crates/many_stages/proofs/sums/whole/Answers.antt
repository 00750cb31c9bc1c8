-- A turn adds the product of one number with the high byte of another, and that with the low one; and the two sums of all are joined.
use Rattle.std.proofs.Common.{◌≡◌, ℤ, pos, ◌+ℤ◌, ◌*ℤ◌, ap, ◌∙◌, ap₂, arith}
use Rattle.signs.proofs.Integers.{read_back as read-back64}
use Rattle.pairs.proofs.Integers.{read_back}
use Rattle.patterns.specs.Blocks.{place}
use Rattle.blocks.specs.Counts.{total}
use Rattle.many_stages.proofs.Patterned.{no-sum}
use Rattle.many_stages.proofs.Products.{few-pairs, high_product, high-powers, high-size, low_product, low-powers, low-size, more-fits, more-is, number, offset, times-bytes, turn}
use Rattle.many_stages.proofs.Totals.{joined-total}
use Rattle.many_stages.proofs.sums.whole.Goals as goal

pub loop-j-init : goal.loop-j-init
loop-j-init c s n part f size r = (no-sum (high_product part f), no-sum (low_product part f))

pub plus-p-requires : goal.plus-p-requires
plus-p-requires c = (_, _, number c.requires.5 (turn c.requires.4 c.loop-j-test.true), offset)

pub four_at-high-requires : goal.four_at-high-requires
four_at-high-requires c =
    let r = c.requires.5 in
    let h = turn c.requires.4 c.loop-j-test.true in
    (_, _, high-powers r h (c.plus-p.ensures _ _ (number r h) offset))

pub overflow_add-high : goal.overflow_add-high
overflow_add-high c =
    let r = c.requires.5 in
    let h = turn c.requires.4 c.loop-j-test.true in
    let product = c.four_at-high.ensures _ _ (high-powers r h (c.plus-p.ensures _ _ (number r h) offset)) in
    more-fits (high_product c.requires.2 c.requires.3) (λ k l. high-size r l) (few-pairs r) h (c.loop-j.invariant _ _ _ _ c.requires.4 r).0
    (read_back c.four_at-high.type_inv product)

pub four_at-low-requires : goal.four_at-low-requires
four_at-low-requires c =
    let r = c.requires.5 in
    let h = turn c.requires.4 c.loop-j-test.true in
    (_, _, low-powers r h (c.plus-p.ensures _ _ (number r h) offset))

pub overflow_add-low : goal.overflow_add-low
overflow_add-low c =
    let r = c.requires.5 in
    let h = turn c.requires.4 c.loop-j-test.true in
    let product = c.four_at-low.ensures _ _ (low-powers r h (c.plus-p.ensures _ _ (number r h) offset)) in
    more-fits (low_product c.requires.2 c.requires.3) (λ k l. low-size r l) (few-pairs r) h (c.loop-j.invariant _ _ _ _ c.requires.4 r).1
    (read_back c.four_at-low.type_inv product)

pub loop-j-preserved : goal.loop-j-preserved
loop-j-preserved c s n part f size r =
    let h = turn size c.loop-j-test.true in
    let so_far = c.loop-j.invariant s n part f size r in
    let pattern = c.plus-p.ensures _ _ (number r h) offset in (
      more-is (high_product part f) (λ k l. high-size r l) (few-pairs r) h so_far.0
          (read_back c.four_at-high.type_inv (c.four_at-high.ensures _ _ (high-powers r h pattern))),
      more-is (low_product part f) (λ k l. low-size r l) (few-pairs r) h so_far.1
          (read_back c.four_at-low.type_inv (c.four_at-low.ensures _ _ (low-powers r h pattern))),
    )

pub returns : goal.returns
returns c s n part f size r =
    let all : c.loop-j.j ≡ n = omega (arith, c.loop-j-test.false, size) in
    let sums = c.loop-j.invariant s n part f size r in
    read-back64 _ c.joined.type_inv ∙ c.joined.ensures ∙ ap₂ (λ (h l : ℤ). h *ℤ pos 256 +ℤ l) sums.0 sums.1
    ∙ joined-total (high_product part f) (low_product part f) (λ k. (f k +ℤ pos 32769) *ℤ place part k)
    (λ k. times-bytes (f k +ℤ pos 32769) (place part k)) c.loop-j.j
    ∙ ap (total (λ k. (f k +ℤ pos 32769) *ℤ place part k)) all
