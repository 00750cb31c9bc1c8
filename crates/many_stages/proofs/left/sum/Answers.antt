-- A turn adds one number, and the sum of all still fits.
use Rattle.std.proofs.Common.{◌≡◌, ℕ, ◌+◌, ◌^◌, ◌<◌, ◌≤◌, List, get_or, ℤ, ◌+ℤ◌, ap, ◌∙◌, arith, w32, SFits, to_z, of_z}
use lib.Signed.{mag}
use Rattle.signs.proofs.Integers.{fits-as, read_as}
use Rattle.patterns.specs.Patterns.{raised_of}
use Rattle.blocks.specs.Counts.{total}
use Rattle.many_stages.specs.Strips.{Patterned}
use Rattle.many_stages.proofs.Patterned.{no-sum, sum_fits, sum_more}
use Rattle.many_stages.proofs.left.sum.Goals as goal

-- one number more
module _ {n j : ℕ} {s r : ℤ} {f : ℕ → ℤ} {left : List ℕ} (p : Patterned n f left) (few : n ≤ 128) (h : j < n) (so_far : s ≡ total f j)
    (narrow : mag r < 2 ^ 31) (is : (z : ℤ) → mag z < 2 ^ 15 → get_or left j 0 ≡ raised_of z → r ≡ z) where
  more : s +ℤ to_z w32 (of_z w32 r) ≡ total f (j + 1)
  more = sum_more f so_far narrow (is (f j) (p.small j h) (p.at j h))

  more-fits : SFits w32 (total f (j + 1))
  more-fits = sum_fits f {n = j + 1} (λ k l. p.small k (omega arith)) (omega arith)

pub loop-p-init : goal.loop-p-init
loop-p-init c n f size p = no-sum f

pub number-sum-requires : goal.number-sum-requires
number-sum-requires c =
    let (n, f, size, p, few) = c.requires in
    let j = c.loop-p.p-index in
    let h : j < n = omega (arith, c.loop-p-test.true, size) in
    (f j, p.small j h, p.at j h)

pub overflow_add-sum : goal.overflow_add-sum
overflow_add-sum c =
    let (n, f, size, p, few) = c.requires in
    let h : c.loop-p.p-index < n = omega (arith, c.loop-p-test.true, size) in
    let so_far = c.loop-p.invariant n f size p in
    fits-as (more p few h so_far c.number-sum.type_inv c.number-sum.ensures) (more-fits p few h so_far c.number-sum.type_inv c.number-sum.ensures)

pub loop-p-preserved : goal.loop-p-preserved
loop-p-preserved c n f size p =
    let few : n ≤ 128 = omega (arith, size, c.requires.2, c.requires.4) in
    let h : c.loop-p.p-index < n = omega (arith, c.loop-p-test.true, size) in
    let so_far = c.loop-p.invariant n f size p in
    read_as (more p few h so_far c.number-sum.type_inv c.number-sum.ensures) (more-fits p few h so_far c.number-sum.type_inv c.number-sum.ensures)

pub returns : goal.returns
returns c n f size p =
    let all : c.loop-p.p-index ≡ n = omega (arith, c.loop-p-test.false, size) in
    c.loop-p.invariant n f size p ∙ ap (total f) all
