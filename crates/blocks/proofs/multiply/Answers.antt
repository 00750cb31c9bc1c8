-- Both numbers of a turn are those of the start, of sizes up to 2^15, so that their product fits.
use Rattle.std.proofs.Common.{rules, ◌≡◌, ℤ, ◌*ℤ◌, ap₂, ◌∙◌, sym, subst, arith, mul-le-mul, w32, SFits, to_z, of_z, to_z-of_z}
use Rattle.designs.proofs.Sizes.{size-true}
use Rattle.pairs.proofs.Integers.{sized}
use Rattle.patterns.specs.Blocks.{place}
use Rattle.patterns.proofs.Blocks.{all_done, next-done, none_done}
use Rattle.blocks.proofs.multiply.Goals as goal
use Rattle.blocks.proofs.multiply.Goals.{In-loop-j}

pub loop-j-init : goal.loop-j-init
loop-j-init c = none_done _ _

-- one turn: its two numbers, which are those of the start, and their product
module _ (c : In-loop-j) where
  abbrev p : ℤ
  p = place c.args.numbers.now c.loop-j.j

  abbrev q : ℤ
  q = place c.args.by.now c.loop-j.j

  fits : SFits w32 (p *ℤ q)
  fits =
      sized _
      (omega (
        arith,
        size-true p q,
        mul-le-mul (c.requires.0.at c.loop-j.j c.loop-j-test.true) (c.requires.1.at c.loop-j.j c.loop-j-test.true),
      ))

  is : to_z w32 (of_z w32 (place c.loop-j.numbers c.loop-j.j)) *ℤ to_z w32 (of_z w32 q) ≡ p *ℤ q
  is =
      let fp : SFits w32 (place c.loop-j.numbers c.loop-j.j) = search rules in
      let fq : SFits w32 q = search rules in
      ap₂ ◌*ℤ◌ (to_z-of_z fp ∙ c.loop-j.invariant.later c.loop-j.j (omega arith)) (to_z-of_z fq)

pub overflow_mul-p : goal.overflow_mul-p
overflow_mul-p c = let s = (goal.at.overflow_mul-p c).In-loop-j in subst (SFits w32) (sym (is s)) (fits s)

pub loop-j-preserved : goal.loop-j-preserved
loop-j-preserved c =
    let s = (goal.at.loop-j-preserved c).In-loop-j in
    next-done _ _ _ c.loop-j.invariant c.loop-j-test.true (to_z-of_z (subst (SFits w32) (sym (is s)) (fits s)) ∙ is s)

pub returns : goal.returns
returns c = all_done c.loop-j.invariant (omega arith) (omega arith)
