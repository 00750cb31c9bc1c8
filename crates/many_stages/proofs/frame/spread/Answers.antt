-- Each run takes one power more off each number, and the last one finds what the others leave.
use Rattle.std.proofs.Common.{ℕ, ◌+◌, ◌≤◌, List, length, ℤ, ◌-ℤ◌, refl, ◌∙◌, le_antisymm, arith, rules}
use Rattle.many_stages.specs.Powers.{left_by, next_power}
use Rattle.many_stages.specs.Strips.{Filled, Patterned, Short, Stepping}
use Rattle.many_stages.proofs.FrameStrip.{all-spread, by-some, next-spread, none-spread, Spreading, stepping}
use Rattle.many_stages.proofs.frame.spread.Goals as goal

-- the first power, and then those of the loop
spreading : {n at i : ℕ} {before left₀ left₁ held₁ left held : List ℕ} (f : ℕ → ℤ) → Short n f left₀ → n ≤ 128 → at + n ≤ length before
    → ((g : ℕ → ℤ) → Stepping n g at left₀ before
    → Patterned n (λ k. g k -ℤ next_power (g k)) left₁ × Filled at n (λ k. next_power (g k)) before held₁)
    → ((g : ℕ → ℤ) (b : List ℕ) → Spreading at n g b left₁ held₁ 1 → Spreading at n g b left held i)
    → Spreading at n f before left held i
spreading {before = before} f s few room first more =
    let none = none-spread s in
    more f before (next-spread none (omega arith) few (first (λ k. left_by 0 (f k)) (stepping none (omega arith) (omega arith))))

-- as many numbers as places
few : {n : ℕ} {f : ℕ → ℤ} {left : List ℕ} → Short n f left → length left ≤ 128 → n ≤ 128
few s l = omega (arith, s.patterns.room, l)

pub take_off-requires : goal.take_off-requires
take_off-requires c =
    let (n, f, size, s) = c.requires.0 in
    (search rules, (n, f, λ k p h small e. e _ small refl, size, record { numbers = s; places = omega (arith, few s c.requires.3, c.requires.4, c.requires.1) }))

pub take_off-requires-in-loop-i : goal.take_off-requires-in-loop-i
take_off-requires-in-loop-i c =
    let i = c.loop-i.i in
    let (n, f, size, s) = c.requires.0 in
    let same = c.take_off.auto.left ∙ size in
    let now =
    spreading f s (few s c.requires.3) (omega (arith, few s c.requires.3, c.requires.4)) (λ g. c.take_off.ensures n g (λ k p h small e. e _ small refl) size)
    (λ g b. c.loop-i.invariant.2 n g b same) in (
      search rules,
      (
        _,
        _,
        λ k p h small e. e _ (by-some i (f k) c.loop-i.invariant.0) small refl,
        c.loop-i.auto.left ∙ same,
        stepping now refl (omega (arith, few s c.requires.3, c.requires.4, c.loop-i-test.true)),
      ),
    )

pub loop-i-preserved : goal.loop-i-preserved
loop-i-preserved c = (
  omega arith,
  omega arith,
  λ n f before size s.
      let now = c.loop-i.invariant.2 n f before size s in
      let most : n ≤ 128 = omega (arith, size, c.take_off.auto.left, c.requires.3) in
      next-spread now refl most
      (c.take_off-in-loop-i.ensures n _ (λ k p h small e. e _ (by-some c.loop-i.i (f k) c.loop-i.invariant.0) small refl)
      (c.loop-i.auto.left ∙ size) (stepping now refl (omega (arith, s.size)))),
)

pub returns : goal.returns
returns c n f size s =
    let same = c.take_off.auto.left ∙ size in
    let most = few s c.requires.3 in
    let now =
    spreading f s most (omega (arith, most, c.requires.4)) (λ g. c.take_off.ensures n g (λ k p h small e. e _ small refl) size) (λ g b. c.loop-i.invariant.2 n g b same) in
    all-spread now (le_antisymm c.loop-i.invariant.1 c.loop-i-test.false) refl most
    (c.last.ensures n _ (c.loop-i.auto.left ∙ same) now.numbers.patterns (λ k h. by-some c.loop-i.i (f k) c.loop-i.invariant.0))
