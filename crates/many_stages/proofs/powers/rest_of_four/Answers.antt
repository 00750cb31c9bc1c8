-- Each call takes one stage more.
use Rattle.std.proofs.Common.{◌≡◌, ℕ, suc, ◌^◌, ◌≤◌, ℤ, nat_abs, sym, ap, ◌∙◌, arith}
use Rattle.designs.specs.Signs.{left_ℤ, rest_ℤ}
use Rattle.designs.proofs.SignedLeft.{left-next, left-none, left-size}
use Rattle.patterns.specs.Patterns.{raised_of}
use Rattle.many_stages.proofs.powers.rest_of_four.Goals as goal

-- what a call ensures
abbrev Rests : ℕ → ℕ → Type 0
Rests p r = (y : ℤ) → nat_abs y ≤ 2 ^ 15 → p ≡ raised_of y → r ≡ raised_of (rest_ℤ y)

module _ (z : ℤ) (l : nat_abs z ≤ 2 ^ 15) where
  small : (s : ℕ) → nat_abs (left_ℤ s z) ≤ 2 ^ 15
  small s = omega (arith, left-size s z, l)

  stage : (s : ℕ) {p r : ℕ} → Rests p r → p ≡ raised_of (left_ℤ s z) → r ≡ raised_of (left_ℤ (suc s) z)
  stage s rest e = rest (left_ℤ s z) (small s) e ∙ ap raised_of (left-next s z)

  one : {p a : ℕ} → p ≡ raised_of z → Rests p a → a ≡ raised_of (left_ℤ 1 z)
  one e first = stage 0 first (e ∙ ap raised_of (sym (left-none z)))

  two : {p a b : ℕ} → p ≡ raised_of z → Rests p a → Rests a b → b ≡ raised_of (left_ℤ 2 z)
  two e first second = stage 1 second (one e first)

  three : {p a b c : ℕ} → p ≡ raised_of z → Rests p a → Rests a b → Rests b c → c ≡ raised_of (left_ℤ 3 z)
  three e first second third = stage 2 third (two e first second)

pub rest-requires-2 : goal.rest-requires-2
rest-requires-2 c =
    let z = c.requires.0 in
    let l = c.requires.1 in
    (left_ℤ 1 z, small z l 1, one z l c.requires.2 c.rest.ensures)

pub rest-requires-3 : goal.rest-requires-3
rest-requires-3 c =
    let z = c.requires.0 in
    let l = c.requires.1 in
    (left_ℤ 2 z, small z l 2, two z l c.requires.2 c.rest.ensures c.rest-2.ensures)

pub rest-requires-4 : goal.rest-requires-4
rest-requires-4 c =
    let z = c.requires.0 in
    let l = c.requires.1 in
    (left_ℤ 3 z, small z l 3, three z l c.requires.2 c.rest.ensures c.rest-2.ensures c.rest-3.ensures)

pub returns : goal.returns
returns c z l e = stage z l 3 c.rest-4.ensures (three z l e c.rest.ensures c.rest-2.ensures c.rest-3.ensures)
