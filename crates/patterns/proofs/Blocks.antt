-- A loop that fills a block place by place: one turn more is one place more. Stages keep the numbers small, and one stage after k
-- is k + 1. Each law goes place by place.
use Rattle.std.proofs.Common.{◌≡◌, ◌++◌, ℕ, ◌+◌, ◌-◌, ◌^◌, ◌<◌, ◌≤◌, List, length, set, ℤ, pos, nat_abs, sym, refl, ap, ◌∙◌, subst, le_antisymm, add-one, arith, length-set, get_or-set_other, get_or-set_same, le-ltb, lt-ltb}
use native.Mathlib.Nat.{add-sub_cancel_left}
use lib.ListN.{take, drop, length-drop, get_or-append, length-append}
use lib.Seq.{get_or-append_right, get_or-take, get_or-drop, length-take-le}
use Rattle.designs.proofs.Cases.{either_lt}
use Rattle.designs.proofs.SignedLeft.{left-next, rest-size}
use Rattle.designs.specs.Signs.{left_ℤ, rest_ℤ}
use Rattle.patterns.specs.Blocks.{Done, joined, place, Small}

pub none_done : (g : ℕ → ℤ) (block : List ℤ) → Done g 0 block block
none_done g block = record { size = refl; first = λ j h. absurd (omega arith); later = λ j h. refl }

pub next-done : (g : ℕ → ℤ) {before block : List ℤ} (i : ℕ) (v : ℤ) → Done g i before block → i < length before → v ≡ g i
    → Done g (i + 1) before (set block i v)
next-done g {before} {block} i v d l e =
    record {
      size = length-set block i v ∙ d.size;
      first = λ j h. either_lt j i (λ m. other j (λ q. omega arith) ∙ d.first j m) (λ m. same j (omega arith));
      later = λ j h. other j (λ q. omega arith) ∙ d.later j (omega arith);
    }
  where
    other : (j : ℕ) → (j ≡ i → ⊥) → place (set block i v) j ≡ place block j
    other j q = get_or-set_other block i j v (pos 0) q

    same : (j : ℕ) → j ≡ i → place (set block i v) j ≡ g j
    same j q = rw q (get_or-set_same block i v (pos 0) (omega (arith, d.size)) ∙ e)

pub then-done : {g f : ℕ → ℤ} {n : ℕ} {before block after : List ℤ} → Done f n before block → Done g n block after → Done g n before after
then-done d e = record { size = e.size ∙ d.size; first = e.first; later = λ j h. e.later j h ∙ d.later j h }

-- after as many turns as there are places to fill, all are filled
pub all_done : {g : ℕ → ℤ} {j n : ℕ} {before after : List ℤ} → Done g j before after → j ≤ n → n ≤ j → Done g n before after
all_done {g} {before = before} {after} d h l = subst (λ (k : ℕ). Done g k before after) (le_antisymm h l) d

-- numbers that stay small
pub done-small : {g : ℕ → ℤ} {n : ℕ} {before after : List ℤ} → Done g n before after → n ≤ length before → ((j : ℕ) → j < n → nat_abs (g j) ≤ 2 ^ 15) → Small n after
done-small d l f = record { room = omega (arith, d.size); at = λ j h. rw (d.first j h) (f j h) }

pub rest-small : (n : ℕ) (l : List ℤ) → Small n l → (j : ℕ) → j < n → nat_abs (rest_ℤ (place l j)) ≤ 2 ^ 15
rest-small n l s j h = omega (arith, rest-size (place l j), s.at j h)

-- the first m places of a list, lent alone
module _ {m : ℕ} {l : List ℤ} where
  pub front-small : Small m l → Small (length (take m l)) (take m l)
  front-small s =
      let size : length (take m l) ≡ m = length-take-le m l s.room in
      record { room = omega arith; at = λ i h. rw (get_or-take m l i (pos 0) (omega arith)) (s.at i (omega arith)) }

  pub front-done : (f : ℤ → ℤ) {part : List ℤ} → m ≤ length l → Done (λ i. f (place (take m l) i)) (length (take m l)) (take m l) part → Done (λ i. f (place l i)) m l (part ++ drop m l)
  front-done f {part} room d =
      let size : length part ≡ m = d.size ∙ length-take-le m l room in
      record {
        size = omega (arith, length-append part (drop m l), length-drop m l);
        first = λ i h. get_or-append part (drop m l) (pos 0) i (omega arith) ∙ d.first i (omega (arith, d.size)) ∙ ap f (get_or-take m l i (pos 0) h);
        later =
            λ i h. get_or-append_right part (drop m l) i (pos 0) (omega arith) ∙ get_or-drop m l (i - length part) (pos 0)
            ∙ ap (place l) (omega arith);
      }

-- two runs of places, one behind the other
module _ (n : ℕ) (f g : ℕ → ℤ) (i : ℕ) where
  pub in-first : i < n → joined n f g i ≡ f i
  in-first h = rw (lt-ltb i n h) refl

  pub in-second : n ≤ i → joined n f g i ≡ g (i - n)
  in-second h = rw (le-ltb i n h) refl

pub behind : (n : ℕ) (f g : ℕ → ℤ) (k : ℕ) → joined n f g (n + k) ≡ g k
behind n f g k = in-second n f g (n + k) (omega arith) ∙ ap g (add-sub_cancel_left n k)

-- what is done stands there
pub standing : {g : ℕ → ℤ} {n : ℕ} {before after : List ℤ} → Done g n before after → Done g n after after
standing d = record { size = refl; first = d.first; later = λ j h. refl }

-- two runs of n places that are filled side by side, as far as i places of each
pub record Both (f g : ℕ → ℤ) (n i : ℕ) (before after : List ℤ) : Type 0 where
  pub size : length after ≡ length before
  pub first : (j : ℕ) → j < i → place after j ≡ f j
  pub second : (j : ℕ) → j < i → place after (n + j) ≡ g j
  pub later : (j : ℕ) → n + n ≤ j → place after j ≡ place before j

module _ {f g : ℕ → ℤ} {n : ℕ} where
  pub none-of-both : {block : List ℤ} → Both f g n 0 block block
  none-of-both = record { size = refl; first = λ j h. absurd (omega arith); second = λ j h. absurd (omega arith); later = λ j h. refl }

  pub next-of-both : {i : ℕ} {before block : List ℤ} (u v : ℤ) → Both f g n i before block → i < n → n + n ≤ length before → u ≡ f i → v ≡ g i
      → Both f g n (i + 1) before (set (set block i u) (n + i) v)
  next-of-both {i} {before} {block} u v d l room eu ev =
      record {
        size = length-set (set block i u) (n + i) v ∙ length-set block i u ∙ d.size;
        first = λ j h. other (λ q. omega arith) ∙ either_lt j i (λ m. get_or-set_other block i j u (pos 0) (λ q. omega arith) ∙ d.first j m) (λ m. here j (omega arith));
        second = λ j h. either_lt j i (λ m. other (λ q. omega arith) ∙ get_or-set_other block i (n + j) u (pos 0) (λ q. omega arith) ∙ d.second j m) (λ m. there j (omega arith));
        later = λ j h. other (λ q. omega arith) ∙ get_or-set_other block i j u (pos 0) (λ q. omega arith) ∙ d.later j h;
      }
    where
      other : {j : ℕ} → (j ≡ n + i → ⊥) → place (set (set block i u) (n + i) v) j ≡ place (set block i u) j
      other {j} q = get_or-set_other (set block i u) (n + i) j v (pos 0) q

      here : (j : ℕ) → j ≡ i → place (set block i u) j ≡ f j
      here j q = rw q (get_or-set_same block i u (pos 0) (omega (arith, d.size)) ∙ eu)

      there : (j : ℕ) → j ≡ i → place (set (set block i u) (n + i) v) (n + j) ≡ g j
      there j q = rw q (get_or-set_same (set block i u) (n + i) v (pos 0) (omega (arith, length-set block i u, d.size)) ∙ ev)

-- all places of both, by what stands there
module _ (q : ℤ → ℤ) (n : ℕ) (f g : ℕ → ℤ) where
  pub all-of-both : {i : ℕ} {before after : List ℤ} → Both (λ j. q (f j)) (λ j. q (g j)) n i before after → n ≤ i → Done (λ j. q (joined n f g j)) (n + n) before after
  all-of-both {after = after} d enough =
      record {
        size = d.size;
        first =
            λ j l. either_lt j n (λ m. d.first j (omega arith) ∙ sym (ap q (in-first n f g j m)))
            (λ m. ap (place after) (omega arith) ∙ d.second (j - n) (omega arith) ∙ sym (ap q (in-second n f g j m)));
        later = d.later;
      }

  pub both_small : ((j : ℕ) → j < n → (nat_abs (q (f j)) ≤ 2 ^ 15) × (nat_abs (q (g j)) ≤ 2 ^ 15)) → (j : ℕ) → j < n + n → nat_abs (q (joined n f g j)) ≤ 2 ^ 15
  both_small small j h = either_lt j n (λ l. rw (in-first n f g j l) (small j l).0) (λ l. rw (in-second n f g j l) (small (j - n) (omega arith)).1)

-- what the stages leave of numbers
module _ (g : ℕ → ℤ) where
  abbrev pub After : ℕ → ℕ → List ℤ → List ℤ → Type 0
  After k n before after = Done (λ j. left_ℤ k (g j)) n before after

  pub one_more : (k : ℕ) {n : ℕ} {before block after : List ℤ} → After k n before block → Done (λ j. rest_ℤ (place block j)) n block after → After (k + 1) n before after
  one_more k d e =
      record {
        size = e.size ∙ d.size;
        first = λ j h. rw (add-one k) (e.first j h ∙ ap rest_ℤ (d.first j h) ∙ left-next k (g j));
        later = λ j h. e.later j h ∙ d.later j h;
      }
