-- A list with n places from the a-th on replaced: the places before stay, the replaced ones have what is put there, and those behind stay.
use Rattle.std.proofs.Common.{◌≡◌, ℕ, ◌+◌, ◌<◌, ◌≤◌, List, ◌++◌, length, get_or, take, drop, sym, ap, ◌∙◌, arith, length-take, get_or-drop, get_or-take, get_or-append-add}
use borrow.Rule.Slice.PartMut.{put_mid}
use lib.ListN.{get_or-append}

module _ {A : Type 0} (none : A) (a n : ℕ) (xs ys : List A) (size : length ys ≡ n) (inside : a + n ≤ length xs) where
  front : length (take a xs) ≡ a
  front = omega (arith, length-take a xs)

  pub put-before : (i : ℕ) → i < a → get_or (put_mid a n xs ys) i none ≡ get_or xs i none
  put-before i h = get_or-append (take a xs) _ none i (omega (arith, front)) ∙ get_or-take a xs i none h

  past : (j : ℕ) → get_or (put_mid a n xs ys) (a + j) none ≡ get_or (ys ++ drop n (drop a xs)) j none
  past j = ap (λ (k : ℕ). get_or (put_mid a n xs ys) (k + j) none) (sym front) ∙ get_or-append-add (take a xs) (ys ++ drop n (drop a xs)) j none

  pub put-at : (j : ℕ) → j < n → get_or (put_mid a n xs ys) (a + j) none ≡ get_or ys j none
  put-at j h = past j ∙ get_or-append ys _ none j (omega (arith, size))

  pub put-after : (j : ℕ) → get_or (put_mid a n xs ys) (a + (n + j)) none ≡ get_or xs (a + (n + j)) none
  put-after j =
      past (n + j) ∙ ap (λ (k : ℕ). get_or (ys ++ drop n (drop a xs)) (k + j) none) (sym size) ∙ get_or-append-add ys (drop n (drop a xs)) j none
      ∙ get_or-drop n (drop a xs) j none ∙ get_or-drop a xs (n + j) none
