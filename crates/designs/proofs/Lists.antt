-- A test of every number of a list, or of every number below one: it is computed where the numbers are known, and then holds of each that
-- is found in the list, or is below. Both go by the numbers, one after the other.
use mathlib.Core.Path.{◌≡◌, sym, subst}
use Prim.Native.Nat.{ℕ, zero, suc, ◌<◌}
use native.Mathlib.Nat.{le_antisymm, le_of_suc-le-suc, not-suc-le-zero}
use mathlib.Core.Bool.{Bool, true, false≢true, ◌&&◌, ◌||◌}
use mathlib.Core.List.{List, [], ◌∷◌}
use borrow.Author.Tests.{eqb-true}
use lib.Dec.{T, eqb}
use lib.Ieee.Fits.{and_l, and_r}
use Rattle.designs.specs.Lists.{◌is_in◌, every_below}
use Rattle.designs.proofs.Cases.{by_bool, either_lt}

abbrev pub every : (ℕ → Bool) → List ℕ → Bool
every p [] = true
every p (n ∷ ns) = p n && every p ns

pub of-found : (p : ℕ → Bool) (ns : List ℕ) (n : ℕ) → T (every p ns) → n is_in ns ≡ true → T (p n)
of-found p [] n h e = absurd (false≢true e)
of-found p (m ∷ ns) n h e =
    by_bool (λ (b : Bool). b || n is_in ns ≡ true → T (p n)) (eqb n m)
    (λ is _. subst (λ (k : ℕ). T (p k)) (sym (eqb-true n m is)) (and_l (p m) (every p ns) h))
    (λ _ e. of-found p ns n (and_r (p m) (every p ns) h) e) e

pub of-below : (p : ℕ → Bool) (n m : ℕ) → T (every_below p n) → m < n → T (p m)
of-below p zero m h l = absurd (not-suc-le-zero l)
of-below p (suc n) m h l =
    either_lt m n (λ g. of-below p n m (and_r (p n) (every_below p n) h) g)
    (λ g. subst (λ (k : ℕ). T (p k)) (le_antisymm g (le_of_suc-le-suc l)) (and_l (p n) (every_below p n) h))
