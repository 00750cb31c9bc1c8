-- The first refusal of a list that applies. Where it is 0, no test of the list holds; where it is not, it is one of the list's numbers;
-- and of a list in two parts it is that of the first part, or, where nothing there applies, that of the second. Each law goes by the
-- list's tests, one after the other.
use mathlib.Core.Path.{◌≡◌, refl, sym, ap, ◌∙◌}
use Prim.Native.Nat.{ℕ, zero, suc, ◌<◌}
use native.Mathlib.Omega.{arith}
use mathlib.Core.Bool.{Bool, true, false, cond}
use mathlib.Core.List.{List, [], ◌∷◌, ◌++◌, map}
use lib.Dec.{T, ltb}
use lib.Ieee.Fits.{and_l, and_r}
use Rattle.designs.specs.Outcomes.{Outcome, accepted, refused, Refusal, ◌when◌, first, otherwise, unless_refused}
use Rattle.designs.proofs.Cases.{by_bool}
use Rattle.designs.proofs.Lists.{every}

-- whether the refusal at a place of a list applies
abbrev pub test : List Refusal → ℕ → Bool
test [] i = false
test (r ∷ rs) zero = r.applies
test (r ∷ rs) (suc i) = test rs i

abbrev pub numbers : List Refusal → List ℕ
numbers rs = map (λ r. r.number) rs

-- no number is 0, which stands for no refusal
abbrev pub Numbered : List Refusal → Type 0
Numbered rs = T (every (ltb 0) (numbers rs))

clash : {X : Type 0} (n : ℕ) → T (ltb 0 n) → n ≡ 0 → X
clash zero t e = absurd t
clash (suc n) t e = absurd (omega arith)

module _ (r : Refusal) (rs : List Refusal) (numbered : Numbered (r ∷ rs)) where
  positive : T (ltb 0 r.number)
  positive = and_l (ltb 0 r.number) (every (ltb 0) (numbers rs)) numbered

  later : Numbered rs
  later = and_r (ltb 0 r.number) (every (ltb 0) (numbers rs)) numbered

-- the first is 0, so none applies
pub none : (rs : List Refusal) → Numbered rs → first rs ≡ 0 → (i : ℕ) → test rs i ≡ false
unfolding first
none [] h e i = refl
none (r ∷ rs) h e i = go r.applies e (none rs (later r rs h)) i
  where
    go : (b : Bool) → cond b r.number (first rs) ≡ 0 → (first rs ≡ 0 → (i : ℕ) → test rs i ≡ false) → (i : ℕ) → test (r.number when b ∷ rs) i ≡ false
    go true e rest i = clash r.number (positive r rs h) e
    go false e rest zero = refl
    go false e rest (suc i) = rest e i

-- the first is among the numbers, so what holds of them and of 0 holds of it
pub among : (p : ℕ → Bool) (rs : List Refusal) → T (p 0) → T (every p (numbers rs)) → T (p (first rs))
unfolding first
among p [] z h = z
among p (r ∷ rs) z h =
    by_bool (λ (b : Bool). T (p (cond b r.number (first rs)))) r.applies (λ _. and_l (p r.number) (every p (numbers rs)) h)
    (λ _. among p rs z (and_r (p r.number) (every p (numbers rs)) h))

-- a list in two parts: n is the first of the first part, which is 0 or not
pub of-first : (xs ys : List Refusal) {n : ℕ} → n ≡ first xs → (n ≡ 0 → ⊥) → n ≡ first (xs ++ ys)
unfolding first
of-first [] ys e h = absurd (h e)
of-first (r ∷ xs) ys {n} e h =
    by_bool (λ (b : Bool). n ≡ cond b r.number (first xs) → n ≡ cond b r.number (first (xs ++ ys))) r.applies
    (λ _ e. e) (λ _ e. of-first xs ys e h) e

pub of-second : (xs ys : List Refusal) → Numbered xs → {n : ℕ} → n ≡ first xs → n ≡ 0 → first ys ≡ first (xs ++ ys)
unfolding first
of-second [] ys h e z = refl
of-second (r ∷ xs) ys h {n} e z =
    by_bool (λ (b : Bool). n ≡ cond b r.number (first xs) → first ys ≡ cond b r.number (first (xs ++ ys))) r.applies
    (λ _ e. clash r.number (positive r xs h) (sym e ∙ z)) (λ _ e. of-second xs ys (later r xs h) e z) e

-- where nothing of both parts applies, nothing of each does
pub of-both : (xs ys : List Refusal) → Numbered xs → first (xs ++ ys) ≡ 0 → (first xs ≡ 0) × (first ys ≡ 0)
unfolding first
of-both [] ys h e = (refl, e)
of-both (r ∷ xs) ys h e =
    by_bool (λ (b : Bool). cond b r.number (first (xs ++ ys)) ≡ 0 → (cond b r.number (first xs) ≡ 0) × (first ys ≡ 0)) r.applies
    (λ _ e. clash r.number (positive r xs h) e) (λ _ e. of-both xs ys (later r xs h) e) e

-- a refusal hides what would be given otherwise
pub refused-is : {X : Type 0} (n : ℕ) (o : Outcome X) → (n ≡ 0 → ⊥) → refused n ≡ otherwise n o
refused-is zero o h = absurd (h refl)
refused-is (suc n) o h = refl

-- the outcome by a number that was found, where m is the number that is meant
pub refuses : {X : Type 0} (v : X) {n m : ℕ} → n ≡ m → (n ≡ 0 → ⊥) → refused n ≡ unless_refused m v
refuses v {n} is h = refused-is n (accepted v) h ∙ ap (λ (k : ℕ). unless_refused k v) is

pub gives : {X : Type 0} (v : X) {n m : ℕ} → n ≡ m → n ≡ 0 → accepted v ≡ unless_refused m v
gives v is z = ap (λ (k : ℕ). unless_refused k v) (sym z ∙ is)

-- what is refused is refused with the number that was judged, which is not 0
pub refused-with : {X : Type 0} (n k : ℕ) (v : X) → refused k ≡ unless_refused n v → (n ≡ k) × (0 < k)
refused-with zero k v e = let z : ◌≡◌ {A = ℕ} 0 1 = cc in absurd (omega arith)
refused-with (suc n) k v e = let z : suc n ≡ k = cc in (z, omega arith)

-- and where a value is given, that number is 0 and the value is the one that was meant
pub accepted-with : {X : Type 0} (n : ℕ) {v x : X} → accepted x ≡ unless_refused n v → (n ≡ 0) × (x ≡ v)
accepted-with zero e = (refl, cc)
accepted-with (suc n) {v} e = let z : ◌≡◌ {A = ℕ} 0 1 = cc in absurd (omega arith)

-- a claim on an outcome, from the claim on each refusal of a list and on what is given where none applies
pub by-outcome : {X : Type 0} (P : Outcome X → Type 0) (rs : List Refusal) {o : Outcome X} → Numbered rs
    → ((n : ℕ) → first rs ≡ n → P (refused n)) → (((i : ℕ) → test rs i ≡ false) → P o) → P (otherwise (first rs) o)
by-outcome {X} P rs {o} h refuse give = go (first rs) (λ n e. refuse n e) (λ e. give (none rs h e))
  where
    go : (k : ℕ) → ((n : ℕ) → k ≡ n → P (refused n)) → (k ≡ 0 → P o) → P (otherwise k o)
    go zero f g = g refl
    go (suc k) f g = f (suc k) refl
