-- The kind of a number is one of the list that has this number, or the unknown one. The law goes down the list.
use mathlib.Core.Path.{◌≡◌}
use Prim.Native.Nat.{ℕ}
use mathlib.Core.Bool.{Bool, cond}
use mathlib.Core.List.{List, [], ◌∷◌}
use borrow.Author.Tests.{eqb-true}
use lib.Dec.{eqb}
use Rattle.designs.proofs.Cases.{by_bool}
use Rattle.records.specs.Kinds.{Kind, kinds, kind_in, kind_of, unknown}

-- a claim on each kind of a list
abbrev pub Every : (Kind → Type 0) → List Kind → Type 0
Every P [] = Unit
Every P (k ∷ ks) = P k × Every P ks

module _ (P : Kind → Type 0) (n : ℕ) (of-unknown : P unknown) where
  by-kind-in : (ks : List Kind) → Every (λ k. n ≡ k.number → P k) ks → P (kind_in ks n)
  by-kind-in [] h = of-unknown
  by-kind-in (k ∷ ks) h =
      by_bool (λ (b : Bool). P (cond b k (kind_in ks n))) (eqb n k.number) (λ e. h.0 (eqb-true n k.number e)) (λ _. by-kind-in ks h.1)

  -- a claim on the kind of n, from the claim on each kind, where n is its number, and on the unknown one
  pub by_kind : Every (λ k. n ≡ k.number → P k) kinds → P (kind_of n)
  unfolding kind_of
  by_kind = by-kind-in kinds
