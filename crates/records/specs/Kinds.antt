-- The kinds of records (docs/SCOPE.md, "The bench program's records"). A kind is its number, the length of its body and what it gives; a
-- further kind is one entry of the list. What an operation gives is cited from its own definition. Definitions only.
use Rattle.std.specs.Prelude.{ℕ, cond, List, [], ◌∷◌, eqb, ℤ, pos}
use Rattle.designs.specs.Designs.{mitchell, product}
use Rattle.designs.specs.Outcomes.{Outcome, accepted, refused, Refusal, ◌when◌}
use Rattle.designs.specs.Products.{signed_outcome}
use Rattle.refusals.specs.Refusals.{number as number_of}
use Rattle.refusals.specs.declared.Refusal.TheVariants as R
use Rattle.singles.specs.Singles.{single_outcome}
use Rattle.records.specs.Fields.{field8, field16, field32, signed}

-- A kind: its number, how many bytes its body has, and the outcome of such a body.
pub record Kind : Type 0 where
  pub number : ℕ
  pub body : ℕ
  pub outcome : List ℕ → Outcome ℤ

-- The outcome of an operation on unsigned numbers.
abbrev pub natural : Outcome ℕ → Outcome ℤ
natural (accepted n) = accepted (pos n)
natural (refused n) = refused n

-- Kind 1: a design and a setting, then two signed operands of 16 bits; their signed product at width 16.
unfoldable pub signed_record : List ℕ → Outcome ℤ
signed_record b = signed_outcome (field8 b 0) 16 (field8 b 1) (signed 16 (field16 b 2)) (signed 16 (field16 b 4))

-- Kind 2: two binary32 patterns; the pattern of their single product.
unfoldable pub single_record : List ℕ → Outcome ℤ
single_record b = natural (single_outcome (field32 b 0) (field32 b 4))

-- Kind 3: the table's product of two bytes, which is that of design 1. It is never refused.
unfoldable pub table_record : List ℕ → Outcome ℤ
table_record b = accepted (pos (product mitchell (field8 b 0) (field8 b 1)))

abbrev pub kinds : List Kind
kinds =
    record { number = 1; body = 6; outcome = signed_record }
    ∷ record { number = 2; body = 8; outcome = single_record }
    ∷ record { number = 3; body = 2; outcome = table_record }
    ∷ []

-- 17 for a kind without a body, which no kind of the list is.
abbrev pub unknown_kind : ℕ → Refusal
unknown_kind body = number_of R.UnknownKind when eqb body 0

-- What stands for the kind of a number that none of them has: it has no body.
abbrev pub unknown : Kind
unknown = record { number = 0; body = 0; outcome = λ b. refused (unknown_kind 0).number }

-- The kind of a number, in a list of kinds and among all.
abbrev pub kind_in : List Kind → ℕ → Kind
kind_in [] n = unknown
kind_in (k ∷ ks) n = cond (eqb n k.number) k (kind_in ks n)

unfoldable pub kind_of : ℕ → Kind
kind_of n = kind_in kinds n
