-- Text as lists of bytes: what is written out, numbers in decimal, and what it is to write at a place of a buffer. Definitions only.
use Rattle.std.specs.Prelude.{ℕ, zero, suc, ◌+◌, ◌/◌, ◌%◌, ◌≤◌, ◌≡◌, cond, List, [], ◌∷◌, ◌++◌, ltb, ℤ, nat_abs, length}
use Prim.Native.Char.{code}
use Prim.Native.String.{String}
use Prim.Native.String as string
use Rattle.std.specs.Float.Ieee.{size}
use Rattle.std.proofs.lemmas.List.Edits.{sets}
use Rattle.designs.specs.Signs.{negative}

-- The bytes of a text that is written out in ASCII, where each character is one byte, its code.
abbrev pub ascii : String → List ℕ
ascii string.[] = []
ascii (string.◌∷◌ c s) = code c ∷ ascii s

-- The byte of a digit.
abbrev pub digit : ℕ → List ℕ
digit n = (code "0" + n) ∷ []

-- A number in decimal, of at most f digits after the first: without its last digit it is n / 10 in decimal
unfoldable pub digits : ℕ → ℕ → List ℕ
digits zero n = digit n
digits (suc f) n = cond (ltb n 10) (digit n) (digits f (n / 10) ++ digit (n % 10))

-- A number in decimal, with no leading zero: it has no more digits after the first than binary ones
unfoldable pub decimal : ℕ → List ℕ
unfolding digits size
decimal n = digits (size n) n

-- A minus sign before the size of a negative number, and none before another
unfoldable pub signed_decimal : ℤ → List ℕ
unfolding decimal
signed_decimal z = cond (negative z) (ascii "-" ++ decimal (nat_abs z)) (decimal (nat_abs z))

-- The buffer d has room for `text` from `at` on
pub record Room (d : List ℕ) (at : ℕ) (text : List ℕ) : Type 0 where
  pub fits : at + length text ≤ length d

-- The buffer d with `text` written from `at` on is d', and r is the place after it
pub record Put (d : List ℕ) (at : ℕ) (text d' : List ℕ) (r : ℕ) : Type 0 where
  pub next : r ≡ at + length text
  pub written : d' ≡ sets d at text
