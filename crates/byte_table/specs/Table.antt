-- The rule of the table, and what a product by the table gives (docs/SCOPE.md, "The byte table"). Definitions only.
use Rattle.std.specs.Prelude.{◌≡◌, Bool, List, ℕ, ◌+◌, ◌%◌, ◌<◌, T, eqb, length, get_or}
use Rattle.designs.specs.Designs.{mitchell, product}
use Rattle.designs.specs.Codes.{code, scaled_product, by_codes}
use Rattle.designs.specs.Lists.{every_below}

-- The entry x at place v is the code of v; entry 0 holds 0, which is what `code` gives for 0.
unfoldable pub is_code : ℕ → ℕ → Bool
unfolding code
is_code v x = eqb x (code 7 v)

-- A table of 256 logarithm codes. The rule is one test over all entries together.
pub record CodeTable (xs : List ℕ) : Type 0 where
  pub long : length xs ≡ 256
  pub coded : T (every_below (λ (v : ℕ). is_code v (get_or xs v 0)) (length xs))

-- The sum of the codes of a and b. It is below 16 × 128, so Q is at most 15.
pub record CodeSum (a b r : ℕ) : Type 0 where
  pub is : r ≡ code 7 a + code 7 b
  pub small : r < 2048

-- The product by the table: where the codes' sum is 128 × Q + R with R < 128, it is (128 + R) × 2^Q / 128, a division that leaves
-- nothing; or 0 where a byte is 0. It is what design 1 gives for the two bytes.
pub record TableProduct (a b r : ℕ) : Type 0 where
  pub is : r ≡ by_codes 7 a b
  pub whole : scaled_product 7 (code 7 a + code 7 b) % 128 ≡ 0
  pub design1 : r ≡ product mitchell a b
