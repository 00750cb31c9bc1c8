-- What `scaled_outcome` gives for each way that its tests can go: each law puts in what the tests give and computes.
use mathlib.Core.Path.{◌≡◌}
use Prim.Native.Nat.{ℕ, ◌^◌, ◌≤◌, ◌<◌}
use borrow.Author.Tests.{lt-ltb, le-ltb}
use lib.IntN.{ℤ, pos, nat_abs}
use Rattle.designs.specs.Outcomes.{accepted, refused}
use Rattle.scaling.specs.Quotient.{quotient}
use Rattle.scaling.specs.Scaling.{scaled_outcome}

module _ (z : ℤ) (t k : ℕ) where
  pub by-shift : 40 < k → refused 15 ≡ scaled_outcome z t k
  unfolding scaled_outcome
  by-shift h = simp (lt-ltb 40 k h)

  pub by-score : k ≤ 40 → 2 ^ 53 < nat_abs z → refused 16 ≡ scaled_outcome z t k
  unfolding scaled_outcome
  by-score h g = simp (le-ltb 40 k h, lt-ltb (2 ^ 53) (nat_abs z) g)

  pub by-sum : k ≤ 40 → nat_abs z ≤ 2 ^ 53 → 2 ^ 53 < t → refused 16 ≡ scaled_outcome z t k
  unfolding scaled_outcome
  by-sum h g f = simp (le-ltb 40 k h, le-ltb (2 ^ 53) (nat_abs z) g, lt-ltb (2 ^ 53) t f)

  pub by_values : k ≤ 40 → nat_abs z ≤ 2 ^ 53 → t ≤ 2 ^ 53
      → accepted (record { score = quotient z k; magnitude_sum = quotient (pos t) k }) ≡ scaled_outcome z t k
  unfolding scaled_outcome
  by_values h g f = simp (le-ltb 40 k h, le-ltb (2 ^ 53) (nat_abs z) g, le-ltb (2 ^ 53) t f)
