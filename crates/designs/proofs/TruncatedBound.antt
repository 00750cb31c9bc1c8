-- Design 4's bound, from design 1's. In units of 1 / 2^t the kept fractions and the carry move design 1's sum by at most one unit,
-- so its product moves by at most two (`Carried.carried-close`), and one more is lost by rounding down.
use mathlib.Core.Path.{sym, subst₂}
use Prim.Native.Nat.{ℕ, ◌+◌, ◌*◌, ◌/◌, ◌^◌, ◌≤◌, ◌<◌}
use native.Mathlib.Nat.{div-mul-le_self, le_of_lt, lt-div-mul-add, mul_comm, mul-le-mul_left, mul-le-mul_right, mul-pos}
use native.Mathlib.Omega.{arith}
use lib.Pow.{pow-add, pow_pos}
use Rattle.designs.specs.Designs.{log2, rest, kept, by_truncation}
use Rattle.designs.proofs.Distance.{Within}
use Rattle.designs.proofs.Carried.{Close, carried, carried-close, carried-scale}
use Rattle.designs.proofs.Mitchell.{at, at-short}
use Rattle.designs.proofs.MitchellBound.{at-within}
use Rattle.designs.proofs.Parts.{parts, rest_lt}
use Rattle.designs.proofs.Truncated.{truncation-at}

-- f and g are a / P and b / Q in units of 1 / N, rounded down
sum-close : (P a Q b N f g : ℕ) → f * P ≤ a * N → a * N < f * P + P → g * Q ≤ b * N → b * N < g * Q + Q → Close (N * (a * Q + b * P)) (P * Q * (f + g + 1)) (P * Q)
sum-close P a Q b N f g h i j k =
    record {
      up = omega (arith, mul-le-mul_right Q (le_of_lt i), mul-le-mul_right P (le_of_lt k));
      down = omega (arith, mul-le-mul_right Q h, mul-le-mul_right P j);
    }

-- design 1's product times N, and design 4's before the division by N
product-close : (X s N S : ℕ) → 0 < X → 0 < N → Close (N * s) (X * S) X → Close (N * carried X s) (X * carried N S) (2 * X)
product-close X s N S p n c =
    rw (carried-scale N X s n, carried-scale X N S p, mul_comm X N) (carried-close (N * X) (N * s) (X * S) X c)

-- with the division
divided : (N M Y X p : ℕ) → 0 < N → p ≤ X → Within 9 X X M → M ≤ X → Close (N * M) Y (2 * p) → Within (9 * N) ((N + 18) * X + 9 * N) X (Y / N)
divided N M Y X p n l w m c =
    record {
      above = omega (arith, c.up, lt-div-mul-add {a = Y} n, mul-le-mul_left N w.above);
      below = omega (arith, c.down, div-mul-le_self Y N, mul-le-mul_left N m);
    }

-- the design over any P, Q and N
at-truncated : (P a Q b N : ℕ) → a < P → b < Q → 0 < N
    → Within (9 * N) ((N + 18) * ((P + a) * (Q + b)) + 9 * N) ((P + a) * (Q + b)) (P * Q * carried N (a * N / P + b * N / Q + 1) / N)
at-truncated P a Q b N ha hb n =
    divided N (at P a Q b) (P * Q * carried N (a * N / P + b * N / Q + 1)) ((P + a) * (Q + b)) (P * Q) n (omega arith)
    (at-within P a Q b ha hb) (omega (arith, at-short P a Q b ha hb))
    (product-close (P * Q) (a * Q + b * P) N (a * N / P + b * N / Q + 1) (mul-pos (omega arith) (omega arith)) n
    (sum-close P a Q b N (a * N / P) (b * N / Q) (div-mul-le_self (a * N) P) (lt-div-mul-add (omega arith)) (div-mul-le_self (b * N) Q) (lt-div-mul-add (omega arith))))

pub truncated-within : (t A B : ℕ) → 0 < A → 0 < B → Within (9 * 2 ^ t) ((2 ^ t + 18) * (A * B) + 9 * 2 ^ t) (A * B) (by_truncation t A B)
unfolding kept
truncated-within t A B ha hb =
    rw (truncation-at t A B, pow-add 2 (log2 A) (log2 B))
    (subst₂ (λ (x y : ℕ). Within (9 * 2 ^ t) ((2 ^ t + 18) * (x * y) + 9 * 2 ^ t) (x * y) (2 ^ log2 A * 2 ^ log2 B * carried (2 ^ t) (kept t A + kept t B + 1) / 2 ^ t))
    (sym (parts A ha)) (sym (parts B hb))
    (at-truncated (2 ^ log2 A) (rest A) (2 ^ log2 B) (rest B) (2 ^ t) (rest_lt A) (rest_lt B) (pow_pos t)))
