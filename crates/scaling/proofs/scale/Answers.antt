-- `scale` makes the tests of `scaled_outcome` in order, so each refusal is the first that applies. Past them the sizes and the shift
-- are small enough that each cast is exact and each division is the quotient.
use Rattle.std.proofs.Common.{arith, ℕ, ◌≡◌, ◌≤◌, ◌*◌, ◌%◌, ◌^◌, pos, nat_abs}
use Rattle.std.proofs.lemmas.Int.{to_z-of_z}
use mathlib.Core.Logic.{⊎_elim}
use lib.Pow.{pow_mono}
use Rattle.designs.proofs.Parts.{one_shifted}
use Rattle.scaling.proofs.Division.{division}
use Rattle.scaling.proofs.ScaledOutcome.{by-shift, by-score, by-sum, by_values}
use Rattle.scaling.proofs.Quotient.{quotient-exact}
use Rattle.scaling.proofs.SizeTests.{cast-exact}
use Rattle.scaling.proofs.scale.Goals as goal
use Rattle.scaling.proofs.scale.Goals.{After-unsigned_abs}

-- the size that is tested
size-is : (c : After-unsigned_abs) → c.unsigned_abs.result ≡ nat_abs c.args.score
size-is c = let fits = c.ranges.score in simp to_z-of_z at c.unsigned_abs.ensures.value

pub returns-then-shift-gt-LARGEST_SHIFT-clause-outcome : goal.returns-then-shift-gt-LARGEST_SHIFT-clause-outcome
returns-then-shift-gt-LARGEST_SHIFT-clause-outcome c = by-shift c.args.score c.args.magnitude_sum c.args.shift c.if-shift-gt-LARGEST_SHIFT.true

pub returns-then-unsigned_abs-gt-LARGEST_SIZE-clause-outcome : goal.returns-then-unsigned_abs-gt-LARGEST_SIZE-clause-outcome
returns-then-unsigned_abs-gt-LARGEST_SIZE-clause-outcome c =
    let size = size-is (goal.at.returns-then-unsigned_abs-gt-LARGEST_SIZE-clause-outcome c).After-unsigned_abs in
    let shift = c.if-shift-gt-LARGEST_SHIFT.false in
    ⊎_elim (λ h. by-score c.args.score c.args.magnitude_sum c.args.shift shift (omega (arith, size)))
    (λ h. by-sum c.args.score c.args.magnitude_sum c.args.shift shift (omega (arith, size)) h.1) c.then-unsigned_abs-gt-LARGEST_SIZE.either

-- `1 << shift`
power-is : (k : ℕ) → k ≤ 40 → (1 * 2 ^ k) % 2 ^ 64 ≡ 2 ^ k
power-is k h = one_shifted k 64 (omega arith)

pub int_to_float-power : goal.int_to_float-power
int_to_float-power c =
    let h = c.if-shift-gt-LARGEST_SHIFT.false in
    rw (power-is c.args.shift h) (cast-exact (pos _) (pow_mono {j = 53} (omega arith)))

pub returns : goal.returns
returns c =
    let z = c.args.score in
    let t = c.args.magnitude_sum in
    let k = c.args.shift in
    let fits = c.ranges.score in
    let s = c.if-shift-gt-LARGEST_SHIFT.false in
    let size = size-is (goal.at.returns c).After-unsigned_abs in
    let h : nat_abs z ≤ 2 ^ 53 = omega arith in
    let g = c.if-magnitude_sum-gt-LARGEST_SIZE.false in
    let room : k ≤ 53 = omega arith in
    simp (to_z-of_z, power-is k s, division z k h room, division (pos t) k g room)
    (record {
      outcome = by_values z t k s h g;
      exact = (quotient-exact z k h (omega arith), quotient-exact (pos t) k g (omega arith));
    })
