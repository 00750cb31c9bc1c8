-- What the last two fields of a report say of the row's residues, whichever way they are found. Definitions only.
use Rattle.std.specs.Prelude.{◌≡◌, List, ℕ, ◌*◌, ◌≤◌, ◌<◌, ℤ, pos, nat_abs, get_or, length}
use Rattle.designs.specs.Rows.{Report}

-- Of the first n numbers of z: no size is above `size`, `place` is the first place that has this size, and both are 0 where n is 0. No other
-- two numbers are such (`Worst.only`, in proofs/).
pub record Worst (z : ℕ → ℤ) (n size place : ℕ) : Type 0 where
  pub bounds : (k : ℕ) → k < n → nat_abs (z k) ≤ size
  pub met : 0 < n → (place < n) × (nat_abs (z place) ≡ size)
  pub earlier : (k : ℕ) → k < place → nat_abs (z k) < size
  pub none : n ≡ 0 → (size ≡ 0) × (place ≡ 0)

-- Of a report and the residues of its row: its last two fields are those of the worst pair, and the error's size is at most n times the
-- largest residue's.
pub record WorstPair (zs : List ℤ) (r : Report) : Type 0 where
  pub worst : Worst (λ k. get_or zs k (pos 0)) (length zs) r.largest_residue r.largest_place
  pub error : nat_abs r.error ≤ r.nonzero_pairs * r.largest_residue
