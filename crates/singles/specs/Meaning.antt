-- What a product means as a number, in whole numbers. Definitions only.
use Rattle.std.specs.Prelude.{◌≡◌, true, ℕ, ◌-◌, ◌*◌, ◌≤◌}
use Rattle.designs.specs.Outcomes.{Outcome, accepted, refused}
use Rattle.formats.specs.Formats.{Format, is_minus, is_normal}
use Rattle.formats.specs.Values.{size, unit}
use Rattle.singles.specs.Singles.{sign_of}

module _ (f : Format) where
  -- The number p falls short of the true product of a and b by at least 0 and at most a ninth of it, and has its sign:
  -- size p / unit against (size a / unit) × (size b / unit), both times unit × unit.
  pub record Near (a b p : ℕ) : Type 0 where
    pub normal : is_normal f p ≡ true
    pub sign : is_minus f p ≡ sign_of f a b
    pub least : size f p * unit f ≤ size f a * size f b
    pub most : 9 * (size f a * size f b - size f p * unit f) ≤ size f a * size f b

  -- so it is with an accepted product of normal numbers
  abbrev pub NearIfNormal : ℕ → ℕ → Outcome ℕ → Type 0
  NearIfNormal a b (accepted p) = is_normal f a ≡ true → is_normal f b ≡ true → Near a b p
  NearIfNormal a b (refused n) = Unit {0}
