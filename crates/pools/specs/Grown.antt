-- How a list that is used up to a mark grows.
use Rattle.std.specs.Prelude.{◌≡◌, ℕ, ◌+◌, ◌≤◌, List, ◌++◌, length, take}

-- At most so many entries of a pool are ever used.
abbrev pub most_entries : ℕ
most_entries = 1048576

-- With mark m over xs, the entries `new` were added: mark m' over xs', as long as xs, with nothing changed below m.
pub record Grown {X : Type 0} (m : ℕ) (xs : List X) (new : List X) (m' : ℕ) (xs' : List X) : Type 0 where
  pub mark : m' ≡ m + length new
  pub len : length xs' ≡ length xs
  pub used : take m' xs' ≡ take m xs ++ new

-- What xs has below its mark m stands in xs', whose mark is m'.
pub record Longer {X : Type 0} (m : ℕ) (xs : List X) (m' : ℕ) (xs' : List X) : Type 0 where
  pub marks : m ≤ m'
  pub fits : m' ≤ length xs'
  pub capped : m' ≤ most_entries
  pub len : length xs' ≡ length xs
  pub below : take m xs' ≡ take m xs

-- What xs has below m stands in ys.
pub record Stays {X : Type 0} (m : ℕ) (xs ys : List X) : Type 0 where
  pub len : length ys ≡ length xs
  pub below : take m ys ≡ take m xs
