-- What a pool holds, and what it has room for.
use Rattle.std.specs.Prelude.{ℕ, ◌+◌, ◌-◌, ◌≤◌, min, Bool, ◌&&◌, not, List, length, take, nat_le}
use Rattle.pools.specs.declared.pool.Pool.{Pool}
use Rattle.pools.specs.Grown.{most_entries, Grown, Longer}

-- the entries below the mark
abbrev pub used : {X : Type 0} → Pool X → List X
used p = take p.mark p.lent.now

-- how many more entries there can be
abbrev pub room : {X : Type 0} → Pool X → ℕ
room p = min (length p.lent.now) most_entries - p.mark

-- n more entries fit
pub record Fit {X : Type 0} (p : Pool X) (n : ℕ) : Type 0 where
  pub lent : p.mark + n ≤ length p.lent.now
  pub capped : p.mark + n ≤ most_entries

-- p has gained the entries `new`, and is q
abbrev pub Gains : {X : Type 0} → Pool X → List X → Pool X → Type 0
Gains p new q = Grown p.mark p.lent.now new q.mark q.lent.now

-- what p has below its mark stands in q
abbrev pub Keeps : {X : Type 0} → Pool X → Pool X → Type 0
Keeps p q = Longer p.mark p.lent.now q.mark q.lent.now

-- so many entries more do not fit into a pool of this length with this mark
abbrev pub is_short : (ℕ × ℕ) × ℕ → Bool
is_short x = not (nat_le (x.0.1 + x.1) x.0.0 && nat_le (x.0.1 + x.1) most_entries)
