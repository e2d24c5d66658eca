-- How a node's buffers are taken, by its kind.
use Rattle.std.specs.Prelude.{ℕ, ◌+◌, Bool, false}
use Rattle.formats.specs.declared.format.Width.TheVariants.{One, Two, Four, Eight}
use Rattle.formats.specs.declared.kind.Kind.{Kind}
use Rattle.formats.specs.declared.kind.Kind.TheVariants.{Primitive, Boolean, Text, View, List, Map, Struct, RunEnds, FixedList}
use Rattle.pools.specs.declared.records.Part.{Part}
use Rattle.pools.specs.declared.pools.Marks.{Marks}
use Rattle.pools.specs.Store.{no_part}
use Rattle.parcels.specs.declared.draft.Parts.{Parts}

-- The part that is taken byte by byte, the entries that the body takes of each pool, whether its offsets are of eight
-- bytes, and the data buffers that are listed.
pub record Plan : Type 0 where
  pub plain : Part
  pub shorts : ℕ
  pub words : ℕ
  pub longs : ℕ
  pub offsets : ℕ
  pub wide : Bool
  pub views : ℕ
  pub list : Part

abbrev pub planned : (plain : Part) (shorts words longs offsets : ℕ) (wide : Bool) (views : ℕ) (list : Part) → Plan
planned plain s w l o wide v list = record { plain = plain; shorts = s; words = w; longs = l; offsets = o; wide = wide; views = v; list = list }

abbrev pub plan_of : Kind → Parts → (rows : ℕ) → Plan
plan_of (Primitive One) x n = planned x.body 0 0 0 0 false 0 no_part
plan_of (Primitive Two) x n = planned no_part n 0 0 0 false 0 no_part
plan_of (Primitive Four) x n = planned no_part 0 n 0 0 false 0 no_part
plan_of (Primitive Eight) x n = planned no_part 0 0 n 0 false 0 no_part
plan_of Boolean x n = planned x.body 0 0 0 0 false 0 no_part
plan_of (Text wide) x n = planned x.text 0 0 0 (n + 1) wide 0 no_part
plan_of View x n = planned no_part 0 0 0 0 false n x.lent
plan_of (List wide) x n = planned no_part 0 0 0 (n + 1) wide 0 no_part
plan_of Map x n = planned no_part 0 0 0 (n + 1) false 0 no_part
plan_of Struct x n = planned no_part 0 0 0 0 false 0 no_part
plan_of RunEnds x n = planned no_part 0 0 0 0 false 0 no_part
plan_of (FixedList size) x n = planned no_part 0 0 0 0 false 0 no_part

abbrev pub place_in : Kind → (plain : ℕ) → Marks → ℕ
place_in (Primitive One) plain m = plain
place_in (Primitive Two) plain m = m.shorts
place_in (Primitive Four) plain m = m.words
place_in (Primitive Eight) plain m = m.longs
place_in Boolean plain m = plain
place_in (Text wide) plain m = m.offsets
place_in View plain m = m.views
place_in (List wide) plain m = m.offsets
place_in Map plain m = m.offsets
place_in Struct plain m = 0
place_in RunEnds plain m = 0
place_in (FixedList size) plain m = 0
