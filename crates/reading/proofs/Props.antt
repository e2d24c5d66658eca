-- Facts that have at most one proof, so that they follow from what is only known to be.
use Rattle.std.proofs.Common.{ℕ, ◌+◌, List, Some, None, Option}
use mathlib.Core.HLevel.{Π_prop, ×_prop, Unit-prop, ⊥_prop}
use native.Mathlib.Nat.{ℕ_set}
use native.Mathlib.Bridge.{le_prop}
use Rattle.std.specs.List.{AllByRecursion-prop}
use Rattle.formats.specs.declared.kind.Kind.{Kind}
use Rattle.formats.specs.declared.kind.Kind.TheVariants.{Primitive, Boolean, Text, View as Viewed, List as Listed, Map, Struct, RunEnds, FixedList}
use Rattle.columns.specs.Column.{View, short, long}
use Rattle.columns.specs.Sound.{ViewSound}
use Rattle.pools.specs.declared.records.View.{View as Halves}
use Rattle.pools.specs.declared.records.Part.{Part}
use Rattle.pools.specs.declared.records.Node.{Node as Entry}
use Rattle.pools.specs.Bits.{MaskThere}
use Rattle.pools.specs.Held.{view_from}
use Rattle.pools.specs.Parts.{part_of, Inside}
use Rattle.pools.specs.Store.{Store}
use Rattle.rows.specs.Ranged.{RangeThere, Rises}
use Rattle.reading.specs.Raw.{buffer_in, ViewIn, halves_at, LeafIn}
use Rattle.reading.specs.Readable.{EndsIn}

rises_prop : (es : List ℕ) → IsProp (Rises es)
rises_prop es = Π_prop (λ j. Π_prop (λ k. Π_prop (λ a. Π_prop (λ b. le_prop))))

pub mask_there_prop : (bytes : List ℕ) (mask : Option ℕ) (row : ℕ) → IsProp (MaskThere bytes mask row)
mask_there_prop bytes None row = Unit-prop
mask_there_prop bytes (Some place) row = le_prop

pub range_there_prop : (os : List ℕ) (k : Kind) (place row : ℕ) → IsProp (RangeThere os k place row)
range_there_prop os (Primitive w) place row = Unit-prop
range_there_prop os Boolean place row = Unit-prop
range_there_prop os (Text wide) place row = le_prop
range_there_prop os Viewed place row = Unit-prop
range_there_prop os (Listed wide) place row = le_prop
range_there_prop os Map place row = le_prop
range_there_prop os Struct place row = Unit-prop
range_there_prop os RunEnds place row = Unit-prop
range_there_prop os (FixedList size) place row = le_prop

view_sound_prop : (D : ℕ → List ℕ) (bs : List ℕ) (v : View) → IsProp (ViewSound D bs v)
view_sound_prop D bs (short len inline) = λ x y i. (le_prop x.0 y.0 i, ℕ_set _ _ x.1 y.1 i)
view_sound_prop D bs (long len prefix position offset) = λ x y i. (le_prop x.0 y.0 i, le_prop x.1 y.1 i, le_prop x.2 y.2 i, ℕ_set _ _ x.3 y.3 i)

view_in_prop : (P : Store) (list : Part) (h : Halves) → IsProp (ViewIn P list h)
view_in_prop P list h = λ x y i.
    record {
      listed = le_prop x.listed y.listed i;
      sound = view_sound_prop (buffer_in P) (part_of P.lists list) (view_from h) x.sound y.sound i;
      inside = AllByRecursion-prop (Inside P.bytes) (λ p. le_prop) P.buffers x.inside y.inside i;
    }

pub leaf_in_prop : (P : Store) (r : Entry) (k : Kind) (row : ℕ) → IsProp (LeafIn P r k row)
leaf_in_prop P r (Primitive w) row = le_prop
leaf_in_prop P r Boolean row = le_prop
leaf_in_prop P r (Text wide) row = λ x y i. record { there = le_prop x.there y.there i; inside = le_prop x.inside y.inside i }
leaf_in_prop P r Viewed row = λ x y i. record { there = le_prop x.there y.there i; view = view_in_prop P r.buffers (halves_at P (r.place + row)) x.view y.view i }
leaf_in_prop P r (Listed wide) row = Unit-prop
leaf_in_prop P r Map row = Unit-prop
leaf_in_prop P r Struct row = Unit-prop
leaf_in_prop P r RunEnds row = Unit-prop
leaf_in_prop P r (FixedList size) row = Unit-prop

pub ends_in_prop : (P : Store) (r : Entry) (k : Kind) → IsProp (EndsIn P r k)
ends_in_prop P r (Primitive w) = ×_prop le_prop (rises_prop _)
ends_in_prop P r Boolean = ⊥_prop
ends_in_prop P r (Text wide) = ⊥_prop
ends_in_prop P r Viewed = ⊥_prop
ends_in_prop P r (Listed wide) = ⊥_prop
ends_in_prop P r Map = ⊥_prop
ends_in_prop P r Struct = ⊥_prop
ends_in_prop P r RunEnds = ⊥_prop
ends_in_prop P r (FixedList size) = ⊥_prop
