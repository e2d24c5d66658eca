-- Each fact that is a ghost field of a type here (of nodes, of places, of what is shelved) has at most one proof: a type has to
-- show it of such a field. The types name these proofs, and no contract says what they say.
use Rattle.std.proofs.Common.{◌≡◌, ℕ, cond, eqb, List, Some, None, Option, sym, refl, ap, ◌∙◌}
use mathlib.Core.HLevel.{Unit-prop, Π_prop, collapsible→set}
use native.Mathlib.Nat.{ℕ_set}
use native.Mathlib.Bridge.{le_prop}
use Rattle.std.proofs.Math.Bool.{Bool-set}
use Rattle.std.specs.List.{AllByRecursion, AllByRecursion-prop}
use Rattle.columns.specs.Kinds.{Kind, primitive, boolean, strings, views, lists, maps, structs, run_ended, fixed_lists, unknown}
use Rattle.pools.specs.declared.records.Part.{Part}
use Rattle.parcels.specs.declared.draft.Draft.{Draft}
use Rattle.parcels.specs.declared.draft.Parts.{Parts}
use Rattle.parcels.specs.Reads.{Inside, MaskWithin, Within}
use Rattle.parcels.specs.Drafts.{Drafted}
use Rattle.soundness.specs.declared.places.Places.{Places}
use Rattle.soundness.specs.Sources.{Indexed}

-- a kind by two numbers, and back
abbrev number : Kind → ℕ
number (primitive w) = 0
number boolean = 1
number strings = 2
number views = 3
number lists = 4
number maps = 5
number structs = 6
number run_ended = 7
number (fixed_lists w) = 8
number unknown = 9

abbrev size : Kind → ℕ
size (primitive w) = w
size boolean = 0
size strings = 0
size views = 0
size lists = 0
size maps = 0
size structs = 0
size run_ended = 0
size (fixed_lists w) = w
size unknown = 0

abbrev kind_by : ℕ → ℕ → Kind
kind_by n w = cond (eqb n 0) (primitive w) (cond (eqb n 1) boolean (cond (eqb n 2) strings (cond (eqb n 3) views (cond (eqb n 4) lists (cond (eqb n 5) maps (cond (eqb n 6) structs (cond (eqb n 7) run_ended (cond (eqb n 8) (fixed_lists w) unknown))))))))

back : (K : Kind) → kind_by (number K) (size K) ≡ K
back (primitive w) = refl
back boolean = refl
back strings = refl
back views = refl
back lists = refl
back maps = refl
back structs = refl
back run_ended = refl
back (fixed_lists w) = refl
back unknown = refl

-- a path of kinds, by those of their numbers
over : (K L : Kind) → number K ≡ number L → size K ≡ size L → K ≡ L
over K L e f = sym (back K) ∙ (λ i. kind_by (e i) (f i)) ∙ back L

kind_set : (K L : Kind) → IsProp (K ≡ L)
kind_set =
    collapsible→set (λ K L p. over K L (ap number p) (ap size p))
    (λ K L p q i. over K L (ℕ_set (number K) (number L) (ap number p) (ap number q) i) (ℕ_set (size K) (size L) (ap size p) (ap size q) i))

mask_prop : (parcel : List ℕ) (mask : Option Part) → IsProp (MaskWithin parcel mask)
mask_prop parcel None = Unit-prop
mask_prop parcel (Some p) = le_prop

inside_prop : (parcel : List ℕ) (x : Parts) → IsProp (Inside parcel x)
inside_prop parcel x = λ a b i.
    record {
      mask = mask_prop parcel x.mask a.mask b.mask i;
      body = le_prop a.body b.body i;
      text = le_prop a.text b.text i;
      lent = le_prop a.lent b.lent i;
      brief = le_prop a.brief b.brief i;
      few = le_prop a.few b.few i;
    }

pub drafted_prop : (parcel : List ℕ) (d : Draft) → IsProp (Drafted parcel d)
drafted_prop parcel d = λ a b i.
    record {
      parts = inside_prop parcel d.parts a.parts b.parts i;
      head = le_prop a.head b.head i;
      name = le_prop a.name b.name i;
      rows = le_prop a.rows b.rows i;
      lent = Bool-set _ _ a.lent b.lent i;
      layout = kind_set _ _ a.layout b.layout i;
      offsets = ℕ_set _ _ a.offsets b.offsets i;
    }

pub all_drafted_prop : (parcel : List ℕ) (ds : List Draft) → IsProp (AllByRecursion (Drafted parcel) ds)
all_drafted_prop parcel ds = AllByRecursion-prop (Drafted parcel) (drafted_prop parcel) ds

pub shelved_prop : (bytes : List ℕ) (buffers : List Part) → IsProp (AllByRecursion (Within bytes) buffers)
shelved_prop bytes buffers = AllByRecursion-prop (Within bytes) (λ p. le_prop) buffers

pub indexed_prop : (parcel : List ℕ) (lent : Part) (x : Places) → IsProp (Indexed parcel lent x)
indexed_prop parcel lent x = λ a b i.
    record {
      stride = ℕ_set _ _ a.stride b.stride i;
      known = Π_prop (λ j. Π_prop (λ h. ℕ_set _ _)) a.known b.known i;
      size = ℕ_set _ _ a.size b.size i;
    }
