-- What the drafts of a parcel add to the pools, one after another.
use Rattle.std.specs.Prelude.{◌≡◌, ℕ, ◌+◌, List, [], ◌∷◌, ◌++◌, length}
use Rattle.std.specs.List.{AllByRecursion}
use Rattle.columns.specs.Column.{Node}
use Rattle.pools.specs.declared.records.Part.{Part}
use Rattle.pools.specs.declared.pools.Pools.{Pools}
use Rattle.pools.specs.declared.pools.Marks.{Marks}
use Rattle.pools.specs.Used.{used, Fit, Gains}
use Rattle.pools.specs.Kept.{Kept}
use Rattle.pools.specs.Marked.{marks_of, no_marks}
use Rattle.pools.specs.Parts.{Inside, buffers_in}
use Rattle.pools.specs.Store.{store}
use Rattle.parcels.specs.declared.draft.Draft.{Draft}
use Rattle.parcels.specs.Lent.{data_from}
use Rattle.parcels.specs.Drafts.{node_in}
use Rattle.filing.specs.Lent.{flat}
use Rattle.filing.specs.Masks.{mask_len}
use Rattle.filing.specs.News.{plan_in, brought_by}
use Rattle.filing.specs.Row.{Row}

-- how many entries a draft takes of each pool
abbrev pub takes : List ℕ → Draft → Marks
takes parcel d =
    record {
      columns = 0;
      nodes = 1;
      bytes = d.head.format.len + (mask_len d.parts.mask + (plan_in d).plain.len) + length (flat (brought_by parcel d));
      shorts = (plan_in d).shorts;
      words = (plan_in d).words;
      longs = (plan_in d).longs;
      offsets = (plan_in d).offsets;
      views = (plan_in d).views;
      lists = (plan_in d).list.len;
      buffers = length (brought_by parcel d);
    }

abbrev pub both : Marks → Marks → Marks
both m n =
    record { columns = m.columns + n.columns; nodes = m.nodes + n.nodes; bytes = m.bytes + n.bytes; shorts = m.shorts + n.shorts; words = m.words + n.words; longs = m.longs + n.longs; offsets = m.offsets + n.offsets; views = m.views + n.views; lists = m.lists + n.lists; buffers = m.buffers + n.buffers }

unfoldable pub takes_all : List ℕ → List Draft → Marks
takes_all parcel [] = no_marks
takes_all parcel (d ∷ ds) = both (takes parcel d) (takes_all parcel ds)

-- the nodes that drafts are, with their child counts, where new data buffers are numbered from `next` on
unfoldable pub nodes_from : List ℕ → (next : ℕ) → List Draft → List (Node × ℕ)
nodes_from parcel next [] = []
nodes_from parcel next (d ∷ ds) =
    (node_in parcel d (data_from parcel d.parts.lent.start next d.parts.lent.len), d.head.children) ∷ nodes_from parcel (next + length (brought_by parcel d)) ds

-- the data buffers that they bring
unfoldable pub brought_all : List ℕ → List Draft → List (List ℕ)
brought_all parcel [] = []
brought_all parcel (d ∷ ds) = brought_by parcel d ++ brought_all parcel ds

-- so many more entries fit
pub record Fits (p : Pools) (m : Marks) : Type 0 where
  pub columns : Fit p.columns m.columns
  pub nodes : Fit p.nodes m.nodes
  pub bytes : Fit p.bytes m.bytes
  pub shorts : Fit p.shorts m.shorts
  pub words : Fit p.words m.words
  pub longs : Fit p.longs m.longs
  pub offsets : Fit p.offsets m.offsets
  pub views : Fit p.views m.views
  pub lists : Fit p.lists m.lists
  pub buffers : Fit p.buffers m.buffers

-- q is p with the drafts' nodes in a row, whose subtrees have these sizes, and with the data buffers that they bring
pub record Filed (p q : Pools) (parcel : List ℕ) (ds : List Draft) (sizes : List ℕ) : Type 0 where
  pub kept : Kept p q
  pub marks : marks_of q ≡ both (marks_of p) (takes_all parcel ds)
  pub columns : Gains p.columns [] q.columns
  pub row : Row (store q) p.nodes.mark (nodes_from parcel p.buffers.mark ds) sizes
  pub new : List Part
  pub parts : Gains p.buffers new q.buffers
  pub inside : AllByRecursion (Inside (used q.bytes)) new
  pub are : buffers_in (used q.bytes) new ≡ brought_all parcel ds
