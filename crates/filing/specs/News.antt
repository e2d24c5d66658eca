-- What a node adds to the pools.
use Rattle.std.specs.Prelude.{ℕ, ◌+◌, List, [], ◌∷◌, ◌++◌, map, length}
use Rattle.formats.specs.Spelled.{wide_bytes}
use Rattle.columns.specs.Contents.{values_in}
use Rattle.columns.specs.Sent.{number_of}
use Rattle.pools.specs.declared.records.Part.{Part}
use Rattle.pools.specs.declared.records.View.{View as Halves}
use Rattle.pools.specs.declared.records.Node.{Node as Entry}
use Rattle.pools.specs.declared.records.ColumnEntry.{ColumnEntry}
use Rattle.pools.specs.declared.pools.Pools.{Pools}
use Rattle.pools.specs.declared.pools.Marks.{Marks}
use Rattle.pools.specs.Used.{Fit, Gains}
use Rattle.parcels.specs.declared.draft.Draft.{Draft}
use Rattle.parcels.specs.Reads.{within}
use Rattle.parcels.specs.Lent.{data_from, brought_from}
use Rattle.pools.specs.Laid.{halves_in, entries_in}
use Rattle.filing.specs.Lent.{flat, parts_from}
use Rattle.filing.specs.Masks.{mask_len, mask_sent, mask_at}
use Rattle.filing.specs.Plans.{Plan, plan_of, place_in}

pub record News : Type 0 where
  pub columns : List ColumnEntry
  pub nodes : List Entry
  pub bytes : List ℕ
  pub shorts : List ℕ
  pub words : List ℕ
  pub longs : List ℕ
  pub offsets : List ℕ
  pub views : List Halves
  pub lists : List ℕ
  pub buffers : List Part

-- so many more entries fit
pub record Room (p : Pools) (new : News) : Type 0 where
  pub columns : Fit p.columns (length new.columns)
  pub nodes : Fit p.nodes (length new.nodes)
  pub bytes : Fit p.bytes (length new.bytes)
  pub shorts : Fit p.shorts (length new.shorts)
  pub words : Fit p.words (length new.words)
  pub longs : Fit p.longs (length new.longs)
  pub offsets : Fit p.offsets (length new.offsets)
  pub views : Fit p.views (length new.views)
  pub lists : Fit p.lists (length new.lists)
  pub buffers : Fit p.buffers (length new.buffers)

-- p has gained these entries, and is q
pub record Gained (p : Pools) (new : News) (q : Pools) : Type 0 where
  pub columns : Gains p.columns new.columns q.columns
  pub nodes : Gains p.nodes new.nodes q.nodes
  pub bytes : Gains p.bytes new.bytes q.bytes
  pub shorts : Gains p.shorts new.shorts q.shorts
  pub words : Gains p.words new.words q.words
  pub longs : Gains p.longs new.longs q.longs
  pub offsets : Gains p.offsets new.offsets q.offsets
  pub views : Gains p.views new.views q.views
  pub lists : Gains p.lists new.lists q.lists
  pub buffers : Gains p.buffers new.buffers q.buffers

abbrev pub plan_in : Draft → Plan
plan_in d = plan_of d.kind d.parts d.head.rows

-- where the part that is taken as it is starts, and where new data buffers do, in pools at these marks
abbrev pub plain_start : Draft → Marks → ℕ
plain_start d m = m.bytes + d.head.format.len + mask_len d.parts.mask

abbrev pub brought_start : Draft → Marks → ℕ
brought_start d m = plain_start d m + (plan_in d).plain.len

abbrev pub entry_of : Draft → (span : ℕ) → Marks → Entry
entry_of d span m =
    record {
      kind = d.kind;
      format = record { start = m.bytes; len = d.head.format.len };
      label = d.head.label;
      rows = d.head.rows;
      children = d.head.children;
      span = span;
      mask = mask_at d.parts.mask (m.bytes + d.head.format.len);
      place = place_in d.kind (plain_start d m) m;
      text = record { start = plain_start d m; len = (plan_in d).plain.len };
      buffers = record { start = m.lists; len = (plan_in d).list.len };
    }

-- the data buffers that a draft brings
abbrev pub brought_by : List ℕ → Draft → List (List ℕ)
brought_by parcel d = brought_from parcel d.parts.lent.start d.parts.lent.len

-- a draft's format, mask and the part that is taken as it is
abbrev pub own_bytes : List ℕ → Draft → List ℕ
own_bytes parcel d = within parcel d.head.format ++ (mask_sent parcel d.parts.mask ++ within parcel (plan_in d).plain)

abbrev pub node_news : List ℕ → Draft → (span : ℕ) → Marks → News
node_news parcel d span m =
    record {
      columns = [];
      nodes = entry_of d span m ∷ [];
      bytes = own_bytes parcel d ++ flat (brought_by parcel d);
      shorts = values_in 2 (plan_in d).shorts (within parcel d.parts.body);
      words = values_in 4 (plan_in d).words (within parcel d.parts.body);
      longs = values_in 8 (plan_in d).longs (within parcel d.parts.body);
      offsets = values_in (wide_bytes (plan_in d).wide) (plan_in d).offsets (within parcel d.parts.body);
      views = entries_in halves_in 16 (plan_in d).views (within parcel d.parts.body);
      lists = map number_of (data_from parcel (plan_in d).list.start m.buffers (plan_in d).list.len);
      buffers = parts_from (brought_start d m) (brought_by parcel d);
    }
