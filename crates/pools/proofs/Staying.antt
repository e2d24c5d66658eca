-- What is stored stays stored as the pools grow.
use Rattle.std.proofs.Common.{ℕ, ◌+◌, Bool, List, Some, None, Option as Maybe, sym, subst, arith}
use mathlib.Core.Option.{Option, some, none}
use Rattle.formats.specs.declared.format.Width.{Width}
use Rattle.formats.specs.declared.format.Width.TheVariants.{One, Two, Four, Eight}
use Rattle.formats.specs.declared.kind.Kind.{Kind}
use Rattle.formats.specs.declared.kind.Kind.TheVariants.{Primitive, Boolean, Text, View, List as Listed, Map, Struct, RunEnds, FixedList}
use Rattle.columns.specs.Column.{Node, Column, Columns, column, end, ◌&◌, width}
use Rattle.columns.specs.Limits.{node_count}
use Rattle.pools.specs.declared.records.Node.{Node as Entry}
use Rattle.pools.specs.Store.{Store, Front, Extends, no_node}
use Rattle.pools.specs.Held.{values_pool, view_from, BitsLie, MaskLies, BuffersLie, Held}
use Rattle.pools.specs.Stored.{Stored, EachStored}
use Rattle.pools.proofs.Fronts.{front_length, front_get_or, front_map, segment_on}

bits_on : {xs ys : List ℕ} {place rows : ℕ} {bits spare : List Bool} → Front xs ys → BitsLie xs place rows bits spare → BitsLie ys place rows bits spare
bits_on f h = record { fills = h.fills; lies = segment_on f h.lies }

mask_on : {xs ys : List ℕ} → Front xs ys → (m : Maybe ℕ) (rows : ℕ) (o : Option (List Bool)) (spare : List Bool) → MaskLies xs m rows o spare → MaskLies ys m rows o spare
mask_on f None rows none spare h = h
mask_on f None rows (some bits) spare h = h
mask_on f (Some place) rows none spare h = h
mask_on f (Some place) rows (some bits) spare h = bits_on f h

pub values_on : {P Q : Store} → Extends P Q → (w : Width) → Front (values_pool P w) (values_pool Q w)
values_on e One = e.bytes
values_on e Two = e.shorts
values_on e Four = e.words
values_on e Eight = e.longs

buffers_on : {P Q : Store} → Extends P Q → (r : Entry) (k : Kind) (n : Node) → BuffersLie P r k n → BuffersLie Q r k n
buffers_on e r (Primitive w) n h = (segment_on (values_on e w) h.0, h.1)
buffers_on e r Boolean n h = (bits_on e.bytes h.0, h.1)
buffers_on e r (Text wide) n h = (segment_on e.offsets h.0, segment_on e.bytes h.1, h.2)
buffers_on e r View n h = (segment_on (front_map view_from e.views) h.0, segment_on e.lists h.1, h.2)
buffers_on e r (Listed wide) n h = (segment_on e.offsets h.0, h.1)
buffers_on e r Map n h = (segment_on e.offsets h.0, h.1)
buffers_on e r Struct n h = h
buffers_on e r RunEnds n h = h
buffers_on e r (FixedList size) n h = h

pub held_on : {P Q : Store} {r : Entry} {n : Node} {children nodes : ℕ} → Extends P Q → Held P r n children nodes → Held Q r n children nodes
held_on {P} {Q} {r} {n} {children} {nodes} e h =
    record {
      is_kind = h.is_kind;
      offset_size = h.offset_size;
      format_lies = segment_on e.bytes h.format_lies;
      is_label = h.is_label;
      is_rows = h.is_rows;
      few_rows = h.few_rows;
      is_children = h.is_children;
      is_span = h.is_span;
      mask_lies = mask_on e.bytes r.mask n.rows n.mask n.mask_spare h.mask_lies;
      buffers_lie = buffers_on e r r.kind n h.buffers_lie;
    }

mutual
  unfolding Stored EachStored

  pub stored_on : {P Q : Store} → Extends P Q → (i : ℕ) (c : Column) → Stored P i c → Stored Q i c
  stored_on {P} {Q} e i (column n cs) h = (
    (let l = front_length e.nodes in let a = h.0 in omega arith),
    subst (λ (r : Entry). Held Q r n (width cs) (node_count (column n cs))) (sym (front_get_or e.nodes i no_node h.0)) (held_on e h.1),
    each_stored_on e (i + 1) cs h.2,
  )

  pub each_stored_on : {P Q : Store} → Extends P Q → (i : ℕ) (cs : Columns) → EachStored P i cs → EachStored Q i cs
  each_stored_on e i end h = tt
  each_stored_on e i (c & cs) h = (stored_on e i c h.0, each_stored_on e (i + node_count c) cs h.1)
