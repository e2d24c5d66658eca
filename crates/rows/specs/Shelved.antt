-- Where a view's text lies when it is not in the view: by its position in the node's list, in a data buffer.
use Rattle.std.specs.Prelude.{ℕ, ◌+◌, slice_index, slice_index_or}
use Rattle.pools.specs.declared.records.Part.{Part}
use Rattle.pools.specs.declared.records.Node.{Node as Entry}
use Rattle.pools.specs.Store.{Store, no_part}

abbrev pub buffer_number : Store → Entry → (position : ℕ) → ℕ
buffer_number P r position = slice_index P.lists (r.buffers.start + position)

abbrev pub buffer_part : Store → Entry → (position : ℕ) → Part
buffer_part P r position = slice_index_or P.buffers (buffer_number P r position) no_part

abbrev pub buffered_part : Store → Entry → (position offset len : ℕ) → Part
buffered_part P r position offset len = record { start = (buffer_part P r position).start + offset; len = len }
