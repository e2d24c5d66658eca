-- A column without its spare bits, of which 0 bits and none at all lie alike in a byte.
use Rattle.std.specs.Prelude.{[]}
use Rattle.columns.specs.Column.{Buffers, Node, node_with, Column, Columns, column, end, ◌&◌}
use Rattle.pools.specs.Held.{own_buffers}

abbrev pub bare_buffers : Buffers → Buffers
bare_buffers b =
    record { values = b.values; bits = b.bits; bits_spare = []; offsets = b.offsets; text = b.text; views = b.views; buffers = b.buffers }

abbrev pub bare_node : Node → Node
bare_node n = node_with n.format n.label n.rows n.mask [] (bare_buffers (own_buffers n))

unfoldable mutual
  pub bare : Column → Column
  bare (column n cs) = column (bare_node n) (bare_each cs)

  pub bare_each : Columns → Columns
  bare_each end = end
  bare_each (c & cs) = bare c & bare_each cs
