-- The worked example, entry by entry.
use Rattle.std.proofs.Common.{ℕ, zero, suc, ◌<◌, [], ◌∷◌, refl, arith, lit<, lit≤}
use Rattle.columns.specs.Format.{kind_of, offset_bytes, ends_format}
use Rattle.columns.specs.Column.{at}
use Rattle.columns.specs.Ledger.{shelf_of}
use Rattle.columns.specs.Limits.{node_count, nodes_below}
use Rattle.columns.specs.Parcel.{node_read}
use Rattle.columns.specs.Pools.{column_needs, columns_need, format_bytes, formats_bytes}
use Rattle.pools.specs.Store.{root_of}
use Rattle.pools.specs.Stored.{Stored, EachStored}
use Rattle.pools.specs.Example.{two_lists, three_bits, one_view, three_columns, ThreeColumnsAreShown}

lists_stored : Stored three_columns 0 two_lists
unfolding Stored EachStored node_count nodes_below kind_of offset_bytes
lists_stored = (
  lit< tt,
  record {
    is_kind = refl;
    offset_size = refl;
    format_lies = record { within = lit≤ tt; is = refl };
    is_label = refl;
    is_rows = refl;
    few_rows = lit≤ tt;
    is_children = refl;
    is_span = refl;
    mask_lies = refl;
    buffers_lie = (record { within = lit≤ tt; is = refl }, refl);
  },
  (
    (
      lit< tt,
      record {
        is_kind = refl;
        offset_size = refl;
        format_lies = record { within = lit≤ tt; is = refl };
        is_label = refl;
        is_rows = refl;
        few_rows = lit≤ tt;
        is_children = refl;
        is_span = refl;
        mask_lies = refl;
        buffers_lie = (record { within = lit≤ tt; is = refl }, refl);
      },
      tt,
    ),
    tt,
  ),
)

bits_stored : Stored three_columns 2 three_bits
unfolding Stored EachStored node_count nodes_below kind_of offset_bytes
bits_stored = (
  lit< tt,
  record {
    is_kind = refl;
    offset_size = refl;
    format_lies = record { within = lit≤ tt; is = refl };
    is_label = refl;
    is_rows = refl;
    few_rows = lit≤ tt;
    is_children = refl;
    is_span = refl;
    mask_lies = record { fills = refl; lies = record { within = lit≤ tt; is = refl } };
    buffers_lie = (record { fills = refl; lies = record { within = lit≤ tt; is = refl } }, refl);
  },
  tt,
)

view_stored : Stored three_columns 3 one_view
unfolding Stored EachStored node_count nodes_below kind_of offset_bytes
view_stored = (
  lit< tt,
  record {
    is_kind = refl;
    offset_size = refl;
    format_lies = record { within = lit≤ tt; is = refl };
    is_label = refl;
    is_rows = refl;
    few_rows = lit≤ tt;
    is_children = refl;
    is_span = refl;
    mask_lies = refl;
    buffers_lie = (record { within = lit≤ tt; is = refl }, record { within = lit≤ tt; is = refl }, refl);
  },
  tt,
)

at_column : (j : ℕ) → j < 3 → Stored three_columns (root_of three_columns j) (at (two_lists ∷ three_bits ∷ one_view ∷ []) j)
at_column zero h = lists_stored
at_column (suc zero) h = bits_stored
at_column (suc (suc zero)) h = view_stored
at_column (suc (suc (suc j))) h = absurd (omega arith)

pub three_columns_are_shown : ThreeColumnsAreShown
unfolding shelf_of node_read column_needs columns_need format_bytes formats_bytes kind_of offset_bytes ends_format
three_columns_are_shown =
    record {
      columns = record { count = refl; stored = at_column };
      buffers = record { inside = (lit≤ tt, tt); are = refl };
      marks = refl;
    }
