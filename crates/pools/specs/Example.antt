-- A worked example: three filed columns on a shelf, and all that lies in the pools for them.
use Rattle.std.specs.Prelude.{ℕ, ◌+◌, ◌*◌, ◌^◌, true, false, List, [], ◌∷◌, ◌++◌, Some, None, codes}
use Rattle.std.proofs.Math.Option.{none, some}
use Rattle.formats.specs.declared.format.Width.TheVariants.{One}
use Rattle.formats.specs.declared.kind.Kind.TheVariants.{Primitive, Boolean, View as Viewed, List as Listed}
use Rattle.columns.specs.Column.{long, only_values, only_bits, only_offsets, views_into, node_with, Column, column, end, ◌&◌}
use Rattle.columns.specs.Ledger.{Ledger, empty, ◌then◌, filing, shelf_of}
use Rattle.pools.specs.declared.records.Node.{Node as Entry}
use Rattle.pools.specs.Store.{Store, no_part}
use Rattle.pools.specs.Shows.{Shows}

-- The rows [07,09] and []: formats +l and C, offsets 0, 2, 2, two values.
abbrev pub two_lists : Column
two_lists =
    column (node_with (codes "+l") 0 2 none [] (only_offsets (0 ∷ 2 ∷ 2 ∷ [])))
    (column (node_with (codes "C") 0 2 none [] (only_values (7 ∷ 9 ∷ []))) end & end)

abbrev pub two_lists_parcel : List ℕ
two_lists_parcel =
    2 ∷ 0 ∷ 0 ∷ 1 ∷ 0 ∷ 0 ∷ 0 ∷ 2 ∷ codes "+l" ++ 0 ∷ 0 ∷ 0 ∷ 12 ∷ 0 ∷ 0 ∷ 0 ∷ 0 ∷ 2 ∷ 0 ∷ 0 ∷ 0 ∷ 2 ∷ 0 ∷ 0 ∷ 0
    ∷ 1 ∷ 0 ∷ 0 ∷ 0 ∷ 0 ∷ 0 ∷ 0 ∷ 2 ∷ codes "C" ++ 0 ∷ 0 ∷ 0 ∷ 2 ∷ 7 ∷ 9 ∷ []

-- Three booleans, true, null and false, in bytes whose spare bits are not all 0: the mask is 253 and the bits are 161.
abbrev pub three_bits : Column
three_bits =
    column
    (node_with (codes "b") 0 3 (some (true ∷ false ∷ true ∷ [])) (true ∷ true ∷ true ∷ true ∷ true ∷ [])
    (only_bits (true ∷ false ∷ false ∷ []) (false ∷ false ∷ true ∷ false ∷ true ∷ [])))
    end

abbrev pub three_bits_parcel : List ℕ
three_bits_parcel = 129 ∷ 0 ∷ 0 ∷ 0 ∷ 0 ∷ 0 ∷ 0 ∷ 3 ∷ codes "b" ++ 0 ∷ 0 ∷ 0 ∷ 1 ∷ 253 ∷ 0 ∷ 0 ∷ 0 ∷ 1 ∷ 161 ∷ []

-- One view of 13 bytes, with the data buffer that has them.
abbrev pub one_view : Column
one_view = column (node_with (codes "vz") 0 1 none [] (views_into (long 13 1684234849 0 0 ∷ []) (0 ∷ []))) end

abbrev pub one_view_parcel : List ℕ
one_view_parcel =
    2 ∷ 0 ∷ 0 ∷ 0 ∷ 0 ∷ 0 ∷ 0 ∷ 1 ∷ codes "vz" ++ 0 ∷ 0 ∷ 0 ∷ 16 ∷ 13 ∷ 0 ∷ 0 ∷ 0 ∷ codes "abcd" ++ 0 ∷ 0 ∷ 0 ∷ 0 ∷ 0 ∷ 0 ∷ 0 ∷ 0
    ∷ 0 ∷ 1 ∷ 0 ∷ 0 ∷ 0 ∷ 13 ∷ codes "abcdefghijklm"

abbrev pub three_lines : Ledger
three_lines = empty then filing two_lists_parcel then filing three_bits_parcel then filing one_view_parcel

-- Their entries.
abbrev pub list_entry : Entry
list_entry =
    record { kind = Listed false; format = record { start = 0; len = 2 }; label = 0; rows = 2; children = 1; span = 2; mask = None; place = 0; text = no_part; buffers = no_part }

abbrev pub value_entry : Entry
value_entry =
    record { kind = Primitive One; format = record { start = 2; len = 1 }; label = 0; rows = 2; children = 0; span = 1; mask = None; place = 3; text = no_part; buffers = no_part }

abbrev pub bits_entry : Entry
bits_entry =
    record { kind = Boolean; format = record { start = 5; len = 1 }; label = 0; rows = 3; children = 0; span = 1; mask = Some 6; place = 7; text = no_part; buffers = no_part }

abbrev pub view_entry : Entry
view_entry =
    record { kind = Viewed; format = record { start = 8; len = 2 }; label = 0; rows = 1; children = 0; span = 1; mask = None; place = 0; text = no_part; buffers = record { start = 0; len = 1 } }

abbrev pub three_columns : Store
three_columns =
    record {
      columns = record { root = 0 } ∷ record { root = 2 } ∷ record { root = 3 } ∷ [];
      nodes = list_entry ∷ value_entry ∷ bits_entry ∷ view_entry ∷ [];
      bytes = codes "+l" ++ codes "C" ++ 7 ∷ 9 ∷ codes "b" ++ 253 ∷ 161 ∷ codes "vz" ++ codes "abcdefghijklm";
      shorts = [];
      words = [];
      longs = [];
      offsets = 0 ∷ 2 ∷ 2 ∷ [];
      views = record { low = 13 + 2 ^ 32 * 1684234849; high = 0 } ∷ [];
      lists = 0 ∷ [];
      buffers = record { start = 10; len = 13 } ∷ [];
    }

abbrev pub ThreeColumnsAreShown : Type 0
ThreeColumnsAreShown = Shows three_columns (shelf_of three_lines)
