-- A columnar array as a tree of nodes.
use Rattle.std.specs.Prelude.{ℕ, zero, suc, ◌+◌, ◌/◌, Bool, cond, List, [], nat_lt, slice_index_or}
use Rattle.std.proofs.Math.Option.{Option, none}
use Rattle.columns.specs.Kinds.{Kind}
use Rattle.columns.specs.Format.{kind_of}

-- A view: its text in the view itself, or in a data buffer that is named by its position in the node's list.
pub data View : Type 0 where
  short : (len : ℕ) (inline : List ℕ) → View
  long : (len prefix position offset : ℕ) → View

-- A stored view is its length and three words; up to 12 bytes are text in the view itself.
abbrev pub view_of : (len word₁ word₂ word₃ : ℕ) (inline : List ℕ) → View
view_of len a b c inline = cond (nat_lt 12 len) (long len a b c) (short len inline)

-- Bits are packed eight to a byte.
abbrev pub bytes_for : ℕ → ℕ
bytes_for bits = (bits + 7) / 8

-- What a node holds besides its mask; what its kind does not have is empty. The spare bits are those that lie past the
-- rows in the last byte of the booleans: with them every stored byte is told.
pub record Buffers : Type 0 where
  pub values : List ℕ
  pub bits : List Bool
  pub bits_spare : List Bool
  pub offsets : List ℕ
  pub text : List ℕ
  pub views : List View
  pub buffers : List ℕ

abbrev pub only_values : List ℕ → Buffers
only_values vs = record { values = vs; bits = []; bits_spare = []; offsets = []; text = []; views = []; buffers = [] }

abbrev pub only_bits : (bits spare : List Bool) → Buffers
only_bits bs spare = record { values = []; bits = bs; bits_spare = spare; offsets = []; text = []; views = []; buffers = [] }

abbrev pub offsets_into : (offsets text : List ℕ) → Buffers
offsets_into os bytes = record { values = []; bits = []; bits_spare = []; offsets = os; text = bytes; views = []; buffers = [] }

abbrev pub only_offsets : List ℕ → Buffers
only_offsets os = offsets_into os []

abbrev pub views_into : List View → (buffers : List ℕ) → Buffers
views_into vs bs = record { values = []; bits = []; bits_spare = []; offsets = []; text = []; views = vs; buffers = bs }

abbrev pub no_buffers : Buffers
no_buffers = only_offsets []

-- One node of a column. The mask has its spare bits too.
pub record Node : Type 0 where
  pub format : List ℕ
  pub label : ℕ
  pub rows : ℕ
  pub mask : Option (List Bool)
  pub mask_spare : List Bool
  pub values : List ℕ
  pub bits : List Bool
  pub bits_spare : List Bool
  pub offsets : List ℕ
  pub text : List ℕ
  pub views : List View
  pub buffers : List ℕ

abbrev pub node_with : (format : List ℕ) (label rows : ℕ) (mask : Option (List Bool)) (mask_spare : List Bool) → Buffers → Node
node_with f label rows mask spare b =
    record {
      format = f;
      label = label;
      rows = rows;
      mask = mask;
      mask_spare = spare;
      values = b.values;
      bits = b.bits;
      bits_spare = b.bits_spare;
      offsets = b.offsets;
      text = b.text;
      views = b.views;
      buffers = b.buffers;
    }

mutual
  pub data Column : Type 0 where
    column : Node → Columns → Column

  pub data Columns : Type 0 where
    end : Columns
    ◌&◌ : Column → Columns → Columns

infixr 40 ◌&◌
abbrev pub blank : Node
blank = node_with [] 0 0 none [] no_buffers

abbrev pub nothing : Column
nothing = column blank end

abbrev pub node : Column → Node
node (column n cs) = n

abbrev pub children : Column → Columns
children (column n cs) = cs

abbrev pub rest : Columns → Columns
rest end = end
rest (c & cs) = cs

abbrev pub nth : Columns → ℕ → Column
nth end i = nothing
nth (c & cs) zero = c
nth (c & cs) (suc i) = nth cs i

abbrev pub first : Columns → Column
first cs = nth cs 0

abbrev pub width : Columns → ℕ
width end = 0
width (c & cs) = suc (width cs)

abbrev pub kind : Node → Kind
kind n = kind_of n.format

abbrev pub rows_of : Column → ℕ
rows_of c = (node c).rows

abbrev pub at : List Column → ℕ → Column
at sources s = slice_index_or sources s nothing

abbrev pub view_at : Node → ℕ → View
view_at n i = slice_index_or n.views i (short 0 [])
