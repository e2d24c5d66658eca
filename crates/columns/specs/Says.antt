-- What a row of a column says, by the Arrow Columnar Format.
use Rattle.std.specs.Prelude.{ℕ, zero, suc, ◌+◌, ◌-◌, ◌*◌, Bool, false, cond, List, [], ◌∷◌, map, take, drop, nat_lt, slice_index, slice_index_or}
use Rattle.columns.specs.Kinds.{Kind, primitive, boolean, strings, views, lists, maps, structs, run_ended, fixed_lists, unknown}
use Rattle.columns.specs.Column.{View, short, long, Node, Column, Columns, column, end, ◌&◌, node, first, kind}
use Rattle.columns.specs.Masks.{valid}

mutual
  pub data Said : Type 0 where
    null : Said
    number : (width bits : ℕ) → Said
    bit : Bool → Said
    bytes : List ℕ → Said
    list : Saids → Said
    struct : Saids → Said

  pub data Saids : Type 0 where
    done : Saids
    then : Said → Saids → Saids

abbrev pub saids : List Said → Saids
saids [] = done
saids (x ∷ xs) = then x (saids xs)

-- `n` numbers from `a` on
abbrev pub span : ℕ → ℕ → List ℕ
span a zero = []
span a (suc n) = a ∷ span (suc a) n

abbrev pub slice : {X : Type 0} → List X → ℕ → ℕ → List X
slice xs a n = take n (drop a xs)

-- The range of a row: a start and a length. Offset lists and byte strings read offsets, a fixed-size list multiplies.
abbrev pub offset_start : Node → ℕ → ℕ
offset_start n i = slice_index n.offsets i

abbrev pub offset_length : Node → ℕ → ℕ
offset_length n i = slice_index n.offsets (i + 1) - slice_index n.offsets i

-- the first entry whose run end is above row i
abbrev pub entry : List ℕ → ℕ → ℕ
entry [] i = 0
entry (e ∷ es) i = cond (nat_lt i e) 0 (suc (entry es i))

-- the run ends of a run-ended node: the values of its first child
abbrev pub ends_of : Columns → List ℕ
ends_of cs = (node (first cs)).values

abbrev pub kid : List (ℕ → Said) → ℕ → ℕ → Said
kid [] j i = null
kid (f ∷ fs) zero i = f i
kid (f ∷ fs) (suc j) i = kid fs j i

module _ (data_buffer : ℕ → List ℕ) where
  abbrev pub view_text : List ℕ → View → List ℕ
  view_text buffers (short len inline) = take len inline
  view_text buffers (long len prefix position offset) = slice (data_buffer (slice_index buffers position)) offset len

  -- what a valid row says, `kids` being what each child's rows say
  abbrev pub row_says : Kind → Node → (ends : List ℕ) → (kids : List (ℕ → Said)) → ℕ → Said
  row_says (primitive w) n ends kids i = number w (slice_index n.values i)
  row_says boolean n ends kids i = bit (slice_index_or n.bits i false)
  row_says strings n ends kids i = bytes (slice n.text (offset_start n i) (offset_length n i))
  row_says views n ends kids i = bytes (view_text n.buffers (slice_index_or n.views i (short 0 [])))
  row_says lists n ends kids i = list (saids (map (kid kids 0) (span (offset_start n i) (offset_length n i))))
  row_says maps n ends kids i = list (saids (map (kid kids 0) (span (offset_start n i) (offset_length n i))))
  row_says structs n ends kids i = struct (saids (map (λ f. f i) kids))
  row_says run_ended n ends kids i = kid kids 1 (entry ends i)
  row_says (fixed_lists size) n ends kids i = list (saids (map (kid kids 0) (span (i * size) size)))
  row_says unknown n ends kids i = null

  unfoldable mutual
    pub says : Column → ℕ → Said
    says (column n cs) i = cond (valid n i) (row_says (kind n) n (ends_of cs) (each_says cs) i) null

    pub each_says : Columns → List (ℕ → Said)
    each_says end = []
    each_says (c & cs) = says c ∷ each_says cs

abbrev pub string_at : Node → ℕ → List ℕ
string_at n i = slice n.text (offset_start n i) (offset_length n i)
