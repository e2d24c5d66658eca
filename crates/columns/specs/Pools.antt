-- What columns need of the pools, and the denials that an interleave meets node by node.
use Rattle.std.specs.Prelude.{ℕ, ◌+◌, ◌-◌, Bool, cond, ◌&&◌, leb, List, [], ◌∷◌, ◌++◌, map, length, ◌==◌, nat_le, slice_index}
use Rattle.std.proofs.Math.Option.{Option, some, none}
use Rattle.columns.specs.Kinds.{Kind, primitive, boolean, strings, views, lists, maps, structs, run_ended, fixed_lists, unknown, width_of, is_primitive}
use Rattle.columns.specs.Format.{offset_bytes, highest}
use Rattle.columns.specs.Column.{Node, Column, Columns, column, end, ◌&◌, node, first, nth, rows_of, kind, bytes_for}
use Rattle.columns.specs.Says.{span}
use Rattle.columns.specs.Checks.{Check, unless, first_failing}

-- Entries of pools 1 to 11, in that order: 1 columns, 2 nodes, 3 bytes, 4 to 6 values of two, four and eight bytes,
-- 7 offsets, 8 views, 9 buffer lists, 10 data buffers, 11 the pair slip.
abbrev pub Entries : Type 0
Entries = List ℕ

abbrev pub of_pool : Entries → (pool : ℕ) → ℕ
of_pool es pool = slice_index es (pool - 1)

abbrev pub pools : List ℕ
pools = span 1 11

abbrev pub plus : Entries → Entries → Entries
plus xs ys = map (λ pool. of_pool xs pool + of_pool ys pool) pools

-- Entries past 1,048,576 are unused.
abbrev pub fits : (lengths marks needs : Entries) → ℕ → Bool
fits lengths marks needs pool = nat_le (of_pool marks pool + of_pool needs pool) (of_pool lengths pool) && nat_le (of_pool marks pool + of_pool needs pool) 1048576

abbrev pub full_pool : (lengths marks needs : Entries) → Option ℕ
full_pool lengths marks needs = first_failing (fits lengths marks needs) pools

-- What a node needs: itself, the bytes of its mask, booleans or text, and an entry for each value, offset, view and listed buffer.
abbrev pub of_width : ℕ → Kind → Node → ℕ
of_width w K n = cond (width_of K == w) (length n.values) 0

abbrev pub mask_bytes : Node → ℕ
mask_bytes n = elim n.mask [ none ↦ 0 | some bs ↦ bytes_for (length bs) ]

abbrev pub node_needs : Node → Entries
node_needs n =
    0 ∷ 1 ∷ (mask_bytes n + bytes_for (length n.bits) + of_width 1 (kind n) n + length n.text)
    ∷ of_width 2 (kind n) n ∷ of_width 4 (kind n) n ∷ of_width 8 (kind n) n
    ∷ length n.offsets ∷ length n.views ∷ length n.buffers ∷ 0 ∷ []

-- While its children are made: a slip entry for each kept entry and each pair gathered for a child that is not primitive.
abbrev pub gathered_for : Column → ℕ
gathered_for c = cond (is_primitive (kind (node c))) 0 (rows_of c)

abbrev pub slip_needs : Kind → Columns → ℕ
slip_needs (primitive w) cs = 0
slip_needs boolean cs = 0
slip_needs strings cs = 0
slip_needs views cs = 0
slip_needs lists cs = gathered_for (first cs)
slip_needs maps cs = gathered_for (first cs)
slip_needs structs cs = 0
slip_needs run_ended cs = rows_of (nth cs 1)
slip_needs (fixed_lists N) cs = gathered_for (first cs)
slip_needs unknown cs = 0

abbrev pub making_needs : Node → Columns → Entries
making_needs n cs = node_needs n ++ slip_needs (kind n) cs ∷ []

unfoldable mutual
  pub column_needs : Column → Entries
  column_needs (column n cs) = plus (node_needs n) (columns_need cs)

  pub columns_need : Columns → Entries
  columns_need end = []
  columns_need (c & cs) = plus (column_needs c) (columns_need cs)

abbrev pub one_column : Entries
one_column = 1 ∷ []

abbrev pub made_needs : Column → Entries
made_needs c = plus one_column (column_needs c)

-- A filed column also needs its formats' bytes and, for each new data buffer, its bytes and an entry of pool 10.
unfoldable mutual
  pub format_bytes : Column → ℕ
  format_bytes (column n cs) = length n.format + formats_bytes cs

  pub formats_bytes : Columns → ℕ
  formats_bytes end = 0
  formats_bytes (c & cs) = format_bytes c + formats_bytes cs

abbrev pub sum_of : List ℕ → ℕ
sum_of [] = 0
sum_of (x ∷ xs) = x + sum_of xs

abbrev pub filed_needs : Column → (new : List (List ℕ)) → Entries
filed_needs c new =
    plus (made_needs c) (0 ∷ 0 ∷ (format_bytes c + sum_of (map length new)) ∷ 0 ∷ 0 ∷ 0 ∷ 0 ∷ 0 ∷ 0 ∷ length new ∷ [])

-- A 32-bit offset total over 2,147,483,647: the first such. The totals are the made node's offsets.
abbrev pub total_over : Node → Option ℕ
total_over n = cond (offset_bytes n.format == 4) (first_failing (λ t. leb t 2147483647) n.offsets) none

-- More rows than the run-end type's maximum.
abbrev pub ends_over : Kind → Node → Columns → Option ℕ
ends_over (primitive w) n cs = none
ends_over boolean n cs = none
ends_over strings n cs = none
ends_over views n cs = none
ends_over lists n cs = none
ends_over maps n cs = none
ends_over structs n cs = none
ends_over run_ended n cs = unless (nat_le n.rows (highest (width_of (kind (node (first cs)))))) n.rows
ends_over (fixed_lists N) n cs = none
ends_over unknown n cs = none

-- The checks of the column that an interleave would make, from the marks `marks` on: at each node 8 or 9, then 13, then
-- its children in order. What a node needs of the slip stands while its children are made, and not for the next node.
module _ (lengths : Entries) where
  unfoldable mutual
    pub making_checks : (marks : Entries) → Column → List Check
    making_checks marks (column n cs) =
        (8, total_over n) ∷ (9, ends_over (kind n) n cs) ∷ (13, full_pool lengths marks (making_needs n cs))
        ∷ children_checks (plus marks (making_needs n cs)) cs

    pub children_checks : (marks : Entries) → Columns → List Check
    children_checks marks end = []
    children_checks marks (c & cs) = making_checks marks c ++ children_checks (plus marks (column_needs c)) cs
