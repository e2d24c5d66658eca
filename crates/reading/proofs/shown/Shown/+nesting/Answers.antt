use Rattle.std.proofs.Common.{ℕ, ◌+◌, ◌-◌, ◌<◌, ◌≤◌, true, List, [], ◌∷◌, ◌++◌, length, sym, refl, ap, ◌∙◌, subst, arith}
use mathlib.Core.Logic.{∥∥₁_elim, ∥∥₁_map}
use native.Mathlib.Bridge.{le_prop}
use Rattle.reading.proofs.Props.{mask_there_prop, leaf_in_prop, range_there_prop, ends_in_prop}
use Rattle.columns.specs.Column.{children, first, rest, nth}
use Rattle.pools.specs.declared.records.Node.{Node as Entry}
use Rattle.pools.specs.Store.{store, node_entry}
use Rattle.pools.specs.Bits.{MaskThere}
use Rattle.rows.specs.Ranged.{RangeThere}
use Rattle.pools.proofs.Reading.{stored_node, stored_children}
use Rattle.reading.specs.Inked.{wrote}
use Rattle.reading.specs.Raw.{LeafIn}
use Rattle.reading.specs.Readable.{RowReadable, row_text, rows_text, fields_text}
use Rattle.reading.proofs.Inking.{wrote_none, step, last, piece, refused_byte, refused}
use Rattle.reading.proofs.Views.{few}
use Rattle.reading.proofs.Walks.{comma_is, comma_first, one_more, no_comma, no_element, rows_after, rows_start, rows_this, rows_next, rows_end, row_of_rows, texts_of, fields_start, field_first, fields_this, fields_next, fields_end}
use Rattle.reading.proofs.Speaks.{held, known, deep, shape_at, valid_at, mask_there, leaf_there, range_there, ends_stored, ends_there, two_children, run_given, runs_row, null_read, leaf_said, rows_there, ranges_said, fields_there, fields_said}
use Rattle.reading.proofs.shown.Shown.+nesting.Goals as goal

-- A row of each of some columns.
pub put_fields-loop-k-init : goal.put_fields-loop-k-init
put_fields-loop-k-init g t c = λ cs r. fields_start cs r

pub put_fields-returns-in_err-comma : goal.put_fields-returns-in_err-comma
put_fields-returns-in_err-comma g t c = λ cs r.
    let room = g.I.Ink.room in let marked = g.I.Ink.marked in let P = store c.args.self.pools.now in
    let w = c.loop-k.invariant cs r in
    no_comma room marked (c.loop-k.ink, true) c.comma.new.ink c.loop-k.k (row_text P (first w.left) c.args.row) (texts_of P (rest w.left) c.args.row) c.from_residual.result c.from_residual.ensures.0
    (c.in_err-comma.ensures ∙ ap (wrote room marked (c.loop-k.ink, true)) (comma_first c.loop-k.k))
    ∙ fields_this c.loop-k-test.true w

pub put_fields-put_row-requires : goal.put_fields-put_row-requires
put_fields-put_row-requires g t c κs within =
    let l = c.loop-k-test.true in
    (omega arith, (within, ∥∥₁_map c.requires (λ given. let w = c.loop-k.invariant given.0 given.1 in (first w.left, field_first w.left (let n = w.readable.count_is in omega arith) w.readable))))

pub put_fields-returns-in_err-put_row : goal.put_fields-returns-in_err-put_row
put_fields-returns-in_err-put_row g t c = λ cs r.
    let room = g.I.Ink.room in let marked = g.I.Ink.marked in let P = store c.args.self.pools.now in
    let w = c.loop-k.invariant cs r in
    let l = c.loop-k-test.true in
    no_element room marked (c.loop-k.ink, true) (c.comma.new.ink, true) c.put_row.new.ink c.loop-k.k (row_text P (first w.left) c.args.row) (texts_of P (rest w.left) c.args.row)
    c.from_residual-in_err-put_row.result c.from_residual-in_err-put_row.ensures.0
    (c.in_ok-comma.ensures ∙ ap (wrote room marked (c.loop-k.ink, true)) (comma_first c.loop-k.k))
    (c.in_err-put_row.ensures (first w.left) (field_first w.left (let n = w.readable.count_is in omega arith) w.readable))
    ∙ fields_this l w

pub put_fields-next_child-place-requires-clause-there : goal.put_fields-next_child-place-requires-clause-there
put_fields-next_child-place-requires-clause-there g t c =
    let l = c.loop-k-test.true in
    ∥∥₁_elim c.requires le_prop (λ given. let w = c.loop-k.invariant given.0 given.1 in known (first w.left) (field_first w.left (let n = w.readable.count_is in omega arith) w.readable).column)

pub put_fields-loop-k-preserved : goal.put_fields-loop-k-preserved
put_fields-loop-k-preserved g t c = λ cs r.
    let room = g.I.Ink.room in let marked = g.I.Ink.marked in let P = store c.args.self.pools.now in
    let w = c.loop-k.invariant cs r in
    let l = c.loop-k-test.true in
    let n = w.readable.count_is in
    fields_next (c.comma.new.ink, true) c.put_row.new.ink c.next_child-place.result cs l w
    (c.in_ok-comma.ensures ∙ ap (wrote room marked (c.loop-k.ink, true)) (comma_first c.loop-k.k))
    (c.in_ok-put_row.ensures (first w.left) (field_first w.left (omega arith) w.readable))
    (c.next_child-place.ensures.told P w.left refl (omega arith) w.readable.stored).1

pub put_fields-returns : goal.put_fields-returns
put_fields-returns g t c = λ cs r. fields_end cs c.loop-k-test.false (c.loop-k.invariant cs r)

-- A row.
pub put_row-node_at-node-requires : goal.put_row-node_at-node-requires
put_row-node_at-node-requires g t c = ∥∥₁_elim c.requires le_prop (λ given. known given.0 given.1.column)

pub put_row-is_null-requires : goal.put_row-is_null-requires
put_row-is_null-requires g t c =
    let P = store c.args.self.pools.now in
    ∥∥₁_elim c.requires (mask_there_prop P.bytes c.node_at-node.result.mask c.args.row)
    (λ given. subst (λ (x : Entry). MaskThere P.bytes x.mask c.args.row) (sym c.node_at-node.ensures.is) (mask_there given.0 given.1))

pub put_row-returns-then-is_null : goal.put_row-returns-then-is_null
put_row-returns-then-is_null g t c = λ d q.
    let room = g.I.Ink.room in let marked = g.I.Ink.marked in
    last room marked (c.args.ink.now, true) _ 45 c.put.ensures
    ∙ ap (wrote room marked (c.args.ink.now, true)) (null_read d q c.node_at-node.ensures.is c.is_null.ensures c.if-is_null.true)

pub put_row-leaf-requires : goal.put_row-leaf-requires
put_row-leaf-requires g t c =
    let P = store c.args.self.pools.now in
    let e = c.node_at-node.ensures.is in
    ∥∥₁_elim c.requires (leaf_in_prop P c.node_at-node.result c.node_at-node.result.kind c.args.row)
    (λ given. subst (λ (x : Entry). LeafIn P x x.kind c.args.row) (sym e) (leaf_there given.0 given.1 (shape_at P c.args.place e c.in-Leaf.ensures)))

pub put_row-returns-in-Leaf : goal.put_row-returns-in-Leaf
put_row-returns-in-Leaf g t c = λ d q.
    c.leaf.ensures
    ∙ ap (wrote g.I.Ink.room g.I.Ink.marked (c.args.ink.now, true)) (leaf_said d q c.node_at-node.ensures.is c.is_null.ensures c.if-is_null.false c.in-Leaf.ensures)

pub put_row-range_at-rows-requires : goal.put_row-range_at-rows-requires
put_row-range_at-rows-requires g t c =
    let P = store c.args.self.pools.now in
    let e = c.node_at-node.ensures.is in
    ∥∥₁_elim c.requires (range_there_prop P.offsets c.node_at-node.result.kind c.node_at-node.result.place c.args.row)
    (λ given. subst (λ (x : Entry). RangeThere P.offsets x.kind x.place c.args.row) (sym e) (range_there given.0 given.1 (shape_at P c.args.place e c.in-Ranges.ensures)))

pub put_row-returns-in_err-put-in-Ranges : goal.put_row-returns-in_err-put-in-Ranges
put_row-returns-in_err-put-in-Ranges g t c = λ d q.
    let room = g.I.Ink.room in let marked = g.I.Ink.marked in let P = store c.args.self.pools.now in
    refused_byte room marked (c.args.ink.now, true) c.put-in-Ranges.new.self 91 (rows_text P (first (children d)) c.range_at-rows.result ++ 93 ∷ []) c.from_residual.result c.from_residual.ensures.0
    c.in_err-put-in-Ranges.ensures
    ∙ ap (wrote room marked (c.args.ink.now, true)) (ranges_said d q c.node_at-node.ensures.is c.is_null.ensures c.if-is_null.false c.in-Ranges.ensures c.range_at-rows.ensures.is)

pub put_row-overflow_sub-levels : goal.put_row-overflow_sub-levels
put_row-overflow_sub-levels g t c = ∥∥₁_elim c.requires le_prop (λ given. deep given.0 given.1.column)

pub put_row-put_rows-requires : goal.put_row-put_rows-requires
put_row-put_rows-requires g t c κs within =
    let d = ∥∥₁_elim c.requires le_prop (λ given. deep given.0 given.1.column) in
    (omega arith, (within, ∥∥₁_map c.requires (λ given. (first (children given.0), rows_there given.0 given.1 c.node_at-node.ensures.is c.in-Ranges.ensures c.range_at-rows.ensures.is))))

pub put_row-returns-in_err-put_rows-in-Ranges : goal.put_row-returns-in_err-put_rows-in-Ranges
put_row-returns-in_err-put_rows-in-Ranges g t c = λ d q.
    let room = g.I.Ink.room in let marked = g.I.Ink.marked in let P = store c.args.self.pools.now in
    let e = c.node_at-node.ensures.is in let h = c.range_at-rows.ensures.is in
    let body : List ℕ = rows_text P (first (children d)) c.range_at-rows.result in
    refused room marked (c.put-in-Ranges.new.self, true) c.put_rows.new.ink body (93 ∷ []) c.from_residual-in_err-put_rows-in-Ranges.result c.from_residual-in_err-put_rows-in-Ranges.ensures.0
    (c.in_err-put_rows-in-Ranges.ensures (first (children d)) (rows_there d q e c.in-Ranges.ensures h))
    ∙ step room marked (c.args.ink.now, true) (c.put-in-Ranges.new.self, true) 91 (body ++ 93 ∷ []) c.in_ok-put-in-Ranges.ensures
    ∙ ap (wrote room marked (c.args.ink.now, true)) (ranges_said d q e c.is_null.ensures c.if-is_null.false c.in-Ranges.ensures h)

pub put_row-returns-in_ok-put_rows-in-Ranges : goal.put_row-returns-in_ok-put_rows-in-Ranges
put_row-returns-in_ok-put_rows-in-Ranges g t c = λ d q.
    let room = g.I.Ink.room in let marked = g.I.Ink.marked in let P = store c.args.self.pools.now in
    let e = c.node_at-node.ensures.is in let h = c.range_at-rows.ensures.is in
    let body : List ℕ = rows_text P (first (children d)) c.range_at-rows.result in
    last room marked (c.put_rows.new.ink, true) _ 93 c.put-in-Ranges-2.ensures
    ∙ piece room marked (c.put-in-Ranges.new.self, true) (c.put_rows.new.ink, true) body (93 ∷ []) (c.in_ok-put_rows-in-Ranges.ensures (first (children d)) (rows_there d q e c.in-Ranges.ensures h))
    ∙ step room marked (c.args.ink.now, true) (c.put-in-Ranges.new.self, true) 91 (body ++ 93 ∷ []) c.in_ok-put-in-Ranges.ensures
    ∙ ap (wrote room marked (c.args.ink.now, true)) (ranges_said d q e c.is_null.ensures c.if-is_null.false c.in-Ranges.ensures h)

pub put_row-returns-in_err-put-in-Fields : goal.put_row-returns-in_err-put-in-Fields
put_row-returns-in_err-put-in-Fields g t c = λ d q.
    let room = g.I.Ink.room in let marked = g.I.Ink.marked in let P = store c.args.self.pools.now in
    refused_byte room marked (c.args.ink.now, true) c.put-in-Fields.new.self 123 (fields_text P (children d) c.args.row ++ 125 ∷ []) c.from_residual-in_err-put-in-Fields.result c.from_residual-in_err-put-in-Fields.ensures.0
    c.in_err-put-in-Fields.ensures
    ∙ ap (wrote room marked (c.args.ink.now, true)) (fields_said d q c.node_at-node.ensures.is c.is_null.ensures c.if-is_null.false c.in-Fields.ensures)

pub put_row-overflow_add-place-in-Fields : goal.put_row-overflow_add-place-in-Fields
put_row-overflow_add-place-in-Fields g t c =
    let k : c.args.place < length (store c.args.self.pools.now).nodes = ∥∥₁_elim c.requires le_prop (λ given. known given.0 given.1.column) in
    let f = few c.args.self.pools.now.nodes c.args.self.ready.nodes in omega arith

pub put_row-overflow_sub-levels-in-Fields : goal.put_row-overflow_sub-levels-in-Fields
put_row-overflow_sub-levels-in-Fields g t c = ∥∥₁_elim c.requires le_prop (λ given. deep given.0 given.1.column)

pub put_row-put_fields-requires : goal.put_row-put_fields-requires
put_row-put_fields-requires g t c κs within =
    let d = ∥∥₁_elim c.requires le_prop (λ given. deep given.0 given.1.column) in
    (omega arith, (within, ∥∥₁_map c.requires (λ given. (children given.0, fields_there given.0 given.1 c.node_at-node.ensures.is c.in-Fields.ensures))))

pub put_row-returns-in_err-put_fields-in-Fields : goal.put_row-returns-in_err-put_fields-in-Fields
put_row-returns-in_err-put_fields-in-Fields g t c = λ d q.
    let room = g.I.Ink.room in let marked = g.I.Ink.marked in let P = store c.args.self.pools.now in
    let e = c.node_at-node.ensures.is in
    let body : List ℕ = fields_text P (children d) c.args.row in
    refused room marked (c.put-in-Fields.new.self, true) c.put_fields.new.ink body (125 ∷ []) c.from_residual-in_err-put_fields-in-Fields.result c.from_residual-in_err-put_fields-in-Fields.ensures.0
    (c.in_err-put_fields-in-Fields.ensures (children d) (fields_there d q e c.in-Fields.ensures))
    ∙ step room marked (c.args.ink.now, true) (c.put-in-Fields.new.self, true) 123 (body ++ 125 ∷ []) c.in_ok-put-in-Fields.ensures
    ∙ ap (wrote room marked (c.args.ink.now, true)) (fields_said d q e c.is_null.ensures c.if-is_null.false c.in-Fields.ensures)

pub put_row-returns-in_ok-put_fields-in-Fields : goal.put_row-returns-in_ok-put_fields-in-Fields
put_row-returns-in_ok-put_fields-in-Fields g t c = λ d q.
    let room = g.I.Ink.room in let marked = g.I.Ink.marked in let P = store c.args.self.pools.now in
    let e = c.node_at-node.ensures.is in
    let body : List ℕ = fields_text P (children d) c.args.row in
    last room marked (c.put_fields.new.ink, true) _ 125 c.put-in-Fields-2.ensures
    ∙ piece room marked (c.put-in-Fields.new.self, true) (c.put_fields.new.ink, true) body (125 ∷ []) (c.in_ok-put_fields-in-Fields.ensures (children d) (fields_there d q e c.in-Fields.ensures))
    ∙ step room marked (c.args.ink.now, true) (c.put-in-Fields.new.self, true) 123 (body ++ 125 ∷ []) c.in_ok-put-in-Fields.ensures
    ∙ ap (wrote room marked (c.args.ink.now, true)) (fields_said d q e c.is_null.ensures c.if-is_null.false c.in-Fields.ensures)

pub put_row-run_at-entry-requires-clause-there : goal.put_row-run_at-entry-requires-clause-there
put_row-run_at-entry-requires-clause-there g t c =
    let P = store c.args.self.pools.now in
    let s = shape_at P c.args.place c.node_at-node.ensures.is c.in-Runs.ensures in
    ∥∥₁_elim c.requires le_prop (λ given. (stored_node P (c.args.place + 1) (first (children given.0)) (ends_stored given.0 given.1 s)).0)

pub put_row-run_at-entry-requires-clause-climb : goal.put_row-run_at-entry-requires-clause-climb
put_row-run_at-entry-requires-clause-climb g t c =
    let P = store c.args.self.pools.now in
    let s = shape_at P c.args.place c.node_at-node.ensures.is c.in-Runs.ensures in
    ∥∥₁_elim c.requires (ends_in_prop P (node_entry P (c.args.place + 1)) (node_entry P (c.args.place + 1)).kind) (λ given. ends_there given.0 given.1 s)

pub put_row-next_child-values-requires-clause-there : goal.put_row-next_child-values-requires-clause-there
put_row-next_child-values-requires-clause-there g t c =
    let P = store c.args.self.pools.now in
    let s = shape_at P c.args.place c.node_at-node.ensures.is c.in-Runs.ensures in
    ∥∥₁_elim c.requires le_prop (λ given. (stored_node P (c.args.place + 1) (first (children given.0)) (ends_stored given.0 given.1 s)).0)

pub put_row-overflow_sub-levels-in-Runs : goal.put_row-overflow_sub-levels-in-Runs
put_row-overflow_sub-levels-in-Runs g t c = ∥∥₁_elim c.requires le_prop (λ given. deep given.0 given.1.column)

pub put_row-put_row-requires : goal.put_row-put_row-requires
put_row-put_row-requires g t c κs within =
    let P = store c.args.self.pools.now in
    let s = shape_at P c.args.place c.node_at-node.ensures.is c.in-Runs.ensures in
    let d = ∥∥₁_elim c.requires le_prop (λ given. deep given.0 given.1.column) in (
      omega arith,
      (
        within,
        ∥∥₁_map c.requires (λ given. let two = two_children given.0 given.1 s in (
          nth (children given.0) 1,
          subst (λ i. RowReadable P c.next_child-values.result (nth (children given.0) 1) i (c.args.levels - 1)) (sym c.run_at-entry.ensures)
              (run_given given.0 c.next_child-values.result given.1 s
              (c.next_child-values.ensures.told P (children given.0) refl (omega arith) (stored_children P c.args.place given.0 given.1.column.stored)).1),
        )),
      ),
    )

pub put_row-returns-in-Runs : goal.put_row-returns-in-Runs
put_row-returns-in-Runs g t c = λ d q.
    let room = g.I.Ink.room in let marked = g.I.Ink.marked in let P = store c.args.self.pools.now in
    let e = c.node_at-node.ensures.is in
    let s = shape_at P c.args.place e c.in-Runs.ensures in
    let two = two_children d q s in
    c.put_row.ensures (nth (children d) 1)
    (subst (λ i. RowReadable P c.next_child-values.result (nth (children d) 1) i (c.args.levels - 1)) (sym c.run_at-entry.ensures)
    (run_given d c.next_child-values.result q s
    (c.next_child-values.ensures.told P (children d) refl (omega arith) (stored_children P c.args.place d q.column.stored)).1))
    ∙ ap (wrote room marked (c.args.ink.now, true))
    (ap (row_text P (nth (children d) 1)) c.run_at-entry.ensures ∙ sym (runs_row d q (valid_at P c.args.place c.args.row true e c.is_null.ensures c.if-is_null.false) s))

-- Some rows of a column.
pub put_rows-overflow_add-k-end : goal.put_rows-overflow_add-k-end
put_rows-overflow_add-k-end g t c =
    let few : c.args.rows.start + c.args.rows.len ≤ 1048576 = ∥∥₁_elim c.requires le_prop (λ given. let f = (held given.0 given.1.column).few_rows in let r = given.1.rows_in in omega arith) in
    omega arith

pub put_rows-loop-k-init : goal.put_rows-loop-k-init
put_rows-loop-k-init g t c = λ d r. ap (wrote g.I.Ink.room g.I.Ink.marked (c.args.ink.now, true)) (rows_start (store c.args.self.pools.now) d c.args.rows)

pub put_rows-returns-in_err-comma : goal.put_rows-returns-in_err-comma
put_rows-returns-in_err-comma g t c = λ d r.
    let room = g.I.Ink.room in let marked = g.I.Ink.marked in let P = store c.args.self.pools.now in
    let p = c.args.rows in let k = c.loop-k.k in
    no_comma room marked (c.loop-k.ink, true) c.comma.new.ink (k - p.start) (row_text P d k) (rows_after P d p k) c.from_residual.result c.from_residual.ensures.0
    (c.in_err-comma.ensures ∙ ap (wrote room marked (c.loop-k.ink, true)) (comma_is p.start k))
    ∙ ap (wrote room marked (c.loop-k.ink, true)) (sym (rows_this P d p k c.loop-k-test.true))
    ∙ c.loop-k.invariant d r

pub put_rows-put_row-requires : goal.put_rows-put_row-requires
put_rows-put_row-requires g t c κs within = (omega arith, (within, ∥∥₁_map c.requires (λ given. (given.0, row_of_rows _ (let l = c.loop-k-test.true in omega arith) given.1))))

pub put_rows-returns-in_err-put_row : goal.put_rows-returns-in_err-put_row
put_rows-returns-in_err-put_row g t c = λ d r.
    let room = g.I.Ink.room in let marked = g.I.Ink.marked in let P = store c.args.self.pools.now in
    let p = c.args.rows in let k = c.loop-k.k in
    no_element room marked (c.loop-k.ink, true) (c.comma.new.ink, true) c.put_row.new.ink (k - p.start) (row_text P d k) (rows_after P d p k)
    c.from_residual-in_err-put_row.result c.from_residual-in_err-put_row.ensures.0
    (c.in_ok-comma.ensures ∙ ap (wrote room marked (c.loop-k.ink, true)) (comma_is p.start k))
    (c.in_err-put_row.ensures d (row_of_rows k c.loop-k-test.true r))
    ∙ ap (wrote room marked (c.loop-k.ink, true)) (sym (rows_this P d p k c.loop-k-test.true))
    ∙ c.loop-k.invariant d r

pub put_rows-loop-k-preserved : goal.put_rows-loop-k-preserved
put_rows-loop-k-preserved g t c = λ d r.
    let room = g.I.Ink.room in let marked = g.I.Ink.marked in let P = store c.args.self.pools.now in
    let p = c.args.rows in let k = c.loop-k.k in
    ap (wrote room marked (c.put_row.new.ink, true)) (rows_next P d p k c.loop-k.auto.k)
    ∙ one_more room marked (c.loop-k.ink, true) (c.comma.new.ink, true) (c.put_row.new.ink, true) (k - p.start) (row_text P d k) (rows_after P d p k)
    (c.in_ok-comma.ensures ∙ ap (wrote room marked (c.loop-k.ink, true)) (comma_is p.start k))
    (c.in_ok-put_row.ensures d (row_of_rows k c.loop-k-test.true r))
    ∙ ap (wrote room marked (c.loop-k.ink, true)) (sym (rows_this P d p k c.loop-k-test.true))
    ∙ c.loop-k.invariant d r

pub put_rows-returns : goal.put_rows-returns
put_rows-returns g t c = λ d r.
    let room = g.I.Ink.room in let marked = g.I.Ink.marked in let P = store c.args.self.pools.now in
    sym (wrote_none room marked (c.loop-k.ink, true))
    ∙ ap (wrote room marked (c.loop-k.ink, true)) (sym (rows_end P d c.args.rows c.loop-k.k c.loop-k-test.false))
    ∙ c.loop-k.invariant d r
