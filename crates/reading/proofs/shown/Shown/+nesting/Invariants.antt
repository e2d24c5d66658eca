use Rattle.std.proofs.Common.{◌≡◌, ◌+◌, ◌*◌, true}
use Rattle.columns.specs.Column.{Column, Columns}
use Rattle.pools.specs.Store.{store}
use Rattle.reading.specs.Inked.{wrote}
use Rattle.reading.specs.Readable.{RowsReadable, FieldsReadable, rows_text}
use Rattle.reading.proofs.Walks.{rows_left, FieldsLeft}
use Rattle.reading.proofs.shown.Shown.+nesting.Given as goal

abbrev pub decreases-put_row : goal.decreases-put_row
decreases-put_row g l = 2 * l.levels

abbrev pub decreases-put_rows : goal.decreases-put_rows
decreases-put_rows g l = 2 * l.levels + 1

abbrev pub decreases-put_fields : goal.decreases-put_fields
decreases-put_fields g l = 2 * l.levels + 1

-- what is left gives the whole
abbrev pub invariant-put_rows-loop-k : goal.invariant-put_rows-loop-k
invariant-put_rows-loop-k g l =
    (c : Column) → RowsReadable (store l.self.pools.now) l.place c l.rows l.levels →
    wrote g.I.Ink.room g.I.Ink.marked (l.ink, true) (rows_left (store l.self.pools.now) c l.rows l.k) ≡ wrote g.I.Ink.room g.I.Ink.marked (l.initial.ink, true) (rows_text (store l.self.pools.now) c l.rows)

abbrev pub invariant-put_fields-loop-k : goal.invariant-put_fields-loop-k
invariant-put_fields-loop-k g l =
    (cs : Columns) → FieldsReadable (store l.self.pools.now) l.first cs l.count l.row l.levels →
    FieldsLeft (store l.self.pools.now) l.place l.k l.count l.row l.levels cs g.I.Ink.room g.I.Ink.marked l.initial.ink l.ink
