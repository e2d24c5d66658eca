use mathlib.Core.Logic.{∥∥₁_elim, ∥∥₁_map}
use native.Mathlib.Bridge.{le_prop}
use Rattle.std.proofs.Common.{ℕ, List, length, Result, sym, subst}
use Rattle.columns.specs.Ledger.{column_at, reads, answer}
use Rattle.denials.specs.declared.Denial.{Denial}
use Rattle.reading.specs.Answers.{Placed, Gives}
use Rattle.reading.proofs.Shelves.{entry_found, known_column, found_root, found_row, same_text, read_gives}
use Rattle.reading.proofs.read.read.Goals as goal

pub node_at-requires : goal.node_at-requires
node_at-requires c =
    let f = entry_found c.args.pools.now.columns c.args.column c.requires.ready.columns c.in_ok-entry.ensures.variant c.find_column.ensures.there c.in_ok-entry.ensures.ok_part c.find_column.ensures.entry in
    ∥∥₁_elim c.requires.given le_prop (λ g. found_root c.args.column g.1 f)

pub row_text-requires : goal.row_text-requires
row_text-requires c =
    let f = entry_found c.args.pools.now.columns c.args.column c.requires.ready.columns c.in_ok-entry.ensures.variant c.find_column.ensures.there c.in_ok-entry.ensures.ok_part c.find_column.ensures.entry in
    ∥∥₁_map c.requires.given (λ g. (column_at g.0 c.args.column, found_row c.args.column c.args.row g.1 f c.node_at.ensures.is c.if-row-node_at.false))

pub returns : goal.returns
returns c = λ ls s r.
    let j = c.args.column in let i = c.args.row in
    let f = entry_found c.args.pools.now.columns j c.requires.ready.columns c.in_ok-entry.ensures.variant c.find_column.ensures.there c.in_ok-entry.ensures.ok_part c.find_column.ensures.entry in
    let readable = found_row j i r f c.node_at.ensures.is c.if-row-node_at.false in
    let placed = subst (λ (t : List ℕ). Placed c.row_text.result t c.args.text.now c.row_text.new.text) (same_text j i r) (c.row_text.ensures (column_at s j) readable) in
    subst (λ (given : Result ℕ Denial). Gives given (answer ls s (reads j i (length c.args.text.now))) c.args.text.now c.row_text.new.text) (sym c.ok_or-2.ensures.value)
    (read_gives ls s j i c.row_text.result c.args.text.now c.row_text.new.text (known_column j r f.there) readable.row_in placed)
