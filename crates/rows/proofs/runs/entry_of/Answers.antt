use Rattle.std.proofs.Common.{ℕ, List, sym, ap, ◌∙◌}
use Rattle.columns.specs.Says.{entry}
use Rattle.formats.specs.declared.format.Width.{Width}
use Rattle.pools.specs.Parts.{part_of}
use Rattle.pools.specs.Store.{store}
use Rattle.pools.specs.Held.{values_pool}
use Rattle.rows.proofs.Entries.{entry_of_numbers}
use Rattle.rows.proofs.runs.entry_of.Goals as goal

pub returns-in-One : goal.returns-in-One
returns-in-One c =
    let P = store c.args.pools.now in
    let part = c.part.ensures ∙ ap (λ (w : Width). part_of (values_pool P w) c.args.ends) (sym c.in-One.is) in
    let is = entry_of_numbers _ _ c.run_of.result c.args.row part c.requires.rising (c.run_of.ensures (λ n. n) (λ x n e. e)) in
    record { is = is; told = λ es lie. is ∙ ap (λ (xs : List ℕ). entry xs c.args.row) lie.is }

pub returns-in-Two : goal.returns-in-Two
returns-in-Two c =
    let P = store c.args.pools.now in
    let part = c.part-in-Two.ensures ∙ ap (λ (w : Width). part_of (values_pool P w) c.args.ends) (sym c.in-Two.is) in
    let is = entry_of_numbers _ _ c.run_of-in-Two.result c.args.row part c.requires.rising (c.run_of-in-Two.ensures (λ n. n) (λ x n e. e)) in
    record { is = is; told = λ es lie. is ∙ ap (λ (xs : List ℕ). entry xs c.args.row) lie.is }

pub returns-in-Four : goal.returns-in-Four
returns-in-Four c =
    let P = store c.args.pools.now in
    let part = c.part-in-Four.ensures ∙ ap (λ (w : Width). part_of (values_pool P w) c.args.ends) (sym c.in-Four.is) in
    let is = entry_of_numbers _ _ c.run_of-in-Four.result c.args.row part c.requires.rising (c.run_of-in-Four.ensures (λ n. n) (λ x n e. e)) in
    record { is = is; told = λ es lie. is ∙ ap (λ (xs : List ℕ). entry xs c.args.row) lie.is }

pub returns-in-Eight : goal.returns-in-Eight
returns-in-Eight c =
    let P = store c.args.pools.now in
    let part = c.part-in-Eight.ensures ∙ ap (λ (w : Width). part_of (values_pool P w) c.args.ends) (sym c.in-Eight.is) in
    let is = entry_of_numbers _ _ c.run_of-in-Eight.result c.args.row part c.requires.rising (c.run_of-in-Eight.ensures (λ n. n) (λ x n e. e)) in
    record { is = is; told = λ es lie. is ∙ ap (λ (xs : List ℕ). entry xs c.args.row) lie.is }
