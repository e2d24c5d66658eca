use Rattle.std.proofs.Common.{◌+◌, rules}
use Rattle.pools.specs.Laid.{number_in, halves_in}
use Rattle.filing.proofs.Numbers.{made_same, number_alone, halves_alone}
use Rattle.filing.proofs.body.put_body.Goals as goal

pub returns-in-Primitive-Two-clause-gained : goal.returns-in-Primitive-Two-clause-gained
returns-in-Primitive-Two-clause-gained c =
    let added = made_same c.args.pools.now.shorts c.put_entries.new.pool (number_in 2) 2 c.rows-rows.ensures c.body-body.ensures (number_alone 2) c.put_entries.ensures.added in search rules

pub returns-in-Primitive-Four-clause-gained : goal.returns-in-Primitive-Four-clause-gained
returns-in-Primitive-Four-clause-gained c =
    let added = made_same c.args.pools.now.words c.put_entries-in-Primitive-Four.new.pool (number_in 4) 4 c.rows-rows.ensures c.body-body.ensures (number_alone 4) c.put_entries-in-Primitive-Four.ensures.added in search rules

pub returns-in-Primitive-Eight-clause-gained : goal.returns-in-Primitive-Eight-clause-gained
returns-in-Primitive-Eight-clause-gained c =
    let added = made_same c.args.pools.now.longs c.put_entries-in-Primitive-Eight.new.pool (number_in 8) 8 c.rows-rows.ensures c.body-body.ensures (number_alone 8) c.put_entries-in-Primitive-Eight.ensures.added in search rules

pub returns-in-Text-true-clause-gained : goal.returns-in-Text-true-clause-gained
returns-in-Text-true-clause-gained c =
    let added = made_same c.args.pools.now.offsets c.put_entries-in-Text-true.new.pool (number_in 8) 8 (λ i. c.rows-rows.ensures i + 1) c.body-body.ensures (number_alone 8) c.put_entries-in-Text-true.ensures.added in search rules

pub returns-in-Text-false-clause-gained : goal.returns-in-Text-false-clause-gained
returns-in-Text-false-clause-gained c =
    let added = made_same c.args.pools.now.offsets c.put_entries-in-Text-false.new.pool (number_in 4) 4 (λ i. c.rows-rows.ensures i + 1) c.body-body.ensures (number_alone 4) c.put_entries-in-Text-false.ensures.added in search rules

pub returns-in-View-clause-gained : goal.returns-in-View-clause-gained
returns-in-View-clause-gained c =
    let added = made_same c.args.pools.now.views c.put_entries-in-View.new.pool halves_in 16 c.rows-rows.ensures c.body-body.ensures halves_alone c.put_entries-in-View.ensures.added in search rules
