use Rattle.std.proofs.Common.{ℕ, List, map, length, ap, subst, arith}
use lib.ListN.{length-map}
use Rattle.pools.specs.declared.records.ColumnEntry.{ColumnEntry}
use Rattle.pools.proofs.Keeping.{kept_then, ready_after}
use Rattle.pools.proofs.Growing.{grown_then}
use Rattle.filing.specs.Row.{spans_of}
use Rattle.filing.specs.Counts.{children_in}
use Rattle.filing.specs.Filed.{takes_all, Filed}
use Rattle.filing.proofs.Spanning.{spans_length}
use Rattle.filing.proofs.Plain.{plain}
use Rattle.filing.proofs.Accepting.{told, no_columns, with_columns, kept_column, fits_column, shown}
use Rattle.filing.proofs.store.store.Goals as goal

pub fill_spans-requires-clause-few : goal.fill_spans-requires-clause-few
fill_spans-requires-clause-few c =
    (plain c.args.pools.now c.args.nodes.parcel.now c.args.nodes.drafts.now c.requires.ready c.args.nodes.drafted c.requires.few c.requires.accepted).low

pub append-requires : goal.append-requires
append-requires c =
    (plain c.args.pools.now c.args.nodes.parcel.now c.args.nodes.drafts.now c.requires.ready c.args.nodes.drafted c.requires.few c.requires.accepted).column_room

pub put_nodes-requires : goal.put_nodes-requires
put_nodes-requires c =
    let t = plain c.args.pools.now c.args.nodes.parcel.now c.args.nodes.drafts.now c.requires.ready c.args.nodes.drafted c.requires.few c.requires.accepted in
    let e : ColumnEntry = record { root = c.args.pools.now.nodes.mark } in
    record {
      ready = ready_after (kept_column c.args.pools.now c.append.new.self e c.requires.ready t.column_room c.append.ensures);
      drafted = c.args.nodes.drafted;
      filled = t.filled;
      room = fits_column c.args.pools.now c.append.new.self e (takes_all c.args.nodes.parcel.now c.args.nodes.drafts.now) (no_columns c.args.nodes.parcel.now c.args.nodes.drafts.now) t.column_room c.append.ensures t.room;
      spans =
          omega (arith, ap length c.fill_spans.ensures, spans_length (map children_in c.args.nodes.drafts.now), length-map c.args.nodes.drafts.now children_in);
    }

pub returns : goal.returns
returns c =
    let e : ColumnEntry = record { root = c.args.pools.now.nodes.mark } in
    let t = plain c.args.pools.now c.args.nodes.parcel.now c.args.nodes.drafts.now c.requires.ready c.args.nodes.drafted c.requires.few c.requires.accepted in
    let filed : Filed (with_columns c.args.pools.now c.append.new.self) c.put_nodes.new.pools c.args.nodes.parcel.now c.args.nodes.drafts.now (spans_of (map children_in c.args.nodes.drafts.now)) =
    subst (λ (l : List ℕ). Filed (with_columns c.args.pools.now c.append.new.self) c.put_nodes.new.pools c.args.nodes.parcel.now c.args.nodes.drafts.now l) c.fill_spans.ensures c.put_nodes.ensures in
    record {
      kept = kept_then (kept_column c.args.pools.now c.append.new.self e c.requires.ready t.column_room c.append.ensures) filed.kept;
      entry = grown_then c.append.ensures filed.columns;
      shown = λ s slip a.
          shown c.args.pools.now c.put_nodes.new.pools c.append.new.self s c.args.nodes.parcel.now c.args.nodes.drafts.now
          (told c.args.pools.now slip s c.args.nodes.parcel.now c.args.nodes.drafts.now c.requires.ready c.args.nodes.drafted a) c.requires.ready a.shows c.append.ensures filed (no_columns c.args.nodes.parcel.now c.args.nodes.drafts.now);
    }
