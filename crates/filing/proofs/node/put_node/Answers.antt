use Rattle.std.proofs.Common.{◌≡◌, ℕ, ◌+◌, ◌≤◌, true, List, [], ◌∷◌, ◌++◌, map, length, sym, refl, ap, ◌∙◌, subst, subst₂, arith, length-append}
use Rattle.columns.specs.Sent.{Data, number_of}
use Rattle.pools.specs.declared.records.Part.{Part}
use Rattle.pools.specs.declared.records.Node.{Node as Entry}
use Rattle.pools.specs.declared.pool.Pool.{Pool}
use Rattle.pools.specs.declared.pools.Marks.{Marks}
use Rattle.pools.specs.declared.pools.Pools.{Pools}
use Rattle.pools.specs.Used.{Fit, Gains}
use Rattle.pools.specs.Marked.{marks_of}
use Rattle.pools.proofs.Growing.{grown_none, grown_then}
use Rattle.parcels.specs.declared.draft.Draft.{Draft}
use Rattle.parcels.specs.Lent.{readable, data_from, brought_from}
use Rattle.filing.specs.Lent.{flat, parts_from}
use Rattle.filing.specs.Plans.{place_in}
use Rattle.filing.specs.News.{own_bytes, brought_by, brought_start}
use Rattle.filing.proofs.Fitting.{fit_less, fit_next, plan_within, body_room, lists_room, brought_room, own_length, place_same, entry_is}
use Rattle.filing.proofs.node.put_node.Goals as goal

pub copy_parts-copied-requires : goal.copy_parts-copied-requires
copy_parts-copied-requires c =
    let own : List ℕ = own_bytes c.args.node.parcel.now c.args.node.draft in
    let new : List ℕ = flat (brought_by c.args.node.parcel.now c.args.node.draft) in
    fit_less (length (own ++ new)) (length own) (omega (arith, length-append own new)) c.requires.room.bytes

pub put_body-place-requires-clause-room : goal.put_body-place-requires-clause-room
put_body-place-requires-clause-room c =
    let room = body_room c.args.pools.now c.args.node.parcel.now c.args.node.draft c.args.span (marks_of c.args.pools.now) c.requires.room in
    record { shorts = room.shorts; words = room.words; longs = room.longs; offsets = room.offsets; views = room.views }

pub put_numbers-buffers-requires : goal.put_numbers-buffers-requires
put_numbers-buffers-requires c =
    let list = c.listed_part-listed.ensures in
    let fits = plan_within c.args.node.parcel.now c.args.node.draft c.args.node.drafted c.requires.filled.body in
    let most = brought_room c.args.pools.now c.args.node.parcel.now c.args.node.draft c.args.span (marks_of c.args.pools.now) c.requires.room in
    record {
      inside = subst (λ (t : Part). readable c.args.node.parcel.now t.start t.len ≡ true) (sym list) fits.list;
      room =
          subst₂ (λ (q : Pool ℕ) (t : Part). Fit q t.len) (sym c.put_body-place.ensures.gained.lists) (sym list)
          (lists_room c.args.pools.now c.args.node.parcel.now c.args.node.draft c.args.span (marks_of c.args.pools.now) c.requires.room);
      few =
          subst (λ (t : Part). c.put_body-place.new.pools.buffers.mark + length (brought_from c.args.node.parcel.now t.start t.len) ≤ 1048576) (sym list)
          (omega (arith, most.capped, fits.new, ap (λ (q : Pool Part). q.mark) c.put_body-place.ensures.gained.buffers));
    }

pub put_brought-requires : goal.put_brought-requires
put_brought-requires c =
    let parcel : List ℕ = c.args.node.parcel.now in
    let d : Draft = c.args.node.draft in
    let own : List ℕ = own_bytes parcel d in
    let new : List ℕ = flat (brought_by parcel d) in
    let lent = c.lent.ensures in
    let sent : brought_from c.lent.result.parcel.now c.lent.result.at c.lent.result.left ≡ brought_by parcel d = λ i. brought_from (lent.among i) (lent.first i) (lent.count i) in
    record {
      shelved =
          subst₂ (λ (q : Pool Part) (bs : List (List ℕ)). Fit q (length bs)) (sym c.put_body-place.ensures.gained.buffers) (sym sent)
          (brought_room c.args.pools.now parcel d c.args.span (marks_of c.args.pools.now) c.requires.room);
      held =
          subst₂ (λ (q : Pool ℕ) (bs : List (List ℕ)). Fit q (length (flat bs))) (sym c.put_body-place.ensures.gained.bytes) (sym sent)
          (fit_next c.copy_parts-copied.new.bytes (length own) (length new) refl (subst (Fit c.args.pools.now.bytes) (length-append own new) c.requires.room.bytes) c.copy_parts-copied.ensures.added);
    }

pub returns : goal.returns
returns c =
    let p : Pools = c.args.pools.now in
    let parcel : List ℕ = c.args.node.parcel.now in
    let d : Draft = c.args.node.draft in
    let m : Marks = marks_of p in
    let gained = c.put_body-place.ensures.gained in
    let list = c.listed_part-listed.ensures in
    let lent = c.lent.ensures in
    let text = c.copy_parts-copied.ensures.plain in
    let sent : brought_from c.lent.result.parcel.now c.lent.result.at c.lent.result.left ≡ brought_by parcel d = λ i. brought_from (lent.among i) (lent.first i) (lent.count i) in
    let after : c.put_body-place.new.pools.bytes.mark ≡ brought_start d m =
    omega (
      arith,
      c.copy_parts-copied.ensures.added.mark,
      own_length parcel d c.args.node.drafted,
      ap (λ (q : Pool ℕ). q.mark) gained.bytes,
    ) in
    let brought : Gains c.copy_parts-copied.new.bytes (flat (brought_by parcel d)) c.put_brought.new.bytes =
    subst₂ (λ (q : Pool ℕ) (bs : List (List ℕ)). Gains q (flat bs) c.put_brought.new.bytes) gained.bytes sent c.put_brought.ensures.bytes in
    let parts : Gains p.buffers (parts_from c.put_body-place.new.pools.bytes.mark (brought_by parcel d)) c.put_brought.new.buffers =
    subst₂ (λ (q : Pool Part) (bs : List (List ℕ)). Gains q (parts_from c.put_body-place.new.pools.bytes.mark bs) c.put_brought.new.buffers) gained.buffers sent c.put_brought.ensures.buffers in
    record {
      columns = subst (λ (q : _). Gains p.columns [] q) (sym gained.columns) (grown_none _ _);
      nodes =
          subst₂ (λ (q : Pool Entry) (x : Entry). Gains q (x ∷ []) c.append.new.self) gained.nodes
          (entry_is d c.args.span m c.copy_parts-copied.ensures.format c.copy_parts-copied.ensures.mask
          (c.put_body-place.ensures.start ∙ place_same d.kind c.copy_parts-copied.result.plain.start c.copy_parts-copied.new.bytes.mark m ∙ ap (λ (t : Part). place_in d.kind t.start m) text) text
          (c.put_numbers-buffers.ensures.lies ∙ (λ i. (let t : Part = record { start = (gained.lists i).mark; len = (list i).len } in t))))
          c.append.ensures;
      bytes = grown_then c.copy_parts-copied.ensures.added brought;
      shorts = gained.shorts;
      words = gained.words;
      longs = gained.longs;
      offsets = gained.offsets;
      views = gained.views;
      lists =
          subst₂ (λ (q : Pool ℕ) (ds : List Data). Gains q (map number_of ds) c.put_numbers-buffers.new.lists) gained.lists
          (λ i. data_from parcel (list i).start (gained.buffers i).mark (list i).len)
          c.put_numbers-buffers.ensures.added;
      buffers = subst (λ (n : ℕ). Gains p.buffers (parts_from n (brought_by parcel d)) c.put_brought.new.buffers) after parts;
    }
