-- Drafts that are stored one after another.
use Rattle.std.proofs.Common.{◌≡◌, ℕ, suc, ◌+◌, List, [], ◌∷◌, ◌++◌, length, get_or, take, drop, sym, refl, ap, ◌∙◌, subst, subst₂, ap₂, append_assoc, append-nil, add-zero, add_assoc, zero-add, arith, length-append}
use Rattle.std.specs.List.{AllByRecursion}
use Rattle.std.proofs.lemmas.List.{drop_at, take_at, map-append}
use Rattle.std.proofs.ByRecursion.{All-append, All-weaker}
use Rattle.columns.specs.Says.{slice}
use Rattle.columns.specs.Column.{Node}
use Rattle.columns.specs.Widths.{Bytes}
use Rattle.columns.specs.Contents.{value_at}
use Rattle.formats.specs.Spelled.{wide_bytes}
use Rattle.pools.specs.declared.records.Part.{Part}
use Rattle.pools.specs.declared.records.Node.{Node as Entry}
use Rattle.pools.specs.declared.pool.Pool.{Pool}
use Rattle.pools.specs.declared.pools.Pools.{Pools}
use Rattle.pools.specs.declared.pools.Marks.{Marks}
use Rattle.pools.specs.Used.{used, Fit, Gains, Keeps}
use Rattle.pools.specs.Kept.{Ready, Kept}
use Rattle.pools.specs.Marked.{marks_of, no_marks}
use Rattle.pools.specs.Parts.{part_of, Inside, buffers_in}
use Rattle.pools.specs.Store.{Store, Segment, Front, Extends, store, no_node}
use Rattle.pools.specs.Held.{Held}
use Rattle.pools.proofs.Growing.{grown_none, grown_then}
use Rattle.pools.proofs.Fronts.{front_length, front_get_or, segment_part}
use Rattle.pools.proofs.Staying.{held_on}
use Rattle.pools.proofs.Keeping.{keeps_grown, kept_none, kept_then, ready_after, kept_extends}
use Rattle.pools.proofs.Adding.{entry_added}
use Rattle.pools.proofs.Showing.{buffers_on}
use Rattle.parcels.specs.declared.draft.Draft.{Draft}
use Rattle.parcels.specs.Reads.{within}
use Rattle.parcels.specs.Lent.{data_from}
use Rattle.parcels.specs.Drafts.{Drafted, node_in}
use Rattle.filing.specs.Lent.{flat, parts_from}
use Rattle.pools.specs.Laid.{halves_in}
use Rattle.filing.specs.News.{News, Room, Gained, node_news, plan_in, own_bytes, brought_by, brought_start, entry_of}
use Rattle.soundness.specs.Sizes.{Filled}
use Rattle.filing.specs.Row.{Row}
use Rattle.filing.specs.Filed.{takes, both, takes_all, nodes_from, brought_all, Fits, Filed}
use Rattle.filing.proofs.Lents.{parts_length}
use Rattle.filing.proofs.Fitting.{fit_less, count_length, entries_length, data_length, own_length}
use Rattle.filing.proofs.Holding.{node_held, segment_mid}

-- equal marks, pool by pool
marks_made : {col col' nod nod' byt byt' sho sho' wor wor' lon lon' off off' vie vie' lis lis' buf buf' : ℕ} → col ≡ col' → nod ≡ nod' → byt ≡ byt' → sho ≡ sho' → wor ≡ wor' → lon ≡ lon' → off ≡ off' → vie ≡ vie' → lis ≡ lis' → buf ≡ buf'
    → (let m : Marks = record { columns = col; nodes = nod; bytes = byt; shorts = sho; words = wor; longs = lon; offsets = off; views = vie; lists = lis; buffers = buf } in m) ≡ (let m : Marks = record { columns = col'; nodes = nod'; bytes = byt'; shorts = sho'; words = wor'; longs = lon'; offsets = off'; views = vie'; lists = lis'; buffers = buf' } in m)
marks_made a b c d e f g h i j = cc

pub marks_same : {m n : Marks} → m.columns ≡ n.columns → m.nodes ≡ n.nodes → m.bytes ≡ n.bytes → m.shorts ≡ n.shorts → m.words ≡ n.words → m.longs ≡ n.longs → m.offsets ≡ n.offsets → m.views ≡ n.views → m.lists ≡ n.lists → m.buffers ≡ n.buffers → m ≡ n
marks_same {m} {n} a b c d e f g h i j = marks_made a b c d e f g h i j

pub both_none : (m : Marks) → both m no_marks ≡ m
both_none m = marks_same (add-zero m.columns) (add-zero m.nodes) (add-zero m.bytes) (add-zero m.shorts) (add-zero m.words) (add-zero m.longs) (add-zero m.offsets) (add-zero m.views) (add-zero m.lists) (add-zero m.buffers)

pub both_both : (a b c : Marks) → both (both a b) c ≡ both a (both b c)
both_both a b c = marks_same (add_assoc a.columns b.columns c.columns) (add_assoc a.nodes b.nodes c.nodes) (add_assoc a.bytes b.bytes c.bytes) (add_assoc a.shorts b.shorts c.shorts) (add_assoc a.words b.words c.words) (add_assoc a.longs b.longs c.longs) (add_assoc a.offsets b.offsets c.offsets) (add_assoc a.views b.views c.views) (add_assoc a.lists b.lists c.lists) (add_assoc a.buffers b.buffers c.buffers)

-- drafts, and then more drafts
pub takes_append : (parcel : List ℕ) (ds es : List Draft) → takes_all parcel (ds ++ es) ≡ both (takes_all parcel ds) (takes_all parcel es)
unfolding takes_all
takes_append parcel [] es = marks_same (sym (zero-add (takes_all parcel es).columns)) (sym (zero-add (takes_all parcel es).nodes)) (sym (zero-add (takes_all parcel es).bytes)) (sym (zero-add (takes_all parcel es).shorts)) (sym (zero-add (takes_all parcel es).words)) (sym (zero-add (takes_all parcel es).longs)) (sym (zero-add (takes_all parcel es).offsets)) (sym (zero-add (takes_all parcel es).views)) (sym (zero-add (takes_all parcel es).lists)) (sym (zero-add (takes_all parcel es).buffers))
takes_append parcel (d ∷ ds) es = ap (both (takes parcel d)) (takes_append parcel ds es) ∙ sym (both_both (takes parcel d) (takes_all parcel ds) (takes_all parcel es))

pub brought_all_append : (parcel : List ℕ) (ds es : List Draft) → brought_all parcel (ds ++ es) ≡ brought_all parcel ds ++ brought_all parcel es
unfolding brought_all
brought_all_append parcel [] es = refl
brought_all_append parcel (d ∷ ds) es =
    ap (λ (l : List (List ℕ)). brought_by parcel d ++ l) (brought_all_append parcel ds es) ∙ sym (append_assoc (brought_by parcel d) (brought_all parcel ds) (brought_all parcel es))

pub takes_brought : (parcel : List ℕ) (ds : List Draft) → (takes_all parcel ds).buffers ≡ length (brought_all parcel ds)
unfolding takes_all brought_all
takes_brought parcel [] = refl
takes_brought parcel (d ∷ ds) = ap (λ (n : ℕ). length (brought_by parcel d) + n) (takes_brought parcel ds) ∙ sym (length-append (brought_by parcel d) (brought_all parcel ds))

pub takes_nodes : (parcel : List ℕ) (ds : List Draft) → (takes_all parcel ds).nodes ≡ length ds
unfolding takes_all
takes_nodes parcel [] = refl
takes_nodes parcel (d ∷ ds) = let e = takes_nodes parcel ds in omega arith

pub nodes_append : (parcel : List ℕ) (next : ℕ) (ds es : List Draft) → nodes_from parcel next (ds ++ es) ≡ nodes_from parcel next ds ++ nodes_from parcel (next + (takes_all parcel ds).buffers) es
unfolding nodes_from takes_all
nodes_append parcel next [] es = ap (λ (n : ℕ). nodes_from parcel n es) (sym (add-zero next))
nodes_append parcel next (d ∷ ds) es =
    ap (λ (l : List (Node × ℕ)). (node_in parcel d (data_from parcel d.parts.lent.start next d.parts.lent.len), d.head.children) ∷ l)
    (nodes_append parcel (next + length (brought_by parcel d)) ds es
    ∙ ap (λ (n : ℕ). nodes_from parcel (next + length (brought_by parcel d)) ds ++ nodes_from parcel n es) (add_assoc next (length (brought_by parcel d)) (takes_all parcel ds).buffers))

pub nodes_length : (parcel : List ℕ) (next : ℕ) (ds : List Draft) → length (nodes_from parcel next ds) ≡ length ds
unfolding nodes_from
nodes_length parcel next [] = refl
nodes_length parcel next (d ∷ ds) = ap suc (nodes_length parcel (next + length (brought_by parcel d)) ds)

-- rows
pub row_on : {P Q : Store} → Extends P Q → (i : ℕ) (ns : List (Node × ℕ)) (ss : List ℕ) → Row P i ns ss → Row Q i ns ss
unfolding Row
row_on e i [] ss r = tt
row_on {P} {Q} e i (n ∷ ns) ss r = (
  (let l = front_length e.nodes in let a = r.0 in omega arith),
  subst (λ (x : Entry). Held Q x n.0 n.1 (get_or ss 0 0)) (sym (front_get_or e.nodes i no_node r.0)) (held_on e r.1),
  row_on e (i + 1) ns (drop 1 ss) r.2,
)

pub row_append : (P : Store) (i : ℕ) (ns ms : List (Node × ℕ)) (ss ts : List ℕ) → length ns ≡ length ss → Row P i ns ss → Row P (i + length ns) ms ts → Row P i (ns ++ ms) (ss ++ ts)
unfolding Row
row_append P i [] ms [] ts e a b = subst (λ (k : ℕ). Row P k ms ts) (add-zero i) b
row_append P i [] ms (s ∷ ss) ts e a b = absurd (omega arith)
row_append P i (n ∷ ns) ms [] ts e a b = absurd (omega arith)
row_append P i (n ∷ ns) ms (s ∷ ss) ts e a b =
    (a.0, a.1, row_append P (i + 1) ns ms ss ts (omega arith) a.2 (subst (λ (k : ℕ). Row P k ms ts) (let z : i + suc (length ns) ≡ i + 1 + length ns = omega arith in z) b))

-- new data buffers lie at their parts
rest_lies : {xs : List ℕ} (start : ℕ) (b z : List ℕ) → Segment xs start (length (b ++ z)) (b ++ z) → Segment xs (start + length b) (length z) z
rest_lies {xs} start b z s =
    subst (λ (v : List ℕ). Segment xs (start + length b) (length z) v)
    (ap (take (length z)) (drop_at b z (length b) refl) ∙ (let e = take_at z [] (length z) refl in ap (take (length z)) (sym (append-nil z)) ∙ e))
    (segment_part s (length b) (length z) (let e = length-append b z in omega arith))

first_lies : {xs : List ℕ} (start : ℕ) (b z : List ℕ) → Segment xs start (length (b ++ z)) (b ++ z) → slice xs start (length b) ≡ b
first_lies {xs} start b z s =
    ap (λ (k : ℕ). slice xs k (length b)) (sym (add-zero start)) ∙ (segment_part s 0 (length b) (let e = length-append b z in omega arith)).is ∙ take_at b z (length b) refl

pub parts_inside : {xs : List ℕ} (start : ℕ) (bs : List (List ℕ)) → Segment xs start (length (flat bs)) (flat bs) → AllByRecursion (Inside xs) (parts_from start bs)
parts_inside start [] s = tt
parts_inside {xs} start (b ∷ bs) s =
    ((let w = s.within in let e = length-append b (flat bs) in omega arith), parts_inside (start + length b) bs (rest_lies start b (flat bs) s))

pub parts_are : {xs : List ℕ} (start : ℕ) (bs : List (List ℕ)) → Segment xs start (length (flat bs)) (flat bs) → buffers_in xs (parts_from start bs) ≡ bs
parts_are start [] s = refl
parts_are {xs} start (b ∷ bs) s =
    ap₂ (λ (x : List ℕ) (l : List (List ℕ)). x ∷ l) (first_lies start b (flat bs) s) (parts_are (start + length b) bs (rest_lies start b (flat bs) s))

inside_on : {xs ys : List ℕ} → Front xs ys → (p : Part) → Inside xs p → Inside ys p
inside_on f p i = let l = front_length f in omega arith

-- nothing stored yet
pub filed_none : (p : Pools) (parcel : List ℕ) → Ready p → Filed p p parcel [] []
unfolding takes_all nodes_from brought_all Row
filed_none p parcel r =
    record {
      kept = kept_none r;
      marks = sym (both_none (marks_of p));
      columns = grown_none _ _;
      row = tt;
      new = [];
      parts = grown_none _ _;
      inside = tt;
      are = refl;
    }

-- some drafts, and then others
pub filed_then : (p q r : Pools) (parcel : List ℕ) (ds es : List Draft) (ss ts : List ℕ) → length ds ≡ length ss → Filed p q parcel ds ss → Filed q r parcel es ts → Filed p r parcel (ds ++ es) (ss ++ ts)
filed_then p q r parcel ds es ss ts e a b =
    let x = kept_extends b.kept in
    let start : q.nodes.mark ≡ p.nodes.mark + length (nodes_from parcel p.buffers.mark ds) =
    ap (λ (m : Marks). m.nodes) a.marks ∙ ap (λ (n : ℕ). p.nodes.mark + n) (takes_nodes parcel ds ∙ sym (nodes_length parcel p.buffers.mark ds)) in
    let next : q.buffers.mark ≡ p.buffers.mark + (takes_all parcel ds).buffers = ap (λ (m : Marks). m.buffers) a.marks in
    record {
      kept = kept_then a.kept b.kept;
      marks = b.marks ∙ ap (λ (m : Marks). both m (takes_all parcel es)) a.marks ∙ both_both (marks_of p) (takes_all parcel ds) (takes_all parcel es) ∙ ap (both (marks_of p)) (sym (takes_append parcel ds es));
      columns = grown_then a.columns b.columns;
      row =
          subst (λ (l : List (Node × ℕ)). Row (store r) p.nodes.mark l (ss ++ ts))
          (ap (λ (n : ℕ). nodes_from parcel p.buffers.mark ds ++ nodes_from parcel n es) next ∙ sym (nodes_append parcel p.buffers.mark ds es))
          (row_append (store r) p.nodes.mark (nodes_from parcel p.buffers.mark ds) (nodes_from parcel q.buffers.mark es) ss ts (nodes_length parcel p.buffers.mark ds ∙ e)
          (row_on x p.nodes.mark (nodes_from parcel p.buffers.mark ds) ss a.row)
          (subst (λ (i : ℕ). Row (store r) i (nodes_from parcel q.buffers.mark es) ts) start b.row));
      new = a.new ++ b.new;
      parts = grown_then a.parts b.parts;
      inside =
          All-append (Inside (used r.bytes)) a.new b.new
          (All-weaker (Inside (used q.bytes)) (Inside (used r.bytes)) (inside_on x.bytes) a.new a.inside) b.inside;
      are =
          map-append (part_of (used r.bytes)) a.new b.new
          ∙ ap₂ (λ (u v : List (List ℕ)). u ++ v) (buffers_on a.new x.bytes a.inside ∙ a.are) b.are ∙ sym (brought_all_append parcel ds es);
    }

-- room for one draft, and then for the others
pub room_one : (p : Pools) (parcel : List ℕ) (d : Draft) (span : ℕ) (m : Marks) → Drafted parcel d → Filled d → Fits p (takes parcel d) → Room p (node_news parcel d span m)
room_one p parcel d span m h f r =
    let body : List ℕ = within parcel d.parts.body in
    record {
      columns = r.columns;
      nodes = r.nodes;
      bytes =
          subst (Fit p.bytes)
          (ap (λ (n : ℕ). n + length (flat (brought_by parcel d))) (sym (own_length parcel d h)) ∙ sym (length-append (own_bytes parcel d) (flat (brought_by parcel d)))) r.bytes;
      shorts = subst (Fit p.shorts) (sym (count_length (value_at 2 body) (plan_in d).shorts)) r.shorts;
      words = subst (Fit p.words) (sym (count_length (value_at 4 body) (plan_in d).words)) r.words;
      longs = subst (Fit p.longs) (sym (count_length (value_at 8 body) (plan_in d).longs)) r.longs;
      offsets = subst (Fit p.offsets) (sym (count_length (value_at (wide_bytes (plan_in d).wide) body) (plan_in d).offsets)) r.offsets;
      views = subst (Fit p.views) (sym (entries_length halves_in 16 (plan_in d).views body)) r.views;
      lists = subst (Fit p.lists) (sym (data_length parcel (plan_in d).list.start m.buffers (plan_in d).list.len)) r.lists;
      buffers = subst (Fit p.buffers) (sym (parts_length (brought_start d m) (brought_by parcel d))) r.buffers;
    }

fit_front : {X : Type 0} {p : Pool X} (a b : ℕ) → Fit p (a + b) → Fit p a
fit_front a b f = fit_less (a + b) a (omega arith) f

pub fits_front : (p : Pools) (a b : Marks) → Fits p (both a b) → Fits p a
fits_front p a b f =
    record { columns = fit_front a.columns b.columns f.columns; nodes = fit_front a.nodes b.nodes f.nodes; bytes = fit_front a.bytes b.bytes f.bytes; shorts = fit_front a.shorts b.shorts f.shorts; words = fit_front a.words b.words f.words; longs = fit_front a.longs b.longs f.longs; offsets = fit_front a.offsets b.offsets f.offsets; views = fit_front a.views b.views f.views; lists = fit_front a.lists b.lists f.lists; buffers = fit_front a.buffers b.buffers f.buffers }

fit_moved : {X : Type 0} {p : Pool X} (q : Pool X) (a b : ℕ) → Keeps p q → q.mark ≡ p.mark + a → Fit p (a + b) → Fit q b
fit_moved {X} {p} q a b k e f = let l = k.len in let h = f.lent in let g = f.capped in record { lent = omega arith; capped = omega arith }

pub fits_after : (p q : Pools) (a b : Marks) → Kept p q → marks_of q ≡ both (marks_of p) a → Fits p (both a b) → Fits q b
fits_after p q a b k e f =
    record {
      columns = fit_moved q.columns a.columns b.columns k.columns (ap (λ (m : Marks). m.columns) e) f.columns;
      nodes = fit_moved q.nodes a.nodes b.nodes k.nodes (ap (λ (m : Marks). m.nodes) e) f.nodes;
      bytes = fit_moved q.bytes a.bytes b.bytes k.bytes (ap (λ (m : Marks). m.bytes) e) f.bytes;
      shorts = fit_moved q.shorts a.shorts b.shorts k.shorts (ap (λ (m : Marks). m.shorts) e) f.shorts;
      words = fit_moved q.words a.words b.words k.words (ap (λ (m : Marks). m.words) e) f.words;
      longs = fit_moved q.longs a.longs b.longs k.longs (ap (λ (m : Marks). m.longs) e) f.longs;
      offsets = fit_moved q.offsets a.offsets b.offsets k.offsets (ap (λ (m : Marks). m.offsets) e) f.offsets;
      views = fit_moved q.views a.views b.views k.views (ap (λ (m : Marks). m.views) e) f.views;
      lists = fit_moved q.lists a.lists b.lists k.lists (ap (λ (m : Marks). m.lists) e) f.lists;
      buffers = fit_moved q.buffers a.buffers b.buffers k.buffers (ap (λ (m : Marks). m.buffers) e) f.buffers;
    }

-- one draft stored
kept_gained : (p q : Pools) (new : News) → Ready p → Room p new → Gained p new q → Kept p q
kept_gained p q new ready r g =
    record { columns = keeps_grown q.columns r.columns g.columns; nodes = keeps_grown q.nodes r.nodes g.nodes; bytes = keeps_grown q.bytes r.bytes g.bytes; shorts = keeps_grown q.shorts r.shorts g.shorts; words = keeps_grown q.words r.words g.words; longs = keeps_grown q.longs r.longs g.longs; offsets = keeps_grown q.offsets r.offsets g.offsets; views = keeps_grown q.views r.views g.views; lists = keeps_grown q.lists r.lists g.lists; buffers = keeps_grown q.buffers r.buffers g.buffers }

pub filed_one : (p q : Pools) (parcel : List ℕ) (d : Draft) (span : ℕ) → Ready p → Bytes parcel → Drafted parcel d → Filled d → Fits p (takes parcel d)
    → Gained p (node_news parcel d span (marks_of p)) q → Filed p q parcel (d ∷ []) (span ∷ [])
unfolding takes_all nodes_from brought_all Row
filed_one p q parcel d span ready small h f r g =
    let m : Marks = marks_of p in
    let body : List ℕ = within parcel d.parts.body in
    let own = own_length parcel d h in
    let room = room_one p parcel d span m h f r in
    let entry = entry_added (entry_of d span m) no_node ready.nodes.fits g.nodes in
    let bytes : Gains p.bytes (own_bytes parcel d ++ (flat (brought_by parcel d) ++ [])) q.bytes =
    subst (λ (l : List ℕ). Gains p.bytes (own_bytes parcel d ++ l) q.bytes) (sym (append-nil (flat (brought_by parcel d)))) g.bytes in
    let lies : Segment (used q.bytes) (brought_start d m) (length (flat (brought_by parcel d))) (flat (brought_by parcel d)) =
    subst (λ (i : ℕ). Segment (used q.bytes) i (length (flat (brought_by parcel d))) (flat (brought_by parcel d)))
    (let e : p.bytes.mark + length (own_bytes parcel d) ≡ brought_start d m = omega arith in e)
    (segment_mid (own_bytes parcel d) (flat (brought_by parcel d)) [] ready.bytes.fits bytes) in
    record {
      kept = kept_gained p q (node_news parcel d span m) ready room g;
      marks =
          marks_same
          (g.columns.mark ∙ (let e : p.columns.mark + 0 ≡ p.columns.mark + (0 + 0) = omega arith in e))
          (g.nodes.mark ∙ (let e : p.nodes.mark + 1 ≡ p.nodes.mark + (1 + 0) = omega arith in e))
          (let e = g.bytes.mark in let l = length-append (own_bytes parcel d) (flat (brought_by parcel d)) in omega arith)
          (let e = g.shorts.mark in let l = count_length (value_at 2 body) (plan_in d).shorts in omega arith)
          (let e = g.words.mark in let l = count_length (value_at 4 body) (plan_in d).words in omega arith)
          (let e = g.longs.mark in let l = count_length (value_at 8 body) (plan_in d).longs in omega arith)
          (let e = g.offsets.mark in let l = count_length (value_at (wide_bytes (plan_in d).wide) body) (plan_in d).offsets in omega arith)
          (let e = g.views.mark in let l = entries_length halves_in 16 (plan_in d).views body in omega arith)
          (let e = g.lists.mark in let l = data_length parcel (plan_in d).list.start p.buffers.mark (plan_in d).list.len in omega arith)
          (let e = g.buffers.mark in let l = parts_length (brought_start d m) (brought_by parcel d) in omega arith);
      columns = g.columns;
      row = (
        entry.0,
        subst (λ (x : Entry). Held (store q) x (node_in parcel d (data_from parcel d.parts.lent.start p.buffers.mark d.parts.lent.len)) d.head.children span) (sym entry.1) (node_held p q parcel d span ready small h f g),
        tt,
      );
      new = parts_from (brought_start d m) (brought_by parcel d);
      parts = g.buffers;
      inside = parts_inside (brought_start d m) (brought_by parcel d) lies;
      are = parts_are (brought_start d m) (brought_by parcel d) lies ∙ sym (append-nil (brought_by parcel d));
    }

one_takes : (parcel : List ℕ) (d : Draft) → takes_all parcel (d ∷ []) ≡ takes parcel d
unfolding takes_all
one_takes parcel d = both_none (takes parcel d)

-- at the loop over drafts: what is left, and that the whole is filed once it is
pub record Storing (p q : Pools) (parcel : List ℕ) (ds : List Draft) (sizes : List ℕ) (rest : List Draft) (left : List ℕ) : Type 0 where
  pub ready : Ready q
  pub drafted : AllByRecursion (Drafted parcel) rest
  pub filled : AllByRecursion Filled rest
  pub room : Fits q (takes_all parcel rest)
  pub long : length rest ≡ length left
  pub then : (r : Pools) → Filed q r parcel rest left → Filed p r parcel ds sizes

pub storing_next : {p q : Pools} {parcel : List ℕ} {ds : List Draft} {ss : List ℕ} {before rest : List Draft} {from left : List ℕ} (d : Draft) (size : ℕ) → before ≡ d ∷ rest → from ≡ size ∷ left
    → Storing p q parcel ds ss before from → Storing p q parcel ds ss (d ∷ rest) (size ∷ left)
storing_next {p} {q} {parcel} {ds} {ss} d size e f s = subst₂ (λ (xs : List Draft) (ys : List ℕ). Storing p q parcel ds ss xs ys) e f s

module _ {p q : Pools} {parcel : List ℕ} {ds rest : List Draft} {ss left : List ℕ} (d : Draft) (size : ℕ) (s : Storing p q parcel ds ss (d ∷ rest) (size ∷ left)) where
  storing_both : Fits q (both (takes parcel d) (takes_all parcel rest))
  unfolding takes_all
  storing_both = s.room

  storing_fits : Fits q (takes parcel d)
  storing_fits = fits_front q (takes parcel d) (takes_all parcel rest) storing_both

  pub storing_room : Room q (node_news parcel d size (marks_of q))
  storing_room = room_one q parcel d size (marks_of q) s.drafted.0 s.filled.0 storing_fits

  pub storing_more : (r : Pools) → Bytes parcel → Gained q (node_news parcel d size (marks_of q)) r → Storing p r parcel ds ss rest left
  storing_more r small g =
      let one = filed_one q r parcel d size s.ready small s.drafted.0 s.filled.0 storing_fits g in
      record {
        ready = ready_after one.kept;
        drafted = s.drafted.1;
        filled = s.filled.1;
        room = fits_after q r (takes parcel d) (takes_all parcel rest) one.kept (one.marks ∙ ap (both (marks_of q)) (one_takes parcel d)) storing_both;
        long = (let e = s.long in omega arith);
        then = λ t filed. s.then t (filed_then q r t parcel (d ∷ []) rest (size ∷ []) left refl one filed);
      }

pub storing_end : {p q : Pools} {parcel : List ℕ} {ds : List Draft} {ss : List ℕ} (rest : List Draft) (left : List ℕ) → rest ≡ [] → left ≡ [] → Storing p q parcel ds ss rest left → Filed p q parcel ds ss
storing_end {p} {q} {parcel} {ds} {ss} rest left e f s =
    s.then q (subst₂ (λ (xs : List Draft) (ys : List ℕ). Filed q q parcel xs ys) (sym e) (sym f) (filed_none q parcel s.ready))
