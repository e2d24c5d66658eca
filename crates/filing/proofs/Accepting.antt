-- What is known of an accepted parcel, and what the pools show once it is stored.
use Rattle.std.proofs.Common.{◌≡◌, ℕ, ◌+◌, ◌≤◌, List, [], ◌∷◌, ◌++◌, map, length, drop, sym, refl, ap, ◌∙◌, subst, arith}
use mathlib.Core.Option.{none}
use lib.ListN.{length-map}
use Rattle.std.specs.List.{AllByRecursion}
use Rattle.std.proofs.lemmas.List.{drop_at, length-take-le}
use Rattle.std.proofs.ByRecursion.{All-append}
use Rattle.columns.specs.Column.{Node, Column, Columns, column, end, ◌&◌}
use Rattle.columns.specs.Limits.{node_count, nodes_below}
use Rattle.columns.specs.Checks.{first_denial}
use Rattle.columns.specs.Pools.{Entries, of_pool, pools, plus, full_pool, node_needs, column_needs, format_bytes, filed_needs}
use Rattle.columns.specs.Reading.{reached}
use Rattle.columns.specs.Parcel.{Found, parcel_read}
use Rattle.columns.specs.Reading as rules
use Rattle.columns.specs.Ledger.{Shelf, file_checks, file_denial, new_buffers, filed_on}
use Rattle.columns.specs.Run.{WithinPools}
use Rattle.columns.proofs.Checked.{Passed, passed, passed_left, passed_right}
use Rattle.columns.proofs.Marks.{room_for}
use Rattle.pools.specs.declared.records.Part.{Part}
use Rattle.pools.specs.declared.records.ColumnEntry.{ColumnEntry}
use Rattle.pools.specs.declared.pool.Pool.{Pool}
use Rattle.pools.specs.declared.pools.Pools.{Pools}
use Rattle.pools.specs.declared.pools.Marks.{Marks}
use Rattle.pools.specs.Used.{used, Fit, Gains}
use Rattle.pools.specs.Kept.{Standing, Ready, Kept}
use Rattle.pools.specs.Marked.{lengths_of, entries}
use Rattle.pools.specs.Parts.{buffers_in, part_of}
use Rattle.pools.specs.Store.{store}
use Rattle.pools.specs.Stored.{Stored}
use Rattle.pools.specs.Shows.{Shows, counts, Added, with_column}
use Rattle.pools.proofs.Growing.{grown_then}
use Rattle.pools.proofs.Keeping.{keeps_none, keeps_grown, kept_then, kept_extends, ready_after}
use Rattle.pools.proofs.Showing.{shows_added}
use Rattle.parcels.specs.declared.draft.Draft.{Draft}
use Rattle.parcels.specs.Drafts.{Drafted, preorder, checks_of}
use Rattle.filing.specs.News.{brought_by}
use Rattle.soundness.specs.Sizes.{Filled}
use Rattle.filing.specs.Row.{Row, sizes_of, sizes_each, spans_of}
use Rattle.filing.specs.Counts.{children_in}
use Rattle.filing.specs.Filed.{takes_all, nodes_from, brought_all, Fits, Filed}
use Rattle.filing.specs.Accepted.{Accepted}
use Rattle.filing.proofs.Rows.{count_of, spans_are, row_column, preorder_length}
use Rattle.filing.proofs.Fitting.{fit_less}
use Rattle.filing.proofs.Filing.{takes_brought, nodes_length}
use Rattle.filing.proofs.Tracing.{nodes_are, held_are, all_filled}
use Rattle.filing.proofs.Needing.{sum_by, column_sum, format_sum, flat_sum, all_take}

sum_none : (ns : List (Node × ℕ)) → sum_by (λ (n : Node). 0) ns ≡ 0
sum_none [] = refl
sum_none (n ∷ ns) = let e = sum_none ns in omega arith

-- what is taken of each pool
pub record Taken (taken : Entries) (m : Marks) : Type 0 where
  pub columns : of_pool taken 1 ≡ 1
  pub nodes : of_pool taken 2 ≡ m.nodes
  pub bytes : of_pool taken 3 ≡ m.bytes
  pub shorts : of_pool taken 4 ≡ m.shorts
  pub words : of_pool taken 5 ≡ m.words
  pub longs : of_pool taken 6 ≡ m.longs
  pub offsets : of_pool taken 7 ≡ m.offsets
  pub views : of_pool taken 8 ≡ m.views
  pub lists : of_pool taken 9 ≡ m.lists
  pub buffers : of_pool taken 10 ≡ m.buffers
  pub slip : of_pool taken 11 ≡ 0

taken_is : (parcel : List ℕ) (next : ℕ) (ds : List Draft) (c : Column) → preorder c ≡ nodes_from parcel next ds → AllByRecursion (Drafted parcel) ds → AllByRecursion Filled ds → Taken (filed_needs c (brought_all parcel ds)) (takes_all parcel ds)
taken_is parcel next ds c e a f =
    let t = all_take parcel next ds a f in
    let at : (pool : Entries → ℕ) → ((xs ys : Entries) → pool (plus xs ys) ≡ pool xs + pool ys) → pool [] ≡ 0 → pool (column_needs c) ≡ sum_by (λ (n : Node). pool (node_needs n)) (nodes_from parcel next ds) =
    λ pool adds none. column_sum pool adds none c ∙ ap (sum_by (λ (n : Node). pool (node_needs n))) e in
    let c1 = at (λ (es : Entries). of_pool es 1) (λ xs ys. refl) refl ∙ sum_none (nodes_from parcel next ds) in
    let c2 = at (λ (es : Entries). of_pool es 2) (λ xs ys. refl) refl in
    let c3 = at (λ (es : Entries). of_pool es 3) (λ xs ys. refl) refl in
    let c4 = at (λ (es : Entries). of_pool es 4) (λ xs ys. refl) refl in
    let c5 = at (λ (es : Entries). of_pool es 5) (λ xs ys. refl) refl in
    let c6 = at (λ (es : Entries). of_pool es 6) (λ xs ys. refl) refl in
    let c7 = at (λ (es : Entries). of_pool es 7) (λ xs ys. refl) refl in
    let c8 = at (λ (es : Entries). of_pool es 8) (λ xs ys. refl) refl in
    let c9 = at (λ (es : Entries). of_pool es 9) (λ xs ys. refl) refl in
    let c10 = at (λ (es : Entries). of_pool es 10) (λ xs ys. refl) refl ∙ sum_none (nodes_from parcel next ds) in
    let c11 = at (λ (es : Entries). of_pool es 11) (λ xs ys. refl) refl ∙ sum_none (nodes_from parcel next ds) in
    let names : format_bytes c ≡ sum_by (λ (n : Node). length n.format) (nodes_from parcel next ds) = format_sum c ∙ ap (sum_by (λ (n : Node). length n.format)) e in
    let sent = flat_sum (brought_all parcel ds) in
    let count = takes_brought parcel ds in
    record {
      columns = omega (arith, c1);
      nodes = omega (arith, c2, t.nodes);
      bytes = omega (arith, c3, t.bytes, names, sent);
      shorts = omega (arith, c4, t.shorts);
      words = omega (arith, c5, t.words);
      longs = omega (arith, c6, t.longs);
      offsets = omega (arith, c7, t.offsets);
      views = omega (arith, c8, t.views);
      lists = omega (arith, c9, t.lists);
      buffers = omega (arith, c10, count);
      slip = omega (arith, c11);
    }

-- what an accepted parcel tells
pub record Told (p : Pools) (parcel : List ℕ) (ds : List Draft) (s : Shelf) : Type 0 where
  pub c : Column
  pub after : Shelf
  pub is_after : filed_on s (parcel_read s.buffers parcel) ≡ after
  pub listed : preorder c ≡ nodes_from parcel p.buffers.mark ds
  pub filled : AllByRecursion Filled ds
  pub column_room : Fit p.columns 1
  pub room : Fits p (takes_all parcel ds)
  pub taken : Entries
  pub takes : Taken taken (takes_all parcel ds)
  pub becomes : after ≡ with_column s c (s.buffers ++ brought_all parcel ds) taken

used_length : {X : Type 0} (p : Pool X) → Standing p → length (used p) ≡ p.mark
used_length p s = length-take-le p.mark p.lent.now s.fits

buffers_count : (bytes : List ℕ) (ps : List Part) → length (buffers_in bytes ps) ≡ length ps
buffers_count bytes ps = length-map ps (part_of bytes)

fit_by : {X : Type 0} (p : Pool X) (mark need n : ℕ) → mark ≡ p.mark → need ≡ n → (mark + need ≤ length p.lent.now) × (mark + need ≤ 1048576) → Fit p n
fit_by p mark need n a b h = let x = h.0 in let y = h.1 in record { lent = omega arith; capped = omega arith }

pub told : (p : Pools) (slip : ℕ) (s : Shelf) (parcel : List ℕ) (ds : List Draft) → Ready p → AllByRecursion (Drafted parcel) ds → Accepted p slip s parcel ds → Told p parcel ds s
told p slip s parcel ds ready a h =
    let o = h.outlined in
    let f : Found = o.f in
    let last : rules.Place = o.last in
    let lengths : Entries = entries (lengths_of p) ++ slip ∷ [] in
    let needs : Entries = filed_needs f.found (new_buffers s last) in
    let undenied : first_denial (file_checks lengths s f last) ≡ none = sym (ap (file_denial lengths s) o.is) ∙ h.undenied in
    let pass = passed (file_checks lengths s f last) undenied in
    let checked : Passed (checks_of parcel (length s.buffers) s.buffers 0 ds) =
    subst Passed o.traced.checked (passed_left f.checks ((13, full_pool lengths s.marks needs) ∷ []) pass) in
    let full : full_pool lengths s.marks needs ≡ none = (passed_right f.checks ((13, full_pool lengths s.marks needs) ∷ []) pass).0 in
    let filled = all_filled parcel (length s.buffers) s.buffers 0 ds a checked in
    let held : last.buffers ≡ s.buffers ++ brought_all parcel ds = o.traced.held ∙ held_are parcel s.buffers 0 ds a in
    let new : new_buffers s last ≡ brought_all parcel ds = ap (drop (length s.buffers)) held ∙ drop_at s.buffers (brought_all parcel ds) (length s.buffers) refl in
    let mark : (i : ℕ) → of_pool (map (of_pool s.marks) pools) i ≡ of_pool (counts (store p)) i = λ i. ap (λ (es : Entries). of_pool es i) h.shows.marks in
    let next : length s.buffers ≡ p.buffers.mark =
    sym (ap length h.shows.buffers.are) ∙ buffers_count (used p.bytes) (used p.buffers) ∙ used_length p.buffers ready.buffers in
    let listed : preorder f.found ≡ nodes_from parcel p.buffers.mark ds = o.traced.listed ∙ nodes_are parcel s.buffers 0 ds a ∙ ap (λ (n : ℕ). nodes_from parcel n ds) next in
    let takes : Taken needs (takes_all parcel ds) =
    subst (λ (bs : List (List ℕ)). Taken (filed_needs f.found bs) (takes_all parcel ds)) (sym new) (taken_is parcel p.buffers.mark ds f.found listed a filled) in
    let w : WithinPools lengths (plus s.marks needs) = room_for lengths s.marks needs full in
    let first : Fit p.columns 1 = fit_by p.columns (of_pool s.marks 1) (of_pool needs 1) 1 (mark 1 ∙ used_length p.columns ready.columns) takes.columns (w 0 (omega arith)) in
    record {
      c = f.found;
      after = filed_on s (reached f last);
      is_after = ap (filed_on s) o.is;
      listed = listed;
      filled = filled;
      column_room = first;
      room =
          record {
            columns = fit_less 1 (takes_all parcel ds).columns (let e = (all_take parcel p.buffers.mark ds a filled).columns in omega arith) first;
            nodes = fit_by p.nodes (of_pool s.marks 2) (of_pool needs 2) (takes_all parcel ds).nodes (mark 2 ∙ used_length p.nodes ready.nodes) takes.nodes (w 1 (omega arith));
            bytes = fit_by p.bytes (of_pool s.marks 3) (of_pool needs 3) (takes_all parcel ds).bytes (mark 3 ∙ used_length p.bytes ready.bytes) takes.bytes (w 2 (omega arith));
            shorts = fit_by p.shorts (of_pool s.marks 4) (of_pool needs 4) (takes_all parcel ds).shorts (mark 4 ∙ used_length p.shorts ready.shorts) takes.shorts (w 3 (omega arith));
            words = fit_by p.words (of_pool s.marks 5) (of_pool needs 5) (takes_all parcel ds).words (mark 5 ∙ used_length p.words ready.words) takes.words (w 4 (omega arith));
            longs = fit_by p.longs (of_pool s.marks 6) (of_pool needs 6) (takes_all parcel ds).longs (mark 6 ∙ used_length p.longs ready.longs) takes.longs (w 5 (omega arith));
            offsets = fit_by p.offsets (of_pool s.marks 7) (of_pool needs 7) (takes_all parcel ds).offsets (mark 7 ∙ used_length p.offsets ready.offsets) takes.offsets (w 6 (omega arith));
            views = fit_by p.views (of_pool s.marks 8) (of_pool needs 8) (takes_all parcel ds).views (mark 8 ∙ used_length p.views ready.views) takes.views (w 7 (omega arith));
            lists = fit_by p.lists (of_pool s.marks 9) (of_pool needs 9) (takes_all parcel ds).lists (mark 9 ∙ used_length p.lists ready.lists) takes.lists (w 8 (omega arith));
            buffers = fit_by p.buffers (of_pool s.marks 10) (of_pool needs 10) (takes_all parcel ds).buffers (mark 10 ∙ used_length p.buffers ready.buffers) takes.buffers (w 9 (omega arith));
          };
      taken = needs;
      takes = takes;
      becomes = ap (λ (bs : List (List ℕ)). with_column s f.found bs needs) held;
    }

-- sizes
mutual
  unfolding sizes_of sizes_each node_count nodes_below

  sizes_low : (c : Column) (n : ℕ) → node_count c ≤ n → AllByRecursion (λ (s : ℕ). s ≤ n) (sizes_of c)
  sizes_low (column x cs) n h = (h, each_low cs n (omega arith))

  each_low : (cs : Columns) (n : ℕ) → nodes_below cs ≤ n → AllByRecursion (λ (s : ℕ). s ≤ n) (sizes_each cs)
  each_low end n h = tt
  each_low (c & cs) n h = All-append (λ (s : ℕ). s ≤ n) (sizes_of c) (sizes_each cs) (sizes_low c n (omega arith)) (each_low cs n (omega arith))

counts_from : (parcel : List ℕ) (next : ℕ) (ds : List Draft) → map count_of (nodes_from parcel next ds) ≡ map children_in ds
unfolding nodes_from
counts_from parcel next [] = refl
counts_from parcel next (d ∷ ds) = ap (λ (l : List ℕ). d.head.children ∷ l) (counts_from parcel (next + length (brought_by parcel d)) ds)

pub spans_sizes : (p : Pools) (parcel : List ℕ) (ds : List Draft) (c : Column) → preorder c ≡ nodes_from parcel p.buffers.mark ds → spans_of (map children_in ds) ≡ sizes_of c
spans_sizes p parcel ds c e = ap spans_of (sym (counts_from parcel p.buffers.mark ds) ∙ sym (ap (map count_of) e)) ∙ spans_are c

pub spans_low : (p : Pools) (parcel : List ℕ) (ds : List Draft) (c : Column) → preorder c ≡ nodes_from parcel p.buffers.mark ds → length ds ≤ 256 → AllByRecursion (λ (s : ℕ). s ≤ 256) (spans_of (map children_in ds))
spans_low p parcel ds c e h =
    subst (AllByRecursion (λ (s : ℕ). s ≤ 256)) (sym (spans_sizes p parcel ds c e))
    (sizes_low c 256 (let l = sym (preorder_length c) ∙ ap length e ∙ nodes_length parcel p.buffers.mark ds in omega arith))

pub no_columns : (parcel : List ℕ) (ds : List Draft) → (takes_all parcel ds).columns ≡ 0
unfolding takes_all
no_columns parcel [] = refl
no_columns parcel (d ∷ ds) = let e = no_columns parcel ds in omega arith

-- the pools with one entry more for the column
abbrev pub with_columns : Pools → Pool ColumnEntry → Pools
with_columns p c = record { columns = c; nodes = p.nodes; bytes = p.bytes; shorts = p.shorts; words = p.words; longs = p.longs; offsets = p.offsets; views = p.views; lists = p.lists; buffers = p.buffers }

pub kept_column : (p : Pools) (c : Pool ColumnEntry) (e : ColumnEntry) → Ready p → Fit p.columns 1 → Gains p.columns (e ∷ []) c → Kept p (with_columns p c)
kept_column p c e r f g =
    record { columns = keeps_grown c f g; nodes = keeps_none r.nodes; bytes = keeps_none r.bytes; shorts = keeps_none r.shorts; words = keeps_none r.words; longs = keeps_none r.longs; offsets = keeps_none r.offsets; views = keeps_none r.views; lists = keeps_none r.lists; buffers = keeps_none r.buffers }

fit_rest : (p c : Pool ColumnEntry) (e : ColumnEntry) (n : ℕ) → n ≡ 0 → Fit p 1 → Gains p (e ∷ []) c → Fit c n
fit_rest p c e n z f g = let m = g.mark in let l = g.len in let a = f.lent in let b = f.capped in record { lent = omega arith; capped = omega arith }

pub fits_column : (p : Pools) (c : Pool ColumnEntry) (e : ColumnEntry) (m : Marks) → m.columns ≡ 0 → Fit p.columns 1 → Gains p.columns (e ∷ []) c → Fits p m → Fits (with_columns p c) m
fits_column p c e m z f g r =
    record { columns = fit_rest p.columns c e m.columns z f g; nodes = r.nodes; bytes = r.bytes; shorts = r.shorts; words = r.words; longs = r.longs; offsets = r.offsets; views = r.views; lists = r.lists; buffers = r.buffers }

-- the count of each pool, once all is stored
count_after : {X : Type 0} (p q : Pool X) (m n : ℕ) → Standing p → Standing q → q.mark ≡ p.mark + m → n ≡ m → length (used q) ≡ length (used p) + n
count_after p q m n a b e f = used_length q b ∙ e ∙ (let l = used_length p a in let z : p.mark + m ≡ length (used p) + n = omega arith in z)

entries_same : {a a' b b' c c' d d' e e' f f' g g' h h' i i' j j' k k' : ℕ} → a ≡ a' → b ≡ b' → c ≡ c' → d ≡ d' → e ≡ e' → f ≡ f' → g ≡ g' → h ≡ h' → i ≡ i' → j ≡ j' → k ≡ k'
    → a ∷ b ∷ c ∷ d ∷ e ∷ f ∷ g ∷ h ∷ i ∷ j ∷ k ∷ [] ≡ a' ∷ b' ∷ c' ∷ d' ∷ e' ∷ f' ∷ g' ∷ h' ∷ i' ∷ j' ∷ k' ∷ []
entries_same a b c d e f g h i j k = cc

pub shown : (p q : Pools) (c : Pool ColumnEntry) (s : Shelf) (parcel : List ℕ) (ds : List Draft) (t : Told p parcel ds s) → Ready p → Shows (store p) s → Gains p.columns (record { root = p.nodes.mark } ∷ []) c
    → Filed (with_columns p c) q parcel ds (spans_of (map children_in ds)) → (takes_all parcel ds).columns ≡ 0 → Shows (store q) (filed_on s (parcel_read s.buffers parcel))
shown p q c s parcel ds t ready shows g f z =
    let e : ColumnEntry = record { root = p.nodes.mark } in
    let kept : Kept p q = kept_then (kept_column p c e ready t.column_room g) f.kept in
    let after = ready_after kept in
    let mark = f.marks in
    let stored : Stored (store q) p.nodes.mark t.c =
    row_column (store q) p.nodes.mark t.c
    (subst (λ (l : List ℕ). Row (store q) p.nodes.mark (preorder t.c) l) (spans_sizes p parcel ds t.c t.listed)
    (subst (λ (l : List (Node × ℕ)). Row (store q) p.nodes.mark l (spans_of (map children_in ds))) (sym t.listed) f.row)) in
    let added : Added (store p) (store q) t.c f.new t.taken =
    record {
      extends = kept_extends kept;
      entry = e;
      columns = (grown_then g f.columns).used;
      stored = stored;
      buffers = f.parts.used;
      inside = f.inside;
      counted =
          entries_same
          (count_after p.columns q.columns 1 (of_pool t.taken 1) ready.columns after.columns (let a = ap (λ (m : Marks). m.columns) mark in let b = g.mark in omega arith) t.takes.columns)
          (count_after p.nodes q.nodes (takes_all parcel ds).nodes (of_pool t.taken 2) ready.nodes after.nodes (ap (λ (m : Marks). m.nodes) mark) t.takes.nodes)
          (count_after p.bytes q.bytes (takes_all parcel ds).bytes (of_pool t.taken 3) ready.bytes after.bytes (ap (λ (m : Marks). m.bytes) mark) t.takes.bytes)
          (count_after p.shorts q.shorts (takes_all parcel ds).shorts (of_pool t.taken 4) ready.shorts after.shorts (ap (λ (m : Marks). m.shorts) mark) t.takes.shorts)
          (count_after p.words q.words (takes_all parcel ds).words (of_pool t.taken 5) ready.words after.words (ap (λ (m : Marks). m.words) mark) t.takes.words)
          (count_after p.longs q.longs (takes_all parcel ds).longs (of_pool t.taken 6) ready.longs after.longs (ap (λ (m : Marks). m.longs) mark) t.takes.longs)
          (count_after p.offsets q.offsets (takes_all parcel ds).offsets (of_pool t.taken 7) ready.offsets after.offsets (ap (λ (m : Marks). m.offsets) mark) t.takes.offsets)
          (count_after p.views q.views (takes_all parcel ds).views (of_pool t.taken 8) ready.views after.views (ap (λ (m : Marks). m.views) mark) t.takes.views)
          (count_after p.lists q.lists (takes_all parcel ds).lists (of_pool t.taken 9) ready.lists after.lists (ap (λ (m : Marks). m.lists) mark) t.takes.lists)
          (count_after p.buffers q.buffers (takes_all parcel ds).buffers (of_pool t.taken 10) ready.buffers after.buffers (ap (λ (m : Marks). m.buffers) mark) t.takes.buffers)
          (let l = t.takes.slip in omega arith);
    } in
    subst (Shows (store q))
    (ap (λ (bs : List (List ℕ)). with_column s t.c (s.buffers ++ bs) t.taken) f.are ∙ sym t.becomes ∙ sym t.is_after)
    (shows_added added shows)
