-- What a filed column needs is what its drafts take.
use Rattle.std.proofs.Common.{◌≡◌, ℕ, ◌+◌, ◌*◌, List, [], ◌∷◌, ◌++◌, map, length, Some, None, Option, sym, refl, ap, ◌∙◌, subst, ap₂, add_assoc, zero-add, arith, length-append}
use mathlib.Core.Option.{some, none}
use Rattle.std.specs.List.{AllByRecursion}
use Rattle.formats.specs.declared.format.Width.TheVariants.{One, Two, Four, Eight}
use Rattle.formats.specs.declared.kind.Kind.{Kind}
use Rattle.formats.specs.declared.kind.Kind.TheVariants.{Primitive, Boolean, Text, View, Map, Struct, RunEnds, FixedList}
use Rattle.formats.specs.declared.kind.Kind.TheVariants.{List as ListOf}
use Rattle.formats.specs.Kinds.{layout, offset_width}
use Rattle.columns.specs.Says.{slice}
use Rattle.columns.specs.Format.{offset_bytes}
use Rattle.columns.specs.Kinds as rules_format
use Rattle.columns.specs.Column.{Node, Column, Columns, column, end, ◌&◌, bytes_for}
use Rattle.columns.specs.Pools.{Entries, of_pool, plus, of_width, node_needs, column_needs, columns_need, format_bytes, formats_bytes, sum_of}
use Rattle.columns.specs.Contents.{value_at, node_from}
use Rattle.columns.specs.Contents as rules_contents
use Rattle.columns.specs.Heads as rules_heads
use Rattle.pools.specs.declared.records.Part.{Part}
use Rattle.parcels.specs.declared.draft.Draft.{Draft}
use Rattle.parcels.specs.declared.draft.Parts.{Parts}
use Rattle.parcels.specs.Reads.{within, Within, mask_of, sent_of}
use Rattle.parcels.specs.Lent.{data_from}
use Rattle.parcels.specs.Drafts.{Drafted, node_in, kind_in, head_in, preorder, preorders}
use Rattle.filing.specs.Lent.{flat}
use Rattle.filing.specs.Masks.{mask_len}
use Rattle.filing.specs.Plans.{plan_of}
use Rattle.filing.specs.News.{brought_by}
use Rattle.soundness.specs.Sizes.{MaskFilled, Filled, body_by}
use Rattle.filing.specs.Filed.{takes_all, nodes_from, brought_all}
use Rattle.filing.proofs.Fitting.{part_length, count_length, data_length}

-- a sum over nodes
abbrev pub sum_by : (Node → ℕ) → List (Node × ℕ) → ℕ
sum_by f [] = 0
sum_by f (n ∷ ns) = f n.0 + sum_by f ns

sum_append : (f : Node → ℕ) (ns ms : List (Node × ℕ)) → sum_by f (ns ++ ms) ≡ sum_by f ns + sum_by f ms
sum_append f [] ms = sym (zero-add (sum_by f ms))
sum_append f (n ∷ ns) ms = ap (λ (k : ℕ). f n.0 + k) (sum_append f ns ms) ∙ sym (add_assoc (f n.0) (sum_by f ns) (sum_by f ms))

-- one pool's number of what columns need, by their nodes
module _ (pool : Entries → ℕ) (adds : (xs ys : Entries) → pool (plus xs ys) ≡ pool xs + pool ys) (empty : pool [] ≡ 0) where
  mutual
    unfolding column_needs columns_need preorder preorders

    pub column_sum : (c : Column) → pool (column_needs c) ≡ sum_by (λ (n : Node). pool (node_needs n)) (preorder c)
    column_sum (column n cs) = adds (node_needs n) (columns_need cs) ∙ ap (λ (k : ℕ). pool (node_needs n) + k) (columns_sum cs)

    columns_sum : (cs : Columns) → pool (columns_need cs) ≡ sum_by (λ (n : Node). pool (node_needs n)) (preorders cs)
    columns_sum end = empty
    columns_sum (c & cs) =
        adds (column_needs c) (columns_need cs) ∙ ap₂ (λ (a b : ℕ). a + b) (column_sum c) (columns_sum cs) ∙ sym (sum_append (λ (n : Node). pool (node_needs n)) (preorder c) (preorders cs))

mutual
  unfolding format_bytes formats_bytes preorder preorders

  pub format_sum : (c : Column) → format_bytes c ≡ sum_by (λ (n : Node). length n.format) (preorder c)
  format_sum (column n cs) = ap (λ (k : ℕ). length n.format + k) (formats_sum cs)

  formats_sum : (cs : Columns) → formats_bytes cs ≡ sum_by (λ (n : Node). length n.format) (preorders cs)
  formats_sum end = refl
  formats_sum (c & cs) = ap₂ (λ (a b : ℕ). a + b) (format_sum c) (formats_sum cs) ∙ sym (sum_append (λ (n : Node). length n.format) (preorder c) (preorders cs))

pub flat_sum : (bs : List (List ℕ)) → length (flat bs) ≡ sum_of (map length bs)
flat_sum [] = refl
flat_sum (b ∷ bs) = length-append b (flat bs) ∙ ap (λ (k : ℕ). length b + k) (flat_sum bs)

pub flat_append_length : (bs cs : List (List ℕ)) → length (flat (bs ++ cs)) ≡ length (flat bs) + length (flat cs)
flat_append_length [] cs = sym (zero-add (length (flat cs)))
flat_append_length (b ∷ bs) cs =
    length-append b (flat (bs ++ cs)) ∙ (let e = flat_append_length bs cs in let l = length-append b (flat bs) in let z : length b + length (flat (bs ++ cs)) ≡ length (b ++ flat bs) + length (flat cs) = omega arith in z)

-- what one node needs
record NodeTakes (K : rules_format.Kind) (n : Node) (x : Parts) (rows : ℕ) (k : Kind) : Type 0 where
  pub plain : bytes_for (length n.bits) + of_width 1 K n + length n.text ≡ (plan_of k x rows).plain.len
  pub shorts : of_width 2 K n ≡ (plan_of k x rows).shorts
  pub words : of_width 4 K n ≡ (plan_of k x rows).words
  pub longs : of_width 8 K n ≡ (plan_of k x rows).longs
  pub offsets : length n.offsets ≡ (plan_of k x rows).offsets
  pub views : length n.views ≡ (plan_of k x rows).views
  pub lists : length n.buffers ≡ (plan_of k x rows).list.len

node_takes : (parcel : List ℕ) (k : Kind) (x : Parts) (h : rules_heads.Head) (next : ℕ) → Within parcel x.text → x.body.len ≡ body_by (layout k) (offset_width k) h.rows
    → NodeTakes (layout k) (node_from (layout k) h (sent_of parcel x (data_from parcel x.lent.start next x.lent.len))) x h.rows k
node_takes parcel (Primitive One) x h next t f = record { plain = (let c = count_length (value_at 1 (within parcel x.body)) h.rows in omega arith); shorts = refl; words = refl; longs = refl; offsets = refl; views = refl; lists = refl }
node_takes parcel (Primitive Two) x h next t f = record { plain = refl; shorts = count_length (value_at 2 (within parcel x.body)) h.rows; words = refl; longs = refl; offsets = refl; views = refl; lists = refl }
node_takes parcel (Primitive Four) x h next t f = record { plain = refl; shorts = refl; words = count_length (value_at 4 (within parcel x.body)) h.rows; longs = refl; offsets = refl; views = refl; lists = refl }
node_takes parcel (Primitive Eight) x h next t f = record { plain = refl; shorts = refl; words = refl; longs = count_length (value_at 8 (within parcel x.body)) h.rows; offsets = refl; views = refl; lists = refl }
node_takes parcel Boolean x h next t f = record { plain = (let c = ap bytes_for (count_length (rules_contents.bit_at (within parcel x.body)) h.rows) in omega arith); shorts = refl; words = refl; longs = refl; offsets = refl; views = refl; lists = refl }
node_takes parcel (Text wide) x h next t f = record { plain = (let c = part_length parcel x.text t in omega arith); shorts = refl; words = refl; longs = refl; offsets = count_length (value_at (offset_bytes h.format) (within parcel x.body)) (h.rows + 1); views = refl; lists = refl }
node_takes parcel View x h next t f = record { plain = refl; shorts = refl; words = refl; longs = refl; offsets = refl; views = count_length (λ (i : ℕ). rules_contents.view_in (slice (within parcel x.body) (16 * i) 16)) h.rows; lists = data_length parcel x.lent.start next x.lent.len }
node_takes parcel (ListOf wide) x h next t f = record { plain = refl; shorts = refl; words = refl; longs = refl; offsets = count_length (value_at (offset_bytes h.format) (within parcel x.body)) (h.rows + 1); views = refl; lists = refl }
node_takes parcel Map x h next t f = record { plain = refl; shorts = refl; words = refl; longs = refl; offsets = count_length (value_at (offset_bytes h.format) (within parcel x.body)) (h.rows + 1); views = refl; lists = refl }
node_takes parcel Struct x h next t f = record { plain = refl; shorts = refl; words = refl; longs = refl; offsets = refl; views = refl; lists = refl }
node_takes parcel RunEnds x h next t f = record { plain = refl; shorts = refl; words = refl; longs = refl; offsets = refl; views = refl; lists = refl }
node_takes parcel (FixedList size) x h next t f = record { plain = refl; shorts = refl; words = refl; longs = refl; offsets = refl; views = refl; lists = refl }

draft_takes : (parcel : List ℕ) (d : Draft) (next : ℕ) → Drafted parcel d → Filled d
    → NodeTakes (kind_in parcel d) (node_in parcel d (data_from parcel d.parts.lent.start next d.parts.lent.len)) d.parts d.head.rows d.kind
draft_takes parcel d next h f =
    subst (λ (K : rules_format.Kind). NodeTakes K (node_from K (head_in parcel d) (sent_of parcel d.parts (data_from parcel d.parts.lent.start next d.parts.lent.len))) d.parts d.head.rows d.kind) h.layout
    (node_takes parcel d.kind d.parts (head_in parcel d) next h.parts.text f.body)

mask_takes : (parcel : List ℕ) (m : Option Part) (rows : ℕ) → MaskFilled rows m → elim (rules_contents.mask_in rows (mask_of parcel m)) [ none ↦ 0 | some bs ↦ bytes_for (length bs) ] ≡ mask_len m
mask_takes parcel None rows f = refl
mask_takes parcel (Some p) rows f = ap bytes_for (count_length (rules_contents.bit_at (within parcel p)) rows) ∙ sym f

-- all drafts
pub record AllTake (parcel : List ℕ) (next : ℕ) (ds : List Draft) : Type 0 where
  pub nodes : sum_by (λ (n : Node). 1) (nodes_from parcel next ds) ≡ (takes_all parcel ds).nodes
  pub bytes :
      sum_by (λ (n : Node). of_pool (node_needs n) 3) (nodes_from parcel next ds) + sum_by (λ (n : Node). length n.format) (nodes_from parcel next ds) + length (flat (brought_all parcel ds))
      ≡ (takes_all parcel ds).bytes
  pub shorts : sum_by (λ (n : Node). of_pool (node_needs n) 4) (nodes_from parcel next ds) ≡ (takes_all parcel ds).shorts
  pub words : sum_by (λ (n : Node). of_pool (node_needs n) 5) (nodes_from parcel next ds) ≡ (takes_all parcel ds).words
  pub longs : sum_by (λ (n : Node). of_pool (node_needs n) 6) (nodes_from parcel next ds) ≡ (takes_all parcel ds).longs
  pub offsets : sum_by (λ (n : Node). of_pool (node_needs n) 7) (nodes_from parcel next ds) ≡ (takes_all parcel ds).offsets
  pub views : sum_by (λ (n : Node). of_pool (node_needs n) 8) (nodes_from parcel next ds) ≡ (takes_all parcel ds).views
  pub lists : sum_by (λ (n : Node). of_pool (node_needs n) 9) (nodes_from parcel next ds) ≡ (takes_all parcel ds).lists
  pub columns : (takes_all parcel ds).columns ≡ 0

pub all_take : (parcel : List ℕ) (next : ℕ) (ds : List Draft) → AllByRecursion (Drafted parcel) ds → AllByRecursion Filled ds → AllTake parcel next ds
unfolding nodes_from takes_all brought_all
all_take parcel next [] a f = record { nodes = refl; bytes = refl; shorts = refl; words = refl; longs = refl; offsets = refl; views = refl; lists = refl; columns = refl }
all_take parcel next (d ∷ ds) a f =
    let r = all_take parcel (next + length (brought_by parcel d)) ds a.1 f.1 in
    let t = draft_takes parcel d next a.0 f.0 in
    let m = mask_takes parcel d.parts.mask d.head.rows f.0.mask in
    let l = part_length parcel d.head.format a.0.head in
    let z = flat_append_length (brought_by parcel d) (brought_all parcel ds) in
    record {
      nodes = ap (λ (k : ℕ). 1 + k) r.nodes;
      bytes = (let p = t.plain in let q = r.bytes in omega arith);
      shorts = ap₂ (λ (a b : ℕ). a + b) t.shorts r.shorts;
      words = ap₂ (λ (a b : ℕ). a + b) t.words r.words;
      longs = ap₂ (λ (a b : ℕ). a + b) t.longs r.longs;
      offsets = ap₂ (λ (a b : ℕ). a + b) t.offsets r.offsets;
      views = ap₂ (λ (a b : ℕ). a + b) t.views r.views;
      lists = ap₂ (λ (a b : ℕ). a + b) t.lists r.lists;
      columns = (let e = r.columns in omega arith);
    }
