-- What drafts need is what the column that they outline needs.
use Rattle.std.proofs.Common.{◌≡◌, ℕ, zero, suc, ◌+◌, ◌-◌, ◌<◌, List, [], ◌∷◌, ◌++◌, map, length, get_or, drop, Some, None, Option, sym, refl, ap, ◌∙◌, arith}
use mathlib.Core.Option as math
use Rattle.std.specs.List.{AllByRecursion}
use Rattle.std.proofs.lemmas.List.{append_assoc, append-nil, length-append, length-map, map-append, get_or-map, drop_at}
use Rattle.columns.specs.Format.{offset_bytes}
use Rattle.columns.specs.Kinds.{Kind}
use Rattle.columns.specs.Column.{Node, Column, Columns, column, end, ◌&◌, bytes_for}
use Rattle.columns.specs.Says.{span}
use Rattle.columns.specs.Pools.{Entries, plus, sum_of, node_needs, column_needs, columns_need, format_bytes, formats_bytes, filed_needs, one_column, of_width, mask_bytes}
use Rattle.columns.specs.Sent.{Data, number_of}
use Rattle.columns.specs.Contents.{values_in, views_in, bits_in, mask_in, contents, node_from}
use Rattle.columns.specs.Heads as rules_heads
use Rattle.columns.specs.Sent as rules_sent
use Rattle.pools.specs.declared.records.Part.{Part}
use Rattle.formats.specs.declared.format.Width.{Width}
use Rattle.formats.specs.declared.format.Width.TheVariants.{One, Two, Four, Eight}
use Rattle.formats.specs.declared.kind.Kind.{Kind as Code}
use Rattle.formats.specs.declared.kind.Kind.TheVariants.{Primitive, Boolean, Text, View, Map, Struct, RunEnds, FixedList}
use Rattle.formats.specs.declared.kind.Kind.TheVariants.{List as ListOf}
use Rattle.formats.specs.Kinds.{layout}
use Rattle.parcels.specs.declared.draft.Draft.{Draft}
use Rattle.parcels.specs.Reads.{mask_of, within, sent_of}
use Rattle.parcels.specs.Lent.{brought_from}
use Rattle.parcels.specs.Drafts.{Drafted, head_in, node_in, lent_of, held_after, nodes_of, held_of, preorder, preorders}
use Rattle.admission.specs.Needs.{mask_need, new_count, new_bytes, kind_entries, draft_entries, drafts_need}
use Rattle.soundness.proofs.Fills.{length_within}
use Rattle.soundness.proofs.Falls.{length_values, length_bits, get_or_span}
use Rattle.soundness.proofs.Finding.{length_views}
use Rattle.soundness.proofs.Held.{length_data}
use Rattle.soundness.proofs.Rungs.{lent_flat, held_flat}
use Rattle.admission.proofs.Counting.{plus_assoc}

-- what a filed node needs besides
abbrev extra : (bytes buffers : ℕ) → Entries
extra b n = 0 ∷ 0 ∷ b ∷ 0 ∷ 0 ∷ 0 ∷ 0 ∷ 0 ∷ 0 ∷ n ∷ []

extra_adds : (k b c m n : ℕ) → get_or (extra (b + c) (m + n)) k 0 ≡ get_or (extra b m) k 0 + get_or (extra c n) k 0
extra_adds zero b c m n = refl
extra_adds (suc zero) b c m n = refl
extra_adds (suc (suc zero)) b c m n = refl
extra_adds (suc (suc (suc zero))) b c m n = refl
extra_adds (suc (suc (suc (suc zero)))) b c m n = refl
extra_adds (suc (suc (suc (suc (suc zero))))) b c m n = refl
extra_adds (suc (suc (suc (suc (suc (suc zero)))))) b c m n = refl
extra_adds (suc (suc (suc (suc (suc (suc (suc zero))))))) b c m n = refl
extra_adds (suc (suc (suc (suc (suc (suc (suc (suc zero)))))))) b c m n = refl
extra_adds (suc (suc (suc (suc (suc (suc (suc (suc (suc zero))))))))) b c m n = refl
extra_adds (suc (suc (suc (suc (suc (suc (suc (suc (suc (suc k)))))))))) b c m n = refl

extra_none : (k : ℕ) → get_or (extra 0 0) k 0 ≡ 0
extra_none zero = refl
extra_none (suc zero) = refl
extra_none (suc (suc zero)) = refl
extra_none (suc (suc (suc zero))) = refl
extra_none (suc (suc (suc (suc zero)))) = refl
extra_none (suc (suc (suc (suc (suc zero))))) = refl
extra_none (suc (suc (suc (suc (suc (suc zero)))))) = refl
extra_none (suc (suc (suc (suc (suc (suc (suc zero))))))) = refl
extra_none (suc (suc (suc (suc (suc (suc (suc (suc zero)))))))) = refl
extra_none (suc (suc (suc (suc (suc (suc (suc (suc (suc zero))))))))) = refl
extra_none (suc (suc (suc (suc (suc (suc (suc (suc (suc (suc k)))))))))) = refl

plus_at : (xs ys : Entries) (k : ℕ) → k < 11 → get_or (plus xs ys) k 0 ≡ get_or xs k 0 + get_or ys k 0
plus_at xs ys k h =
    let f : ℕ → ℕ = λ pool. get_or xs (pool - 1) 0 + get_or ys (pool - 1) 0 in
    get_or-map f (span 1 11) k 0 0 h ∙ ap f (get_or_span 1 11 k h) ∙ ap (λ (j : ℕ). get_or xs j 0 + get_or ys j 0) (let e : 1 + k - 1 ≡ k = omega arith in e)

plus_same : (a b c : Entries) → ((k : ℕ) → k < 11 → get_or b k 0 ≡ get_or c k 0) → plus a b ≡ plus a c
plus_same a b c h =
    let e₀ = h 0 (omega arith) in
    let e₁ = h 1 (omega arith) in
    let e₂ = h 2 (omega arith) in
    let e₃ = h 3 (omega arith) in
    let e₄ = h 4 (omega arith) in
    let e₅ = h 5 (omega arith) in
    let e₆ = h 6 (omega arith) in
    let e₇ = h 7 (omega arith) in
    let e₈ = h 8 (omega arith) in
    let e₉ = h 9 (omega arith) in
    let e₁₀ = h 10 (omega arith) in
    cc

-- of a draft
module _ (parcel : List ℕ) (d : Draft) (g : Drafted parcel d) (ds : List Data) (l : length ds ≡ d.parts.lent.len) where
  abbrev h : rules_heads.Head
  h = head_in parcel d

  abbrev s : rules_sent.Sent
  s = sent_of parcel d.parts ds

  abbrev r : ℕ
  r = d.head.rows

  abbrev M : ℕ
  M = mask_bytes (node_in parcel d ds)

  mask_by : (m : Option Part) → elim (mask_in r (mask_of parcel m)) [ math.none ↦ 0 | math.some bs ↦ bytes_for (length bs) ] ≡ mask_need m r
  mask_by None = refl
  mask_by (Some p) = ap bytes_for (length_bits r (within parcel p))

  mask_is : M ≡ mask_need d.parts.mask r
  mask_is = mask_by d.parts.mask

  abbrev by : Kind → Entries
  by K =
      0 ∷ 1 ∷ (M + bytes_for (length (contents K h s).bits) + of_width 1 K (node_from K h s) + length (contents K h s).text)
      ∷ of_width 2 K (node_from K h s) ∷ of_width 4 K (node_from K h s) ∷ of_width 8 K (node_from K h s)
      ∷ length (contents K h s).offsets ∷ length (contents K h s).views ∷ length (contents K h s).buffers ∷ 0 ∷ []

  module _ (F N : ℕ) where
    abbrev base : ℕ
    base = M + F

    width_is : (w : Width) → kind_entries (Primitive w) base r d.parts.text.len d.parts.lent.len N ≡ plus (by (layout (Primitive w))) (extra F N)
    width_is One = let v = length_values 1 r (within parcel d.parts.body) in let e : M + F + r ≡ M + 0 + length (values_in 1 r (within parcel d.parts.body)) + 0 + F = omega arith in let n : N ≡ 0 + N = omega arith in cc
    width_is Two = let v = length_values 2 r (within parcel d.parts.body) in let w : r ≡ length (values_in 2 r (within parcel d.parts.body)) + 0 = omega arith in let e : M + F ≡ M + 0 + 0 + 0 + F = omega arith in let n : N ≡ 0 + N = omega arith in cc
    width_is Four = let v = length_values 4 r (within parcel d.parts.body) in let w : r ≡ length (values_in 4 r (within parcel d.parts.body)) + 0 = omega arith in let e : M + F ≡ M + 0 + 0 + 0 + F = omega arith in let n : N ≡ 0 + N = omega arith in cc
    width_is Eight = let v = length_values 8 r (within parcel d.parts.body) in let w : r ≡ length (values_in 8 r (within parcel d.parts.body)) + 0 = omega arith in let e : M + F ≡ M + 0 + 0 + 0 + F = omega arith in let n : N ≡ 0 + N = omega arith in cc

    plain_is : 0 ∷ 1 ∷ base ∷ 0 ∷ 0 ∷ 0 ∷ 0 ∷ 0 ∷ 0 ∷ N ∷ 0 ∷ [] ≡ plus (0 ∷ 1 ∷ (M + 0 + 0 + 0) ∷ 0 ∷ 0 ∷ 0 ∷ 0 ∷ 0 ∷ 0 ∷ 0 ∷ []) (extra F N)
    plain_is = let e : M + F ≡ M + 0 + 0 + 0 + F = omega arith in let n : N ≡ 0 + N = omega arith in cc

    offsets_is : (w t : ℕ) → 0 ∷ 1 ∷ (base + t) ∷ 0 ∷ 0 ∷ 0 ∷ (r + 1) ∷ 0 ∷ 0 ∷ N ∷ 0 ∷ []
        ≡ plus (0 ∷ 1 ∷ (M + 0 + 0 + t) ∷ 0 ∷ 0 ∷ 0 ∷ length (values_in w (r + 1) (within parcel d.parts.body)) ∷ 0 ∷ 0 ∷ 0 ∷ []) (extra F N)
    offsets_is w t =
        let v = length_values w (r + 1) (within parcel d.parts.body) in
        let o : r + 1 ≡ length (values_in w (r + 1) (within parcel d.parts.body)) + 0 = omega arith in
        let e : M + F + t ≡ M + 0 + 0 + t + F = omega arith in
        let n : N ≡ 0 + N = omega arith in
        cc

    lists_is : (w : ℕ) → 0 ∷ 1 ∷ base ∷ 0 ∷ 0 ∷ 0 ∷ (r + 1) ∷ 0 ∷ 0 ∷ N ∷ 0 ∷ []
        ≡ plus (0 ∷ 1 ∷ (M + 0 + 0 + 0) ∷ 0 ∷ 0 ∷ 0 ∷ length (values_in w (r + 1) (within parcel d.parts.body)) ∷ 0 ∷ 0 ∷ 0 ∷ []) (extra F N)
    lists_is w = ap (λ (x : ℕ). 0 ∷ 1 ∷ x ∷ 0 ∷ 0 ∷ 0 ∷ (r + 1) ∷ 0 ∷ 0 ∷ N ∷ 0 ∷ []) (let e : M + F ≡ M + F + 0 = omega arith in e) ∙ offsets_is w 0

    kind_is : (K : Code) → kind_entries K base r (length (within parcel d.parts.text)) (length ds) N ≡ plus (by (layout K)) (extra F N)
    kind_is (Primitive w) = width_is w
    kind_is Boolean =
        let v = length_bits r (within parcel d.parts.body) in
        let b : bytes_for r ≡ bytes_for (length (bits_in r (within parcel d.parts.body))) = ap bytes_for (sym v) in
        let e : M + F + bytes_for r ≡ M + bytes_for (length (bits_in r (within parcel d.parts.body))) + 0 + 0 + F = omega (arith, b) in
        let n : N ≡ 0 + N = omega arith in
        cc
    kind_is (Text wide) = offsets_is (offset_bytes h.format) (length (within parcel d.parts.text))
    kind_is View =
        let v = length_views r (within parcel d.parts.body) in
        let w : r ≡ length (views_in r (within parcel d.parts.body)) + 0 = omega arith in
        let u = length-map ds number_of in
        let x : length ds ≡ length (map number_of ds) + 0 = omega arith in
        let e : M + F ≡ M + 0 + 0 + 0 + F = omega arith in
        let n : N ≡ 0 + N = omega arith in
        cc
    kind_is (ListOf wide) = lists_is (offset_bytes h.format)
    kind_is Map = lists_is (offset_bytes h.format)
    kind_is Struct = plain_is
    kind_is RunEnds = plain_is
    kind_is (FixedList size) = plain_is

  abbrev F : ℕ
  F = d.head.format.len + new_bytes parcel d.parts.lent

  pub draft_is : draft_entries parcel d ≡ plus (node_needs (node_in parcel d ds)) (extra (length (within parcel d.head.format) + new_bytes parcel d.parts.lent) (new_count parcel d.parts.lent))
  draft_is =
      let N : ℕ = new_count parcel d.parts.lent in
      let b : mask_need d.parts.mask r + d.head.format.len + new_bytes parcel d.parts.lent ≡ M + F = omega (arith, mask_is) in
      ap (λ (x : ℕ). kind_entries d.kind x r d.parts.text.len d.parts.lent.len N) b
      ∙ ap (λ (x : ℕ). kind_entries d.kind (M + F) r x d.parts.lent.len N) (sym (length_within parcel d.parts.text g.parts.text))
      ∙ ap (λ (x : ℕ). kind_entries d.kind (M + F) r (length (within parcel d.parts.text)) x N) (sym l)
      ∙ kind_is F N d.kind
      ∙ ap (λ (K : Kind). plus (by K) (extra F N)) g.layout
      ∙ ap (λ (x : ℕ). plus (node_needs (node_in parcel d ds)) (extra (x + new_bytes parcel d.parts.lent) N)) (sym (length_within parcel d.head.format g.head))

-- sums
sum_append : (xs ys : List ℕ) → sum_of (xs ++ ys) ≡ sum_of xs + sum_of ys
sum_append [] ys = omega arith
sum_append (x ∷ xs) ys = let e = sum_append xs ys in omega arith

sums_append : {X : Type 0} (f : X → ℕ) (xs ys : List X) → sum_of (map f (xs ++ ys)) ≡ sum_of (map f xs) + sum_of (map f ys)
sums_append f xs ys = ap sum_of (map-append f xs ys) ∙ sum_append (map f xs) (map f ys)

-- what the nodes of a list need of a pool, and the bytes of their formats
abbrev need_at : ℕ → Node × ℕ → ℕ
need_at k x = get_or (node_needs x.0) k 0

abbrev format_at : Node × ℕ → ℕ
format_at x = length x.0.format

mutual
  unfolding column_needs preorder

  column_sum : (c : Column) (k : ℕ) → k < 11 → get_or (column_needs c) k 0 ≡ sum_of (map (need_at k) (preorder c))
  column_sum (column n cs) k h = plus_at (node_needs n) (columns_need cs) k h ∙ ap (λ (x : ℕ). get_or (node_needs n) k 0 + x) (columns_sum cs k h)

  columns_sum : (cs : Columns) (k : ℕ) → k < 11 → get_or (columns_need cs) k 0 ≡ sum_of (map (need_at k) (preorders cs))
  columns_sum end k h = refl
  columns_sum (c & cs) k h =
      let a = column_sum c k h in
      let b = columns_sum cs k h in
      plus_at (column_needs c) (columns_need cs) k h ∙ omega (arith, a, b, sums_append (need_at k) (preorder c) (preorders cs))

mutual
  unfolding format_bytes preorder

  format_sum : (c : Column) → format_bytes c ≡ sum_of (map format_at (preorder c))
  format_sum (column n cs) = ap (λ (x : ℕ). length n.format + x) (formats_sum cs)

  formats_sum : (cs : Columns) → formats_bytes cs ≡ sum_of (map format_at (preorders cs))
  formats_sum end = refl
  formats_sum (c & cs) = let a = format_sum c in let b = formats_sum cs in omega (arith, a, b, sums_append format_at (preorder c) (preorders cs))

-- the data buffers that drafts bring
unfoldable pub new_of : List ℕ → List Draft → List (List ℕ)
new_of parcel [] = []
new_of parcel (d ∷ D) = brought_from parcel d.parts.lent.start d.parts.lent.len ++ new_of parcel D

module _ (parcel : List ℕ) where
  pub held_new : (D : List Draft) (bs : List (List ℕ)) (n : ℕ) → AllByRecursion (Drafted parcel) D → held_of parcel bs n D ≡ bs ++ new_of parcel D
  unfolding held_of new_of
  held_new [] bs n g = sym (append-nil bs)
  held_new (d ∷ D) bs n g =
      held_new D (held_after parcel bs n d) (n + 1) g.1
      ∙ ap (λ (l : List (List ℕ)). l ++ new_of parcel D) (held_flat parcel bs n d g.0)
      ∙ append_assoc bs (brought_from parcel d.parts.lent.start d.parts.lent.len) (new_of parcel D)

  abbrev extras : List (Node × ℕ) → List (List ℕ) → Entries
  extras nodes new = extra (sum_of (map format_at nodes) + sum_of (map length new)) (length new)

  drafts_sum : (D : List Draft) (bs : List (List ℕ)) (n k : ℕ) → k < 11 → AllByRecursion (Drafted parcel) D
      → get_or (drafts_need parcel D) k 0 ≡ sum_of (map (need_at k) (nodes_of parcel bs n D)) + get_or (extras (nodes_of parcel bs n D) (new_of parcel D)) k 0
  unfolding drafts_need nodes_of new_of
  drafts_sum [] bs n k h g = sym (extra_none k) ∙ (let e : get_or (extra 0 0) k 0 ≡ 0 + get_or (extra 0 0) k 0 = omega arith in e)
  drafts_sum (d ∷ D) bs n k h g =
      let ds : List Data = lent_of parcel bs n d in
      let x : Node × ℕ = (node_in parcel d ds, d.head.children) in
      let rest : List (Node × ℕ) = nodes_of parcel (held_after parcel bs n d) (n + 1) D in
      let b : List (List ℕ) = brought_from parcel d.parts.lent.start d.parts.lent.len in
      let l : length ds ≡ d.parts.lent.len = ap length (lent_flat parcel bs n d g.0) ∙ length_data parcel d.parts.lent.len d.parts.lent.start (length bs) in
      let own : get_or (draft_entries parcel d) k 0 ≡ need_at k x + get_or (extra (format_at x + sum_of (map length b)) (length b)) k 0 =
      ap (λ (es : Entries). get_or es k 0) (draft_is parcel d g.0 ds l) ∙ plus_at (node_needs (node_in parcel d ds)) (extra (format_at x + sum_of (map length b)) (length b)) k h in
      let more = drafts_sum D (held_after parcel bs n d) (n + 1) k h g.1 in
      let both : get_or (extras (x ∷ rest) (b ++ new_of parcel D)) k 0 ≡ get_or (extra (format_at x + sum_of (map length b)) (length b)) k 0 + get_or (extras rest (new_of parcel D)) k 0 =
      ap (λ (m : ℕ). get_or (extra m (length (b ++ new_of parcel D))) k 0)
      (let e = sums_append length b (new_of parcel D) in
      let z : format_at x + sum_of (map format_at rest) + sum_of (map length (b ++ new_of parcel D)) ≡ format_at x + sum_of (map length b) + (sum_of (map format_at rest) + sum_of (map length (new_of parcel D))) = omega arith in z)
      ∙ ap (λ (m : ℕ). get_or (extra (format_at x + sum_of (map length b) + (sum_of (map format_at rest) + sum_of (map length (new_of parcel D)))) m) k 0) (length-append b (new_of parcel D))
      ∙ extra_adds k (format_at x + sum_of (map length b)) (sum_of (map format_at rest) + sum_of (map length (new_of parcel D))) (length b) (length (new_of parcel D)) in
      plus_at (draft_entries parcel d) (drafts_need parcel D) k h ∙ omega (arith, own, more, both)

  -- what the drafts need is what the column needs
  pub needs_are : (D : List Draft) (shelved last : List (List ℕ)) (c : Column) → AllByRecursion (Drafted parcel) D → preorder c ≡ nodes_of parcel shelved 0 D → last ≡ held_of parcel shelved 0 D
      → plus one_column (drafts_need parcel D) ≡ filed_needs c (drop (length shelved) last)
  needs_are D shelved last c g p q =
      let new : List (List ℕ) = drop (length shelved) last in
      let X : Entries = extra (format_bytes c + sum_of (map length new)) (length new) in
      let n : new ≡ new_of parcel D = ap (drop (length shelved)) (q ∙ held_new D shelved 0 g) ∙ drop_at shelved (new_of parcel D) (length shelved) refl in
      let at : (k : ℕ) → k < 11 → get_or (drafts_need parcel D) k 0 ≡ get_or (plus (column_needs c) X) k 0 = λ k h.
      drafts_sum D shelved 0 k h g
      ∙ ap (λ (l : List (Node × ℕ)). sum_of (map (need_at k) l) + get_or (extras l (new_of parcel D)) k 0) (sym p)
      ∙ ap (λ (b : List (List ℕ)). sum_of (map (need_at k) (preorder c)) + get_or (extras (preorder c) b) k 0) (sym n)
      ∙ ap (λ (m : ℕ). sum_of (map (need_at k) (preorder c)) + get_or (extra (m + sum_of (map length new)) (length new)) k 0) (sym (format_sum c))
      ∙ ap (λ (m : ℕ). m + get_or X k 0) (sym (column_sum c k h))
      ∙ sym (plus_at (column_needs c) X k h) in
      plus_same one_column (drafts_need parcel D) (plus (column_needs c) X) at
      ∙ sym (plus_assoc one_column (column_needs c) X)
