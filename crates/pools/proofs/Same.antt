-- A place stores at most one column, but for spare bits.
use Rattle.std.proofs.Common.{◌≡◌, ℕ, ◌+◌, ◌<◌, Bool, false, List, [], Some, None, Option as Maybe, sym, refl, ap, ◌∙◌, subst, ap₂, arith}
use mathlib.Core.Option.{Option, some, none}
use Rattle.std.proofs.lemmas.List.{ext_get_or}
use Rattle.formats.specs.declared.kind.Kind.{Kind}
use Rattle.formats.specs.declared.kind.Kind.TheVariants.{Primitive, Boolean, Text, View as Viewed, List as Listed, Map, Struct, RunEnds, FixedList}
use Rattle.columns.specs.Column.{Buffers, only_values, only_bits, only_offsets, offsets_into, views_into, Node, node_with, Column, Columns, column, end, ◌&◌, width}
use Rattle.columns.specs.Says.{slice}
use Rattle.columns.specs.Limits.{node_count}
use Rattle.pools.specs.declared.records.Node.{Node as Entry}
use Rattle.pools.specs.Store.{Store, Segment}
use Rattle.pools.specs.Held.{own_buffers, BitsLie, MaskLies, BuffersLie, Held}
use Rattle.pools.specs.Stored.{Stored, EachStored}
use Rattle.pools.specs.Bare.{bare_buffers, bare_node, bare, bare_each}
use Rattle.pools.proofs.Fronts.{segment_same}
use Rattle.pools.proofs.Reading.{bit_read, stored_span}

bits_same : {bytes : List ℕ} {place rows : ℕ} {bs cs ss ts : List Bool} → BitsLie bytes place rows bs ss → BitsLie bytes place rows cs ts → bs ≡ cs
bits_same {bytes} {place} {rows} {bs} {cs} a b =
    ext_get_or false bs cs (a.fills ∙ sym b.fills)
    (λ i l. let h : i < rows = (let e = a.fills in omega arith) in sym (bit_read a i h) ∙ bit_read b i h)

mask_same : (bytes : List ℕ) (m : Maybe ℕ) (rows : ℕ) (o u : Option (List Bool)) (ss ts : List Bool) → MaskLies bytes m rows o ss → MaskLies bytes m rows u ts → o ≡ u
mask_same bytes None rows none none ss ts a b = refl
mask_same bytes None rows none (some cs) ss ts a b = absurd b
mask_same bytes None rows (some bs) u ss ts a b = absurd a
mask_same bytes (Some p) rows none u ss ts a b = absurd a
mask_same bytes (Some p) rows (some bs) none ss ts a b = absurd b
mask_same bytes (Some p) rows (some bs) (some cs) ss ts a b = ap some (bits_same a b)

-- what is made alike of equal parts is equal
alike : {X : Type 0} (f : X → Buffers) {b c : Buffers} {x y : X} → b ≡ f x → c ≡ f y → x ≡ y → b ≡ c
alike f p q e = p ∙ ap f e ∙ sym q

alike₂ : {X Y : Type 0} (f : X → Y → Buffers) {b c : Buffers} {x y : X} {u v : Y} → b ≡ f x u → c ≡ f y v → x ≡ y → u ≡ v → b ≡ c
alike₂ f p q e d = p ∙ ap₂ f e d ∙ sym q

-- so many entries from one place on
entries_same : {X : Type 0} {xs : List X} {place n m : ℕ} {v w : List X} → n ≡ m → Segment xs place n v → Segment xs place m w → v ≡ w
entries_same {X} {xs} {place} e s t = sym s.is ∙ ap (slice xs place) e ∙ t.is

buffers_same : (P : Store) (r : Entry) (k : Kind) (n m : Node) → n.rows ≡ m.rows → BuffersLie P r k n → BuffersLie P r k m → bare_buffers (own_buffers n) ≡ bare_buffers (own_buffers m)
buffers_same P r (Primitive w) n m e a b = ap bare_buffers (alike only_values a.1 b.1 (entries_same e a.0 b.0))
buffers_same P r Boolean n m e a b =
    ap bare_buffers a.1
    ∙ ap (λ bs. only_bits bs []) (bits_same a.0 (subst (λ rows. BitsLie P.bytes r.place rows m.bits m.bits_spare) (sym e) b.0))
    ∙ sym (ap bare_buffers b.1)
buffers_same P r (Text wide) n m e a b =
    ap bare_buffers (alike₂ offsets_into a.2 b.2 (entries_same (ap (λ k. k + 1) e) a.0 b.0) (segment_same a.1 b.1))
buffers_same P r Viewed n m e a b =
    ap bare_buffers (alike₂ views_into a.2 b.2 (entries_same e a.0 b.0) (segment_same a.1 b.1))
buffers_same P r (Listed wide) n m e a b = ap bare_buffers (alike only_offsets a.1 b.1 (entries_same (ap (λ k. k + 1) e) a.0 b.0))
buffers_same P r Map n m e a b = ap bare_buffers (alike only_offsets a.1 b.1 (entries_same (ap (λ k. k + 1) e) a.0 b.0))
buffers_same P r Struct n m e a b = ap bare_buffers (a ∙ sym b)
buffers_same P r RunEnds n m e a b = ap bare_buffers (a ∙ sym b)
buffers_same P r (FixedList size) n m e a b = ap bare_buffers (a ∙ sym b)

nodes_same : {f g : List ℕ} {l k r q : ℕ} {o u : Option (List Bool)} {b c : Buffers}
    → f ≡ g → l ≡ k → r ≡ q → o ≡ u → b ≡ c → node_with f l r o [] b ≡ node_with g k q u [] c
nodes_same {f} {g} {l} {k} {r} {q} {o} {u} {b} {c} ef el er eo eb =
    ap (λ x. node_with x l r o [] b) ef ∙ ap (λ x. node_with g x r o [] b) el ∙ ap (λ x. node_with g k x o [] b) er
    ∙ ap (λ x. node_with g k q x [] b) eo ∙ ap (λ x. node_with g k q u [] x) eb

pub held_same : {P : Store} {r : Entry} {n m : Node} {a b k l : ℕ} → Held P r n a k → Held P r m b l → bare_node n ≡ bare_node m
held_same {P} {r} {n} {m} g h =
    let rows : n.rows ≡ m.rows = sym g.is_rows ∙ h.is_rows in
    nodes_same (segment_same g.format_lies h.format_lies) (sym g.is_label ∙ h.is_label) rows
    (mask_same P.bytes r.mask n.rows n.mask m.mask n.mask_spare m.mask_spare g.mask_lies
    (subst (λ k. MaskLies P.bytes r.mask k m.mask m.mask_spare) (sym rows) h.mask_lies))
    (buffers_same P r r.kind n m rows g.buffers_lie h.buffers_lie)

mutual
  unfolding Stored EachStored bare bare_each

  pub stored_same : (P : Store) (i : ℕ) (c d : Column) → Stored P i c → Stored P i d → bare c ≡ bare d
  stored_same P i (column n cs) (column m ds) g h =
      ap₂ column (held_same g.1 h.1) (each_same P (i + 1) cs ds (sym g.1.is_children ∙ h.1.is_children) g.2 h.2)

  pub each_same : (P : Store) (i : ℕ) (cs ds : Columns) → width cs ≡ width ds → EachStored P i cs → EachStored P i ds → bare_each cs ≡ bare_each ds
  each_same P i end end e g h = refl
  each_same P i end (d & ds) e g h = absurd (omega arith)
  each_same P i (c & cs) end e g h = absurd (omega arith)
  each_same P i (c & cs) (d & ds) e g h =
      let sizes : node_count c ≡ node_count d = sym (stored_span P i c g.0) ∙ stored_span P i d h.0 in
      ap₂ ◌&◌ (stored_same P i c d g.0 h.0)
      (each_same P (i + node_count c) cs ds (omega arith) g.1 (subst (λ k. EachStored P (i + k) ds) (sym sizes) h.1))
