use Rattle.std.proofs.Common.{◌≡◌, ℕ, ◌+◌, ◌*◌, ◌<◌, ◌≤◌, Bool, true, cond, List, [], ◌∷◌, map, length, drop, sym, refl, ap, ◌∙◌, add-zero, add_assoc, arith}
use Rattle.std.proofs.lemmas.List.{drop_all, length-take-le, length-drop}
use Rattle.columns.specs.Says.{slice}
use Rattle.columns.specs.Sent.{buffer_length}
use Rattle.columns.specs.Pools.{plus, sum_of}
use Rattle.parcels.specs.Lent.{data_size, readable, brought_from}
use Rattle.std.specs.List.{AllByRecursion}
use Rattle.std.proofs.ByRecursion.{All-weaker}
use Rattle.columns.specs.Column.{bytes_for}
use Rattle.formats.specs.declared.format.Width.{Width}
use Rattle.formats.specs.declared.format.Width.TheVariants.{One, Two, Four, Eight}
use Rattle.formats.specs.declared.kind.Kind.{Kind}
use Rattle.formats.specs.declared.kind.Kind.TheVariants.{Primitive, Boolean, Text, View, Map, Struct, RunEnds, FixedList}
use Rattle.formats.specs.declared.kind.Kind.TheVariants.{List as ListOf}
use Rattle.parcels.specs.declared.draft.Draft.{Draft}
use Rattle.pools.specs.declared.pools.Marks.{Marks}
use Rattle.admission.specs.Needs.{needed, width_entries, kind_entries, draft_entries, drafts_need}
use Rattle.soundness.specs.declared.sent.DataBuffer.{DataBuffer}
use Rattle.parcels.specs.declared.sent.Sent.{Sent}
use Rattle.parcels.specs.declared.sent.Sent.TheVariants.{Brought, Named}
use Rattle.soundness.specs.Buffers.{buffers_from}
use Rattle.parcels.specs.Sents.{SentAt}
use Rattle.soundness.specs.Sources.{Told}
use Rattle.soundness.proofs.Buffers.{bytes_then, brought_in, brought_is, buffers_told, length_buffers}

-- how many data buffers a data buffer brings, as 1 or 0, and its bytes if it is brought
abbrev pub one_new : Sent → ℕ
one_new (Brought len) = 1
one_new (Named number) = 0

abbrev pub one_bytes : Sent → ℕ
one_bytes (Brought len) = len
one_bytes (Named number) = 0

-- the data buffers of a list that are brought, and their bytes
abbrev pub new_in : List DataBuffer → ℕ
new_in [] = 0
new_in (b ∷ bs) = one_new b.sent + new_in bs

abbrev pub size_in : List DataBuffer → ℕ
size_in [] = 0
size_in (b ∷ bs) = one_bytes b.sent + size_in bs

module _ (parcel : List ℕ) where
  count_by : (s : Sent) (at : ℕ) (l : List (List ℕ)) (n : ℕ) → length l ≡ n → length (bytes_then parcel at s l) ≡ one_new s + n
  count_by (Brought len) at l n e = omega (arith, e)
  count_by (Named number) at l n e = omega (arith, e)

  count_in : (bs : List DataBuffer) → length (brought_in parcel bs) ≡ new_in bs
  count_in [] = refl
  count_in (b ∷ bs) = count_by b.sent b.at (brought_in parcel bs) (new_in bs) (count_in bs)

  long : (at len : ℕ) → at + 4 + len ≤ length parcel → length (slice parcel (at + 4) len) ≡ len
  long at len h = length-take-le len (drop (at + 4) parcel) (simp length-drop (omega arith))

  sum_by : (s : Sent) (at : ℕ) (l : List (List ℕ)) (n : ℕ) → SentAt parcel at s → at + data_size parcel at ≤ length parcel → sum_of (map length l) ≡ n → sum_of (map length (bytes_then parcel at s l)) ≡ one_bytes s + n
  sum_by (Brought len) at l n (e, b, _) h k =
      let d : data_size parcel at ≡ 4 + buffer_length (drop at parcel) = ap (λ (b : Bool). cond b 4 (4 + buffer_length (drop at parcel))) e in
      let f : length (slice parcel (at + 4) len) ≡ len = long at len (omega arith) in
      omega (arith, f, k)
  sum_by (Named number) at l n e h k = omega (arith, k)

  sum_in : (bs : List DataBuffer) → AllByRecursion (Told parcel) bs → sum_of (map length (brought_in parcel bs)) ≡ size_in bs
  sum_in [] t = refl
  sum_in (b ∷ bs) (t, ts) = sum_by b.sent b.at (brought_in parcel bs) (size_in bs) t.0 t.1 (sum_in bs ts)

  low_by : (s : Sent) (at : ℕ) → SentAt parcel at s → one_bytes s < 2147483648
  low_by (Brought len) at e = e.2
  low_by (Named number) at e = omega arith

  few_by : (s : Sent) → one_new s ≤ 1
  few_by (Brought len) = omega arith
  few_by (Named number) = omega arith

  few_in : (bs : List DataBuffer) → new_in bs ≤ length bs
  few_in [] = omega arith
  few_in (b ∷ bs) = omega (arith, few_by b.sent, few_in bs)

  low_in : (bs : List DataBuffer) → AllByRecursion (Told parcel) bs → size_in bs ≤ length bs * 2147483648
  low_in [] t = omega arith
  low_in (b ∷ bs) (t, ts) = omega (arith, low_by b.sent b.at t.0, low_in bs ts)

  -- of n from a place on
  pub count_is : (at n : ℕ) → new_in (buffers_from parcel at n) ≡ length (brought_from parcel at n)
  count_is at n = sym (ap length (brought_is parcel at n) ∙ count_in (buffers_from parcel at n))

  pub count_few : (at n : ℕ) → new_in (buffers_from parcel at n) ≤ n
  count_few at n = omega (arith, few_in (buffers_from parcel at n), length_buffers parcel at n)

  module _ (at n : ℕ) (r : readable parcel at n ≡ true) where
    pub sum_is : size_in (buffers_from parcel at n) ≡ sum_of (map length (brought_from parcel at n))
    sum_is = sym (ap (λ (l : List (List ℕ)). sum_of (map length l)) (brought_is parcel at n) ∙ sum_in (buffers_from parcel at n) (buffers_told parcel at n r))

    pub sum_low : n < 65536 → size_in (buffers_from parcel at n) < 140737488355328
    sum_low h = omega (arith, low_in (buffers_from parcel at n) (buffers_told parcel at n r), length_buffers parcel at n)

-- entries of the pools, added up
pub plus_assoc : (a b c : List ℕ) → plus (plus a b) c ≡ plus a (plus b c)
plus_assoc a b c = simp add_assoc

-- how much a draft needs at most
abbrev Low : ℕ → Type 0
Low v = v ≤ 281474976710656

eleven : (a b c d e f g h i j k : ℕ) → Low a → Low b → Low c → Low d → Low e → Low f → Low g → Low h → Low i → Low j → Low k
    → AllByRecursion Low (a ∷ b ∷ c ∷ d ∷ e ∷ f ∷ g ∷ h ∷ i ∷ j ∷ k ∷ [])
eleven a b c d e f g h i j k p q r s t u v w x y z = (p, (q, (r, (s, (t, (u, (v, (w, (x, (y, (z, tt)))))))))))

none_low : Low 0
none_low = omega arith

one_low : Low 1
one_low = omega arith

module _ (base r t l new : ℕ) (hb : base < 140737490000000) (hr : r ≤ 1048576) (ht : t < 4294967296) (hl : l < 65536) (hn : new < 65536) where
  few : Low new
  few = omega arith

  rows_low : Low r
  rows_low = omega arith

  offsets_low : Low (r + 1)
  offsets_low = omega arith

  base_low : Low base
  base_low = omega arith

  width_low : (w : Width) → AllByRecursion Low (width_entries w base r new)
  width_low One = eleven 0 1 (base + r) 0 0 0 0 0 0 new 0 none_low one_low (omega arith) none_low none_low none_low none_low none_low none_low few none_low
  width_low Two = eleven 0 1 base r 0 0 0 0 0 new 0 none_low one_low base_low rows_low none_low none_low none_low none_low none_low few none_low
  width_low Four = eleven 0 1 base 0 r 0 0 0 0 new 0 none_low one_low base_low none_low rows_low none_low none_low none_low none_low few none_low
  width_low Eight = eleven 0 1 base 0 0 r 0 0 0 new 0 none_low one_low base_low none_low none_low rows_low none_low none_low none_low few none_low

  plain_low : AllByRecursion Low (0 ∷ 1 ∷ base ∷ 0 ∷ 0 ∷ 0 ∷ 0 ∷ 0 ∷ 0 ∷ new ∷ 0 ∷ [])
  plain_low = eleven 0 1 base 0 0 0 0 0 0 new 0 none_low one_low base_low none_low none_low none_low none_low none_low none_low few none_low

  pub kind_low : (K : Kind) → AllByRecursion (λ v. v ≤ 281474976710656) (kind_entries K base r t l new)
  kind_low (Primitive w) = width_low w
  kind_low Boolean = eleven 0 1 (base + bytes_for r) 0 0 0 0 0 0 new 0 none_low one_low (omega arith) none_low none_low none_low none_low none_low none_low few none_low
  kind_low (Text wide) = eleven 0 1 (base + t) 0 0 0 (r + 1) 0 0 new 0 none_low one_low (omega arith) none_low none_low none_low offsets_low none_low none_low few none_low
  kind_low View = eleven 0 1 base 0 0 0 0 r l new 0 none_low one_low base_low none_low none_low none_low none_low rows_low (omega arith) few none_low
  kind_low (ListOf wide) = eleven 0 1 base 0 0 0 (r + 1) 0 0 new 0 none_low one_low base_low none_low none_low none_low offsets_low none_low none_low few none_low
  kind_low Map = eleven 0 1 base 0 0 0 (r + 1) 0 0 new 0 none_low one_low base_low none_low none_low none_low offsets_low none_low none_low few none_low
  kind_low Struct = plain_low
  kind_low RunEnds = plain_low
  kind_low (FixedList size) = plain_low

-- the bound of a sum
pub plus_most : (m n : ℕ) (a b : Marks) → AllByRecursion (λ v. v ≤ m) (needed a) → AllByRecursion (λ v. v ≤ n) (needed b) → AllByRecursion (λ v. v ≤ m + n) (plus (needed a) (needed b))
plus_most m n a b (p₁, (p₂, (p₃, (p₄, (p₅, (p₆, (p₇, (p₈, (p₉, (p₁₀, (p₁₁, _))))))))))) (q₁, (q₂, (q₃, (q₄, (q₅, (q₆, (q₇, (q₈, (q₉, (q₁₀, (q₁₁, _))))))))))) =
    (omega arith, (omega arith, (omega arith, (omega arith, (omega arith, (omega arith, (omega arith, (omega arith, (omega arith, (omega arith, (omega arith, tt)))))))))))

pub all_below : (m n : ℕ) (xs : List ℕ) → m ≤ n → AllByRecursion (λ v. v ≤ m) xs → AllByRecursion (λ v. v ≤ n) xs
all_below m n xs h a = All-weaker (λ v. v ≤ m) (λ v. v ≤ n) (λ x p. omega arith) xs a

-- a draft is added
module _ (parcel : List ℕ) (D : List Draft) (i : ℕ) (total own after : Marks) (d : Draft) (ds : drop i D ≡ d ∷ drop (i + 1) D)
    (e : needed own ≡ draft_entries parcel d) (f : needed after ≡ plus (needed total) (needed own)) where
  pub add_more : plus (needed total) (drafts_need parcel (drop i D)) ≡ plus (needed after) (drafts_need parcel (drop (i + 1) D))
  unfolding drafts_need
  add_more =
      ap (λ (l : List Draft). plus (needed total) (drafts_need parcel l)) ds
      ∙ ap (λ (l : List ℕ). plus (needed total) (plus l (drafts_need parcel (drop (i + 1) D)))) (sym e)
      ∙ sym (plus_assoc (needed total) (needed own) (drafts_need parcel (drop (i + 1) D)))
      ∙ ap (λ (l : List ℕ). plus l (drafts_need parcel (drop (i + 1) D))) (sym f)

pub add_all : (parcel : List ℕ) (D : List Draft) (i : ℕ) (total : Marks) → length D ≤ i → needed total ≡ plus (needed total) (drafts_need parcel (drop i D))
unfolding drafts_need
add_all parcel D i total h = sym (ap (λ (l : List Draft). plus (needed total) (drafts_need parcel l)) (drop_all i D h) ∙ simp add-zero)
