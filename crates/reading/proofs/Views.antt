-- The text of a view, and how many entries a pool has.
use Rattle.std.proofs.Common.{◌≡◌, ℕ, zero, suc, ◌+◌, ◌-◌, ◌/◌, ◌%◌, ◌^◌, ◌<◌, ◌≤◌, min, Bool, cond, List, [], ◌∷◌, ◌++◌, length, get_or, take, sym, refl, ap, ◌∙◌, subst, inl, inr, arith, length-take, le-ltb, lt-ltb}
use lib.ListN.{length-map}
use Rattle.std.specs.List.{flat_map}
use Rattle.std.proofs.lemmas.List.{take-append-le, append-nil, append_assoc, get_or-map, get_or_past}
use Rattle.std.proofs.ByRecursion.{All-get_or}
use Rattle.std.proofs.lemmas.Bool.{cases_lt}
use Rattle.formats.specs.declared.format.Width.{Width}
use Rattle.formats.specs.declared.format.Width.TheVariants.{One, Two, Four, Eight}
use Rattle.formats.specs.declared.kind.Kind.{Kind}
use Rattle.formats.specs.declared.kind.Kind.TheVariants.{Primitive, Boolean, Text, View as Viewed, List as Listed, Map, Struct, RunEnds, FixedList}
use Rattle.columns.specs.Column.{short, long}
use Rattle.columns.specs.Bytes.{le_bytes}
use Rattle.columns.specs.Says.{slice, view_text}
use Rattle.columns.specs.Sound.{ViewSound}
use Rattle.pools.specs.declared.pool.Pool.{Pool}
use Rattle.pools.specs.declared.pools.Pools.{Pools}
use Rattle.pools.specs.declared.records.Part.{Part}
use Rattle.pools.specs.declared.records.View.{View as Halves}
use Rattle.pools.specs.declared.records.Node.{Node as Entry}
use Rattle.pools.specs.Used.{used}
use Rattle.pools.specs.Kept.{Standing, Ready}
use Rattle.pools.specs.Parts.{part_of, Inside, buffers_in}
use Rattle.pools.specs.Store.{Store, store, Segment, no_part}
use Rattle.pools.specs.Held.{values_pool, view_from}
use Rattle.pools.proofs.Fronts.{segment_at, segment_length, segment_part}
use Rattle.rows.specs.declared.views.ViewParts.{ViewParts}
use Rattle.rows.specs.declared.views.ViewParts.TheVariants.{Inline, Buffered}
use Rattle.rows.specs.Views.{parts_of}
use Rattle.columns.specs.Text.{hex_byte}
use Rattle.rows.specs.Shelved.{buffered_part}
use Rattle.reading.specs.Raw.{buffer_in, inline, viewed, quoted, ViewIn, leaf_text}

pub few : {X : Type 0} (p : Pool X) → Standing p → length (used p) ≤ 1048576
few p s = let e = length-take p.mark p.lent.now in let c = s.capped in omega arith

pub few_values : (p : Pools) (w : Width) → Ready p → length (values_pool (store p) w) ≤ 1048576
few_values p One r = few p.bytes r.bytes
few_values p Two r = few p.shorts r.shorts
few_values p Four r = few p.words r.words
few_values p Eight r = few p.longs r.longs

pub joined_both : {X Y : Type 0} (f : X → List Y) (xs ys : List X) (zs : List Y) → flat_map f xs ++ (flat_map f ys ++ zs) ≡ flat_map f (xs ++ ys) ++ zs
joined_both f [] ys zs = refl
joined_both f (x ∷ xs) ys zs =
    append_assoc (f x) (flat_map f xs) (flat_map f ys ++ zs) ∙ ap (λ l. f x ++ l) (joined_both f xs ys zs) ∙ sym (append_assoc (f x) (flat_map f (xs ++ ys)) zs)

low_bytes : (n w v : ℕ) → n ≤ w → take n (le_bytes w v) ≡ le_bytes n v
low_bytes zero w v h = refl
low_bytes (suc n) zero v h = absurd (omega arith)
low_bytes (suc n) (suc w) v h = ap (λ (bs : List ℕ). v % 256 ∷ bs) (low_bytes n w (v / 256) (omega arith))

-- what lies in a short view
pub short_bytes : (n a b : ℕ) → n ≤ 12 → take n (le_bytes 4 a ++ le_bytes 8 b) ≡ le_bytes (min n 4) a ++ le_bytes (n - min n 4) b
short_bytes n a b h = elim (cases_lt n 5) [
  | inl l ↦
      take-append-le n (le_bytes 4 a) (le_bytes 8 b) (omega arith)
      ∙ low_bytes n 4 a (omega arith)
      ∙ sym (append-nil (le_bytes n a))
      ∙ ap (λ k. le_bytes n a ++ le_bytes k b) (let e : 0 ≡ n - min n 4 = omega arith in e)
      ∙ ap (λ k. le_bytes k a ++ le_bytes (n - min n 4) b) (let e : n ≡ min n 4 = omega arith in e)
  | inr l ↦
      ap (λ k. take k (le_bytes 4 a ++ le_bytes 8 b)) (let e : n ≡ suc (suc (suc (suc (n - 4)))) = omega arith in e)
      ∙ ap (λ (bs : List ℕ). le_bytes 4 a ++ bs) (low_bytes (n - 4) 8 b (omega arith))
      ∙ ap (λ k. le_bytes 4 a ++ le_bytes k b) (let e : n - 4 ≡ n - min n 4 = omega arith in e)
      ∙ ap (λ k. le_bytes k a ++ le_bytes (n - min n 4) b) (let e : 4 ≡ min n 4 = omega arith in e)
]

-- as it is written: so many bytes of the low half, and what is left of the high one
abbrev pub low_part : ℕ → Halves → List ℕ
low_part front h = flat_map hex_byte (le_bytes front (h.low / 2 ^ 32))

abbrev pub high_part : (len front : ℕ) → Halves → List ℕ
high_part len front h = flat_map hex_byte (le_bytes (len - front) h.high)

pub short_text : (len front : ℕ) (h : Halves) → len ≤ 12 → min len 4 ≡ front → 34 ∷ (low_part front h ++ (high_part len front h ++ 34 ∷ [])) ≡ quoted (take len (inline h))
unfolding inline
short_text len front h l m =
    ap (λ (t : List ℕ). 34 ∷ t)
    (joined_both hex_byte (le_bytes front (h.low / 2 ^ 32)) (le_bytes (len - front) h.high) (34 ∷ [])
    ∙ ap (λ (t : List ℕ). flat_map hex_byte t ++ 34 ∷ []) (ap (λ k. le_bytes k (h.low / 2 ^ 32) ++ le_bytes (len - k) h.high) (sym m) ∙ sym (short_bytes len (h.low / 2 ^ 32) h.high l)))

-- which a view is, by its length
pub is_short : (h : Halves) → h.low % 2 ^ 32 ≤ 12 → view_from h ≡ short (h.low % 2 ^ 32) (inline h)
unfolding inline
is_short h l =
    ap (λ (b : Bool). cond b (long (h.low % 2 ^ 32) (h.low / 2 ^ 32) (h.high % 2 ^ 32) (h.high / 2 ^ 32)) (short (h.low % 2 ^ 32) (inline h))) (le-ltb 12 (h.low % 2 ^ 32) l)

pub is_long : (h : Halves) → 12 < h.low % 2 ^ 32 → view_from h ≡ long (h.low % 2 ^ 32) (h.low / 2 ^ 32) (h.high % 2 ^ 32) (h.high / 2 ^ 32)
unfolding inline
is_long h l =
    ap (λ (b : Bool). cond b (long (h.low % 2 ^ 32) (h.low / 2 ^ 32) (h.high % 2 ^ 32) (h.high / 2 ^ 32)) (short (h.low % 2 ^ 32) (inline h))) (lt-ltb 12 (h.low % 2 ^ 32) l)

pub inline_is : (h : Halves) (len : ℕ) → Inline len ≡ parts_of h → (h.low % 2 ^ 32 ≤ 12) × (len ≡ h.low % 2 ^ 32)
inline_is h len e =
    let n = h.low % 2 ^ 32 in
    let b : ViewParts = Buffered n (h.low / 2 ^ 32) (h.high % 2 ^ 32) (h.high / 2 ^ 32) in
    elim (cases_lt 12 n) [
      | inl l ↦ (let p : Inline len ≡ b = e ∙ ap (λ (x : Bool). cond x b (Inline n)) (lt-ltb 12 n l) in let z : ◌≡◌ {A = ℕ} 0 1 = cc in absurd (omega arith))
      | inr l ↦ (let p : Inline len ≡ Inline n = e ∙ ap (λ (x : Bool). cond x b (Inline n)) (le-ltb 12 n l) in (l, cc))
    ]

pub record BufferedIs (h : Halves) (len position offset : ℕ) : Type 0 where
  pub is_long : 12 < h.low % 2 ^ 32
  pub is_len : len ≡ h.low % 2 ^ 32
  pub is_position : position ≡ h.high % 2 ^ 32
  pub is_offset : offset ≡ h.high / 2 ^ 32

pub buffered_is : (h : Halves) (len prefix position offset : ℕ) → Buffered len prefix position offset ≡ parts_of h → BufferedIs h len position offset
buffered_is h len prefix position offset e =
    let n = h.low % 2 ^ 32 in
    let b : ViewParts = Buffered n (h.low / 2 ^ 32) (h.high % 2 ^ 32) (h.high / 2 ^ 32) in
    elim (cases_lt 12 n) [
      | inl l ↦ (let p : Buffered len prefix position offset ≡ b = e ∙ ap (λ (x : Bool). cond x b (Inline n)) (lt-ltb 12 n l) in
          record { is_long = l; is_len = (cc); is_position = (cc); is_offset = (cc) })
      | inr l ↦ (let p : Buffered len prefix position offset ≡ Inline n = e ∙ ap (λ (x : Bool). cond x b (Inline n)) (le-ltb 12 n l) in let z : ◌≡◌ {A = ℕ} 0 1 = cc in absurd (omega arith))
    ]

whole : {X : Type 0} {xs : List X} (p : Part) → Inside xs p → Segment xs p.start p.len (part_of xs p)
whole p h = record { within = h; is = refl }

-- where the text of a long view lies
pub record LongLies (P : Store) (list : Part) (h : Halves) (number : ℕ) (part : Part) : Type 0 where
  pub listed : list.start + h.high % 2 ^ 32 < length P.lists
  pub is_number : get_or P.lists (list.start + h.high % 2 ^ 32) 0 ≡ number
  pub known : number < length P.buffers
  pub is_part : get_or P.buffers number no_part ≡ part
  pub within : part.start + h.high / 2 ^ 32 + h.low % 2 ^ 32 ≤ length P.bytes
  pub is_text : slice P.bytes (part.start + h.high / 2 ^ 32) (h.low % 2 ^ 32) ≡ viewed P list h

pub long_lies : (P : Store) (list : Part) (h : Halves) → ViewIn P list h → 12 < h.low % 2 ^ 32 →
    LongLies P list h (get_or P.lists (list.start + h.high % 2 ^ 32) 0) (get_or P.buffers (get_or P.lists (list.start + h.high % 2 ^ 32) 0) no_part)
unfolding viewed
long_lies P list h v l =
    let names = part_of P.lists list in
    let n = h.low % 2 ^ 32 in let pos = h.high % 2 ^ 32 in let off = h.high / 2 ^ 32 in
    let s : ViewSound (buffer_in P) names (long n (h.low / 2 ^ 32) pos off) = subst (ViewSound (buffer_in P) names) (is_long h l) v.sound in
    let in_list : pos < list.len = (let a = segment_length (whole list v.listed) in let b = s.1 in omega arith) in
    let num = get_or P.lists (list.start + pos) 0 in
    let e : num ≡ get_or names pos 0 = segment_at (whole list v.listed) pos 0 in_list in
    let long_enough : off + n ≤ length (buffer_in P num) = subst (λ m. off + n ≤ length (buffer_in P m)) (sym e) s.2 in
    let known : num < length P.buffers = elim (cases_lt num (length P.buffers)) [
      | inl b ↦ b
      | inr b ↦
          let z = get_or_past (buffers_in P.bytes P.buffers) num [] (let m = length-map P.buffers (part_of P.bytes) in omega arith) in
          let y = ap length z in absurd (omega arith)
    ] in
    let part = get_or P.buffers num no_part in
    let its : buffer_in P num ≡ part_of P.bytes part = get_or-map (part_of P.bytes) P.buffers num no_part [] known in
    let inside : Inside P.bytes part = All-get_or (Inside P.bytes) P.buffers num no_part known v.inside in
    let fits : off + n ≤ part.len = (let a = segment_length (whole part inside) in let b = ap length its in omega arith) in
    record {
      listed = (let a = v.listed in omega arith);
      is_number = refl;
      known = known;
      is_part = refl;
      within = omega arith;
      is_text =
          (segment_part (whole part inside) off n fits).is
          ∙ ap (λ (bs : List ℕ). slice bs off n) (sym its)
          ∙ ap (λ m. slice (buffer_in P m) off n) e
          ∙ sym (ap (view_text (buffer_in P) names) (is_long h l));
    }

pub long_text : (P : Store) (r : Entry) (h : Halves) {len position offset : ℕ} → BufferedIs h len position offset → ViewIn P r.buffers h → part_of P.bytes (buffered_part P r position offset len) ≡ viewed P r.buffers h
long_text P r h {len} {position} {offset} b v =
    ap (λ i. part_of P.bytes (buffered_part P r i offset len)) b.is_position
    ∙ ap (λ o. part_of P.bytes (buffered_part P r (h.high % 2 ^ 32) o len)) b.is_offset
    ∙ ap (λ n. part_of P.bytes (buffered_part P r (h.high % 2 ^ 32) (h.high / 2 ^ 32) n)) b.is_len
    ∙ (long_lies P r.buffers h v b.is_long).is_text

-- A node with children has no text of its own.
pub no_leaf : (P : Store) (r : Entry) (k : Kind) (i : ℕ) → ((w : Width) → k ≡ Primitive w → ⊥) → (k ≡ Boolean → ⊥) → ((wide : Bool) → k ≡ Text wide → ⊥) → (k ≡ Viewed → ⊥) → leaf_text P r k i ≡ []
no_leaf P r (Primitive w) i a b c d = absurd (a w refl)
no_leaf P r Boolean i a b c d = absurd (b refl)
no_leaf P r (Text wide) i a b c d = absurd (c wide refl)
no_leaf P r Viewed i a b c d = absurd (d refl)
no_leaf P r (Listed wide) i a b c d = refl
no_leaf P r Map i a b c d = refl
no_leaf P r Struct i a b c d = refl
no_leaf P r RunEnds i a b c d = refl
no_leaf P r (FixedList size) i a b c d = refl
