use Rattle.std.proofs.Common.{◌≡◌, ℕ, ◌+◌, ◌*◌, ◌/◌, ◌%◌, ◌^◌, ◌<◌, ◌≤◌, min, Bool, true, cond, ◌&&◌, eqb, ltb, leb, List, [], ◌∷◌, length, Some, None, Option, get_or, drop, set, sym, ap, ◌∙◌, subst, inl, inr, div-lt_iff_lt-mul, div-add-mod', mul-div_cancel, arith}
use Rattle.std.proofs.Math.Nat.{add-mul, min-le_left}
use Rattle.std.proofs.lemmas.List.{drop_more, drop_all, get_or-map, length-map, get_or-set_same, get_or-set_other, length-drop}
use Rattle.std.proofs.lemmas.Bool.{lt-ltb, cond-true, cases_eq, cases_lt}
use Rattle.std.specs.List.{slice_get}
use Rattle.std.specs.declared.iter.StepBy.{StepBy}
use Rattle.std.specs.Iterator.Adapters.{step_by_steps}
use Rattle.std.specs.Iterator.{YieldsFirst, YieldsThen, SkipsThenYields}
use Rattle.std.proofs.lemmas.Iterator.Adapters.{option_map_id}
use Rattle.std.proofs.lemmas.Iterator.Consumers.{YieldsList-from_first, nth_from_yields_List}
use Rattle.soundness.specs.declared.data_buffers.DataBuffers.{DataBuffers}
use Rattle.std.proofs.lemmas.Option.{slice_get-get_or}
use Rattle.columns.specs.Column.{View, short, long, view_of}
use Rattle.columns.specs.Says.{span, slice}
use Rattle.columns.specs.Sound.{little_endian}
use Rattle.columns.specs.Contents.{value_at, view_in, views_in}
use Rattle.pools.specs.declared.records.Part.{Part}
use Rattle.parcels.specs.Lent.{place_of, readable}
use Rattle.parcels.proofs.Along.{length_span}
use Rattle.parcels.proofs.Lents.{place_place, readable_part}
use Rattle.soundness.specs.declared.places.Places.{Places}
use Rattle.soundness.specs.declared.sent.DataBuffer.{DataBuffer}
use Rattle.soundness.specs.Buffers.{buffer_in, buffers_from}
use Rattle.soundness.proofs.Falls.{get_or_span}
use Rattle.soundness.proofs.Buffers.{length_buffers, get_or_buffers}
use Rattle.soundness.specs.Sources.{Indexed, view_fine}

-- a stride of len / 256 + 1 gives at most 256 places
pub in_places : (s len k : ℕ) → s ≡ len / 256 + 1 → k < len → k / s < 256
in_places s len k e h =
    let p : 0 < s = omega arith in
    (div-lt_iff_lt-mul {k = s} {x = k} {y = 256} p).1 (omega arith)

-- one place more is known
pub marks_more : (parcel : List ℕ) (start s k at : ℕ) (marks : List ℕ) → at ≡ place_of parcel start (k * s) → ((j : ℕ) → j < k → get_or marks j 0 ≡ place_of parcel start (j * s)) → k < length marks
    → (j : ℕ) → j < k + 1 → get_or (set marks k at) j 0 ≡ place_of parcel start (j * s)
marks_more parcel start s k at marks e g l j h =
    elim (cases_eq j k) [
      | inl q ↦ ap (λ (x : ℕ). get_or (set marks k at) x 0) q ∙ get_or-set_same marks k at 0 l ∙ e ∙ ap (λ (x : ℕ). place_of parcel start (x * s)) (sym q)
      | inr q ↦ get_or-set_other marks k j at 0 q ∙ g j (omega (arith, q))
    ]

module _ (parcel : List ℕ) (lent : Part) (x : Places) (i : Indexed parcel lent x) (k : ℕ) (h : k < lent.len) where
  whole : k / x.stride * x.stride + k % x.stride ≡ k
  whole = div-add-mod' k x.stride

  before : get_or x.marks (k / x.stride) 0 ≡ place_of parcel lent.start (k / x.stride * x.stride)
  before = i.known (k / x.stride) (omega (arith, whole))

  pub found_readable : readable parcel lent.start lent.len ≡ true → readable parcel (get_or x.marks (k / x.stride) 0) (k % x.stride + 1) ≡ true
  found_readable r =
      subst (λ (at : ℕ). readable parcel at (k % x.stride + 1) ≡ true) (sym before) (readable_part parcel lent.start lent.len (k / x.stride * x.stride) (k % x.stride + 1) r (omega (arith, whole)))

  pub steps_readable : readable parcel lent.start lent.len ≡ true → readable parcel (get_or x.marks (k / x.stride) 0) (k % x.stride) ≡ true
  steps_readable r =
      subst (λ (at : ℕ). readable parcel at (k % x.stride) ≡ true) (sym before) (readable_part parcel lent.start lent.len (k / x.stride * x.stride) (k % x.stride) r (omega (arith, whole)))

  pub found_is : place_of parcel (get_or x.marks (k / x.stride) 0) (k % x.stride) ≡ place_of parcel lent.start k
  found_is =
      ap (λ (at : ℕ). place_of parcel at (k % x.stride)) before ∙ place_place parcel lent.start (k / x.stride * x.stride) (k % x.stride) ∙ ap (place_of parcel lent.start) whole

-- the data buffers in a walk over them
pub buffers_first : (parcel : List ℕ) (at n k : ℕ) (x : DataBuffer) (rest : List DataBuffer) → x ∷ rest ≡ drop k (buffers_from parcel at n) → (k < n) × (x ≡ buffer_in parcel (place_of parcel at k)) × (rest ≡ drop (k + 1) (buffers_from parcel at n))
buffers_first parcel at n k x rest e =
    let all : List DataBuffer = buffers_from parcel at n in
    let l : length all ≡ n = length_buffers parcel at n in
    elim (cases_lt k n) [
      | inl h ↦
          let d : x ∷ rest ≡ get_or all k x ∷ drop (k + 1) all = e ∙ drop_more all k x (omega (arith, l)) in
          let a : x ≡ get_or all k x = cc in
          let b : rest ≡ drop (k + 1) all = cc in
          (h, a ∙ get_or_buffers parcel at n k x h, b)
      | inr h ↦ let z : x ∷ rest ≡ [] = e ∙ drop_all k all (omega (arith, l)) in cc
    ]

-- a walk that passes some of them over
abbrev pub ahead : DataBuffers → List DataBuffer
ahead s = buffers_from s.parcel.now s.at s.left

module _ (parcel : List ℕ) (at n : ℕ) where
  pub passed : (s : DataBuffers) (xs : List DataBuffer) (x : DataBuffer) (u : DataBuffers) (m k : ℕ) → k ≡ m + length xs → YieldsThen (YieldsFirst ahead) s xs (Some x) u → ahead s ≡ drop m (buffers_from parcel at n)
      → (k < n) × (x ≡ buffer_in parcel (place_of parcel at k)) × (ahead u ≡ drop (k + 1) (buffers_from parcel at n))
  passed s [] x u m k e (t, y, l) d =
      let z : m ≡ k = omega (arith, e) in
      buffers_first parcel at n k x (ahead u) (sym l ∙ ap ahead (sym y) ∙ d ∙ ap (λ (i : ℕ). drop i (buffers_from parcel at n)) z)
  passed s (y ∷ ys) x u m k e (t, (j, g, h), l) d = passed j ys x u (m + 1) k (omega (arith, e)) (t, h, l) (buffers_first parcel at n m y (ahead j) (sym g ∙ d)).2

  pub ended : (s : DataBuffers) (xs : List DataBuffer) (u : DataBuffers) (m : ℕ) → YieldsThen (YieldsFirst ahead) s xs None u → ahead s ≡ drop m (buffers_from parcel at n) → n ≤ m + length xs
  ended s [] u m (t, y, l) d =
      omega (arith, ap length (sym d ∙ ap ahead y ∙ l.0), length-drop m (buffers_from parcel at n), length_buffers parcel at n)
  ended s (y ∷ ys) u m (t, (j, g, h), l) d =
      let r = ended j ys u (m + 1) (t, h, l) (buffers_first parcel at n m y (ahead j) (sym g ∙ d)).2 in
      omega (arith, r)

-- a walk that gives every so many-th of them, which has given k
pub record Stepping (parcel : List ℕ) (at n stride : ℕ) (w : StepBy DataBuffers) (k : ℕ) : Type 0 where
  pub past : ℕ
  pub left : ahead w.iter ≡ drop past (buffers_from parcel at n)
  pub gap : w.gap + 1 ≡ stride
  pub next : past + cond w.first 0 w.gap ≡ k * stride

module _ (parcel : List ℕ) (at n stride : ℕ) (w v : StepBy DataBuffers) (k : ℕ) (g : Stepping parcel at n stride w k) where
  pub step_more : (x : DataBuffer) → step_by_steps (YieldsFirst ahead) w (Some x) v → (k * stride < n) × (x ≡ buffer_in parcel (place_of parcel at (k * stride))) × Stepping parcel at n stride v (k + 1)
  step_more x (a, f, (i, xs, e, run, l)) =
      let p = passed parcel at n w.iter xs x v.iter g.past (k * stride) (omega (arith, g.next, e, l)) run g.left in
      let z : v.gap + 1 ≡ stride = omega (arith, a, g.gap) in
      let y : k * stride + 1 + cond v.first 0 v.gap ≡ (k + 1) * stride =
      ap (λ (b : Bool). k * stride + 1 + cond b 0 v.gap) f ∙ omega (arith, add-mul k 1 stride, z) in
      (p.0, p.1, record { past = k * stride + 1; left = p.2; gap = z; next = y })

  pub step_end : step_by_steps (YieldsFirst ahead) w None v → n ≤ k * stride
  step_end (a, f, (i, xs, e, run, l)) = let r = ended parcel at n w.iter xs v.iter g.past run g.left in omega (arith, g.next, e, l, r)

  -- the walk's count fits
  pub step_fits : (x : ℕ) → k ≤ 256 → n < 65536 → k + min (length (ahead w.iter)) x < 2 ^ 64
  step_fits x h l = omega (arith, min-le_left (length (ahead w.iter)) x, ap length g.left, length-drop g.past (buffers_from parcel at n), length_buffers parcel at n)

-- at most 256 are kept
pub kept_few : (s len k : ℕ) → s ≡ len / 256 + 1 → k * s < len → k < 256
kept_few s len k e h = let p : 0 < s = omega arith in subst (λ (i : ℕ). i < 256) (mul-div_cancel k p) (in_places s len (k * s) e h)

-- one in a few steps
pub nth_buffer : (parcel : List ℕ) (at n : ℕ) → slice_get (buffers_from parcel at (n + 1)) n ≡ Some (buffer_in parcel (place_of parcel at n))
nth_buffer parcel at n =
    let d : DataBuffer = buffer_in parcel 0 in
    slice_get-get_or (buffers_from parcel at (n + 1)) n d (omega (arith, length_buffers parcel at (n + 1))) ∙ ap (λ (b : DataBuffer). Some b) (get_or_buffers parcel at (n + 1) n d (omega arith))

module _ (parcel : List ℕ) (lent : Part) (x : Places) (i : Indexed parcel lent x) (k : ℕ) (h : k < lent.len) (l u : DataBuffers) (r : Option DataBuffer) where
  pub nth_found : l.parcel.now ≡ parcel → l.at ≡ get_or x.marks (k / x.stride) 0 → l.left ≡ k % x.stride + 1
      → SkipsThenYields (YieldsFirst {S = DataBuffers} (λ s. buffers_from s.parcel.now s.at s.left)) l (k % x.stride) r u → r ≡ Some (buffer_in parcel (place_of parcel lent.start k))
  nth_found a b c ran =
      let n : ℕ = k % x.stride in
      let mark : ℕ = get_or x.marks (k / x.stride) 0 in
      let e : buffers_from l.parcel.now l.at l.left ≡ buffers_from parcel mark (n + 1) = cc in
      sym (option_map_id r)
      ∙ nth_from_yields_List r u n ran (YieldsList-from_first {S = DataBuffers} (λ y. y) (λ s. buffers_from s.parcel.now s.at s.left) (buffers_from parcel mark (n + 1)) e)
      ∙ nth_buffer parcel mark n
      ∙ ap (λ (p : ℕ). Some (buffer_in parcel p)) (found_is parcel lent x i k h)

-- a long view, by its four numbers
module _ (source : ℕ → List ℕ) (count : ℕ) (view : List ℕ) (len prefix position offset : ℕ)
    (a : len ≡ value_at 4 view 0) (b : prefix ≡ value_at 4 view 1) (c : position ≡ value_at 4 view 2) (d : offset ≡ value_at 4 view 3) where
  view_is : view_in view ≡ view_of len prefix position offset (drop 4 view)
  view_is =
      ap (λ (n : ℕ). view_of n (value_at 4 view 1) (value_at 4 view 2) (value_at 4 view 3) (drop 4 view)) (sym a)
      ∙ ap (λ (n : ℕ). view_of len n (value_at 4 view 2) (value_at 4 view 3) (drop 4 view)) (sym b)
      ∙ ap (λ (n : ℕ). view_of len prefix n (value_at 4 view 3) (drop 4 view)) (sym c)
      ∙ ap (λ (n : ℕ). view_of len prefix position n (drop 4 view)) (sym d)

  pub long_view : 12 < len → position < count → (text : List ℕ) → text ≡ source position → (r : Bool) → r ≡ (leb (offset + len) (length text) && eqb prefix (little_endian (slice text offset 4))) → r ≡ view_fine source count (view_in view)
  long_view l p text t r e =
      let last : List ℕ → Bool = λ x. eqb prefix (little_endian (slice x offset 4)) in
      e
      ∙ ap (λ (x : List ℕ). leb (offset + len) (length x) && last x) t
      ∙ ap (λ (x : Bool). x && leb (offset + len) (length (source position)) && last (source position)) (sym (lt-ltb position count p))
      ∙ ap (view_fine source count) (sym (view_is ∙ cond-true (ltb 12 len) (long len prefix position offset) (short len (drop 4 view)) (lt-ltb 12 len l)))

pub length_views : (n : ℕ) (bytes : List ℕ) → length (views_in n bytes) ≡ n
length_views n bytes = length-map (span 0 n) (λ i. view_in (slice bytes (16 * i) 16)) ∙ length_span 0 n

abbrev none : View
none = short 0 []

pub get_or_views : (n i : ℕ) (bytes : List ℕ) → i < n → get_or (views_in n bytes) i none ≡ view_in (slice bytes (16 * i) 16)
get_or_views n i bytes h =
    get_or-map (λ (j : ℕ). view_in (slice bytes (16 * j) 16)) (span 0 n) i 0 none (rw length_span h) ∙ ap (λ (j : ℕ). view_in (slice bytes (16 * j) 16)) (get_or_span 0 n i h ∙ omega arith)
