-- Laws of every node of a made column, whatever its depth: rows, runs, buffer lists, offsets and masks.
use Rattle.std.specs.Prelude.{◌≡◌, ℕ, suc, ◌<◌, Bool, true, false, cond, ◌&&◌, ◌⊎◌, ◌↔◌, List, [], ◌∷◌, map, length, ◌≢◌, slice_index, slice_index_or}
use Rattle.std.proofs.Math.Option.{none}
use Rattle.std.specs.List.{flat_map}
use Rattle.columns.specs.Kinds.{Kind, primitive, boolean, strings, views, lists, maps, structs, run_ended, fixed_lists, unknown, is_run_ended, is_list, is_primitive, has_offsets}
use Rattle.columns.specs.Column.{View, short, long, Node, Column, Columns, column, end, ◌&◌, node, children, first, rest, kind, at, view_at}
use Rattle.columns.specs.Masks.{valid}
use Rattle.columns.specs.Says.{ends_of, offset_length, string_at}
use Rattle.columns.specs.Gathering.{Pair, pair, totals}
use Rattle.columns.specs.Claims.{In, claim, place}
use Rattle.columns.specs.Runs.{entries, kept}
use Rattle.columns.specs.Interleave.{child_pairs, interleave, claims, source_ranges}
use Rattle.columns.specs.Sound.{Climbs}
use Rattle.columns.specs.Promises.{Accepted}

-- A law of every made node, whatever its depth: of the node, of whether it is a list's child, and of the sources and
-- pairs by which it was made. The first child of run ends holds the run ends, and is no interleave of anything.
abbrev pub Law : Type 1
Law = (in_list : Bool) → Column → List Column → List Pair → Type 0

unfoldable mutual
  pub AtEveryDepth : Law → (in_list : Bool) → Column → Column → List Column → List Pair → Type 0
  AtEveryDepth L in_list made (column n cs) S ps =
      L in_list made S ps
      × cond (is_run_ended (kind n))
      (AtRunValues L (children made) cs (map children S) (kept (entries S ps)))
      (AtEveryChild L (is_list (kind n)) (children made) cs (map children S) (child_pairs (kind n) S ps))

  pub AtEveryChild : Law → Bool → Columns → Columns → List Columns → List Pair → Type 0
  AtEveryChild L in_list made end kids qs = Unit {0}
  AtEveryChild L in_list made (c & cs) kids qs =
      AtEveryDepth L in_list (first made) c (map first kids) qs × AtEveryChild L in_list (rest made) cs (map rest kids) qs

  pub AtRunValues : Law → Columns → Columns → List Columns → List Pair → Type 0
  AtRunValues L made end kids qs = Unit {0}
  AtRunValues L made (c & cs) kids qs = AtEveryChild L false (rest made) cs (map rest kids) qs

abbrev pub OfEveryInterleave : Law → Type 0
OfEveryInterleave L =
    (data_buffer : ℕ → List ℕ) (S : List Column) (ps : List Pair) → 0 < length S → Accepted data_buffer (at S 0) S ps →
    AtEveryDepth L false (interleave S ps) (at S 0) S ps

-- What a node itself holds for a row, null or not: a list the number of its child rows, a view its words with the number of
-- its buffer in place of the position.
pub data Held : Type 0 where
  value : ℕ → Held
  flag : Bool → Held
  string : List ℕ → Held
  view : View → Held
  child_rows : ℕ → Held
  nothing_own : Held

abbrev pub by_number : (buffers : List ℕ) → View → View
by_number bs (short len inline) = short len inline
by_number bs (long len prefix position offset) = long len prefix (slice_index bs position) offset

abbrev pub held : Kind → Node → ℕ → Held
held (primitive w) n i = value (slice_index n.values i)
held boolean n i = flag (slice_index_or n.bits i false)
held strings n i = string (string_at n i)
held views n i = view (by_number n.buffers (view_at n i))
held lists n i = child_rows (offset_length n i)
held maps n i = child_rows (offset_length n i)
held structs n i = nothing_own
held run_ended n i = nothing_own
held (fixed_lists N) n i = child_rows N
held unknown n i = nothing_own

-- Row k is null where pair k's row is, and takes what that holds, under a null too.
abbrev pub RowLaw : Law
RowLaw in_list made S ps =
    (k : ℕ) → k < length ps →
    (valid (node made) k ≡ valid (node (at S (pair ps k).0)) (pair ps k).1)
    × (held (kind (node made)) (node made) k ≡ held (kind (node made)) (node (at S (pair ps k).0)) (pair ps k).1)

abbrev pub RowsTakeWhatIsHeld : Type 0
RowsTakeWhatIsHeld = OfEveryInterleave RowLaw

-- Run ends climb strictly to the length; a run stops exactly where no row follows or the next row has another source or entry.
abbrev pub RunStops : List Pair → ℕ → Type 0
RunStops es k = (suc k ≡ length es) ⊎ (pair es k ≢ pair es (suc k))

abbrev pub RunLaw : Law
RunLaw in_list made S ps =
    kind (node made) ≡ run_ended →
    Climbs 0 (ends_of (children made)) (length ps)
    × ((k : ℕ) → k < length ps → In (suc k) (ends_of (children made)) ↔ RunStops (entries S ps) k)

abbrev pub RunsStopWhereEntriesChange : Type 0
RunsStopWhereEntriesChange = OfEveryInterleave RunLaw

-- The buffers that a node's long views use, in row order.
abbrev pub uses : Node → List ℕ
uses n = flat_map (claim n.buffers) n.views

abbrev pub UsedLater : List ℕ → ℕ → List ℕ → Type 0
UsedLater us b [] = Unit {0}
UsedLater us b (x ∷ xs) = (place b us < place x us) × UsedLater us b xs

-- Each is first used before all that come after it: so none stands twice.
abbrev pub ByFirstUse : List ℕ → List ℕ → Type 0
ByFirstUse us [] = Unit {0}
ByFirstUse us (b ∷ bs) = UsedLater us b bs × ByFirstUse us bs

-- A view node's long views, null or not, use the buffers that the rows taken claim, in pair order; it lists exactly these,
-- once each, in first-use order.
abbrev pub BufferLaw : Law
BufferLaw in_list made S ps =
    kind (node made) ≡ views →
    (uses (node made) ≡ claims S ps)
    × ((b : ℕ) → In b (node made).buffers ↔ In b (uses (node made)))
    × ByFirstUse (uses (node made)) (node made).buffers

abbrev pub BuffersListedByFirstUse : Type 0
BuffersListedByFirstUse = OfEveryInterleave BufferLaw

-- The offsets of byte strings, lists and maps are the running totals, from 0, of the lengths of the rows taken.
abbrev pub OffsetLaw : Law
OffsetLaw in_list made S ps = has_offsets (kind (node made)) ≡ true → (node made).offsets ≡ totals (source_ranges (kind (node made)) S) ps

abbrev pub OffsetsAreTotals : Type 0
OffsetsAreTotals = OfEveryInterleave OffsetLaw

-- With no pairs a made node is empty: a single offset 0, no mask, no buffers.
pub record Empty (n : Node) : Type 0 where
  pub no_rows : n.rows ≡ 0
  pub no_mask : n.mask ≡ none
  pub one_offset : has_offsets (kind n) ≡ true → n.offsets ≡ 0 ∷ []
  pub no_values : n.values ≡ []
  pub no_bits : n.bits ≡ []
  pub no_text : n.text ≡ []
  pub no_views : n.views ≡ []
  pub no_buffers : n.buffers ≡ []

abbrev pub EmptyLaw : Law
EmptyLaw in_list made S ps = length ps ≡ 0 → Empty (node made)

abbrev pub NoPairsMakeEmpty : Type 0
NoPairsMakeEmpty = OfEveryInterleave EmptyLaw

-- A mask is made exactly when some source's node has a null by its own mask, copied or not; a primitive child of a list
-- or fixed-size list instead has one exactly when a copied row is null. With no pairs there is none.
abbrev pub Masked : Node → Type 0
Masked n = n.mask ≡ none → ⊥

abbrev pub SourceNull : List Column → Type 0
SourceNull S = (s : ℕ) × (s < length S) × ((i : ℕ) × (valid (node (at S s)) i ≡ false))

abbrev pub CopiedNull : List Column → List Pair → Type 0
CopiedNull S ps = (k : ℕ) × (k < length ps) × (valid (node (at S (pair ps k).0)) (pair ps k).1 ≡ false)

abbrev pub MaskLaw : Law
MaskLaw in_list made S ps =
    (length ps ≡ 0 → (node made).mask ≡ none)
    × (0 < length ps → (in_list && is_primitive (kind (node made))) ≡ true → Masked (node made) ↔ CopiedNull S ps)
    × (0 < length ps → (in_list && is_primitive (kind (node made))) ≡ false → Masked (node made) ↔ SourceNull S)

abbrev pub MasksMadeWhereNeeded : Type 0
MasksMadeWhereNeeded = OfEveryInterleave MaskLaw
