-- What standing pools give those who file.
use Rattle.std.proofs.Common.{◌≡◌, ℕ, ◌+◌, ◌-◌, ◌<◌, ◌≤◌, ◌⊎◌, List, [], ◌∷◌, ◌++◌, map, length, get_or, sym, refl, ap, ◌∙◌, subst, inl, inr, arith}
use mathlib.Core.Logic.{∥∥₁_elim}
use mathlib.Core.Option.{none}
use native.Mathlib.Bridge.{le_prop}
use Rattle.std.specs.List.{AllByRecursion, AllByRecursion-prop}
use Rattle.std.proofs.lemmas.List.{get_or_past}
use Rattle.columns.specs.Pools.{Entries, of_pool, pools}
use Rattle.columns.specs.Reading.{Outcome, denied, reached}
use Rattle.columns.specs.Parcel.{Found, parcel_read}
use Rattle.columns.specs.Ledger.{Call, Ledger, empty, ◌then◌, filing, interleaving, Shelf, shelf_of, filed_on}
use Rattle.columns.proofs.Follow.{span_at}
use Rattle.pools.specs.declared.pools.Pools.{Pools}
use Rattle.pools.specs.declared.records.Part.{Part}
use Rattle.pools.specs.Used.{used}
use Rattle.pools.specs.Parts.{buffers_in}
use Rattle.pools.specs.Marked.{marks_of, entries}
use Rattle.pools.proofs.Rooms.{counts_are_marks}
use Rattle.parcels.specs.Reads.{Within}
use Rattle.pools.specs.declared.entries.Entries.{Entries as Listed}
use Rattle.pools.specs.Marked.{listed}
use Rattle.admission.specs.Examine as examined
use Rattle.parcels.specs.declared.draft.Draft.{Draft}
use Rattle.parcels.specs.Drafts.{Outlined}
use Rattle.filing.specs.Accepted.{Accepted}
use Rattle.pools.specs.Kept.{Kept}
use Rattle.pools.specs.Marked.{lengths_of}
use Rattle.columns.specs.Ledger.{file_denial}
use Rattle.shelf.specs.Stands.{Stands, Reached, lengths, ledger}

-- The marks of a ledger's shelf are those of eleven pools at most.
filed_few : (s : Shelf) (o : Outcome Found) → length s.marks ≤ 11 → length (filed_on s o).marks ≤ 11
filed_few s (denied d) h = h
filed_few s (reached f p) h = omega arith

marks_few : (L : Ledger) → length (shelf_of L).marks ≤ 11
unfolding shelf_of
marks_few empty = omega arith
marks_few (L then (filing parcel)) = filed_few (shelf_of L) (parcel_read (shelf_of L).buffers parcel) (marks_few L)
marks_few (L then (interleaving js ps)) = omega arith

split : (k n : ℕ) → (k < n) ⊎ (n ≤ k)
split k n = grind arith

-- Marks that agree for the eleven pools agree.
marks_agree : (m es : Entries) → length m ≤ 11 → length es ≡ 11 → map (of_pool m) pools ≡ es → (k : ℕ) → get_or m k 0 ≡ get_or es k 0
marks_agree m es few full e k =
    elim (split k 11) [
      | inl h ↦ sym (ap (λ (l : List ℕ). get_or l k 0) (sym e) ∙ span_at (of_pool m) 1 11 k 0 h ∙ ap (λ (j : ℕ). get_or m j 0) (let z : 1 + k - 1 ≡ k = omega arith in z))
      | inr h ↦ get_or_past m k 0 (omega arith) ∙ sym (get_or_past es k 0 (omega arith))
    ]

-- All that is asked of the shelf before a parcel is examined.
pub to_examine : {calls : List Call} (p : Pools) (slip : ℕ) (bytes : List ℕ) (buffers : List Part) (long taken : Listed) → bytes ≡ used p.bytes → buffers ≡ used p.buffers →
    listed long ≡ lengths p slip → listed taken ≡ entries (marks_of p) ++ 0 ∷ [] → Stands calls p slip →
    examined.Stands (lengths p slip) (shelf_of (ledger p slip calls)) bytes buffers long taken
to_examine {calls} p slip bytes buffers long taken b q l m s =
    let L : Ledger = ledger p slip calls in
    record {
      held = sym s.shows.buffers.are ∙ ap (λ (xs : List ℕ). buffers_in xs (used p.buffers)) (sym b) ∙ ap (buffers_in bytes) (sym q);
      ends = λ pool. ap (λ (es : Entries). of_pool es pool) (sym l);
      marks = λ pool. marks_agree (shelf_of L).marks (listed taken) (marks_few L) refl (s.shows.marks ∙ (counts_are_marks p s.ready ∙ sym m)) (pool - 1);
    }

-- The data buffers lie in the byte pool.
pub within_bytes : (p : Pools) (slip : ℕ) (bytes : List ℕ) (buffers : List Part) → bytes ≡ used p.bytes → buffers ≡ used p.buffers → ∥ Reached p slip ∥₁ → AllByRecursion (Within bytes) buffers
within_bytes p slip bytes buffers b q some_calls =
    ∥∥₁_elim some_calls (AllByRecursion-prop (Within bytes) (λ x. le_prop) buffers) (λ r.
    subst (λ (xs : List ℕ). AllByRecursion (Within xs) buffers) (sym b) (subst (AllByRecursion (Within (used p.bytes))) (sym q) r.1.shows.buffers.inside))

-- Drafts of a parcel that is not denied are accepted.
pub to_store : {calls : List Call} (p : Pools) (slip : ℕ) (bytes : List ℕ) (buffers : List Part) (parcel : List ℕ) (drafts : List Draft) → bytes ≡ used p.bytes → buffers ≡ used p.buffers →
    Outlined (buffers_in bytes buffers) parcel drafts → none ≡ file_denial (lengths p slip) (shelf_of (ledger p slip calls)) (parcel_read (shelf_of (ledger p slip calls)).buffers parcel) →
    Stands calls p slip → Accepted p slip (shelf_of (ledger p slip calls)) parcel drafts
to_store {calls} p slip bytes buffers parcel drafts b q outlined undenied s =
    let same : buffers_in bytes buffers ≡ (shelf_of (ledger p slip calls)).buffers = ap (λ (xs : List ℕ). buffers_in xs buffers) b ∙ ap (buffers_in (used p.bytes)) q ∙ s.shows.buffers.are in
    record { shows = s.shows; outlined = subst (λ (bs : List (List ℕ)). Outlined bs parcel drafts) same outlined; undenied = sym undenied }

-- Pools that have only grown are as long as they were.
pub same_lengths : {p q : Pools} → Kept p q → lengths_of q ≡ lengths_of p
same_lengths k = λ i.
    record {
      columns = k.columns.len i;
      nodes = k.nodes.len i;
      bytes = k.bytes.len i;
      shorts = k.shorts.len i;
      words = k.words.len i;
      longs = k.longs.len i;
      offsets = k.offsets.len i;
      views = k.views.len i;
      lists = k.lists.len i;
      buffers = k.buffers.len i;
    }
