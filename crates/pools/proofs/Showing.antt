-- What the pools show of a shelf as columns and data buffers are added.
use Rattle.std.proofs.Common.{◌≡◌, ℕ, ◌+◌, ◌<◌, ◌⊎◌, List, [], ◌∷◌, ◌++◌, length, get_or, sym, refl, ap, ◌∙◌, subst, ap₂, inl, inr, ⊎_elim, arith}
use Rattle.std.specs.List.{AllByRecursion}
use Rattle.std.proofs.lemmas.List.{map-append, get_or_append_left, get_or_push, length_push, append-nil}
use Rattle.std.proofs.lemmas.Bool.{cases_lt}
use Rattle.std.proofs.ByRecursion.{All-append, All-weaker}
use Rattle.columns.specs.Column.{Column, nothing}
use Rattle.columns.specs.Pools.{Entries, plus, made_needs}
use Rattle.columns.specs.Column.{at}
use Rattle.columns.specs.Ledger.{Shelf, fresh, made_on}
use Rattle.pools.specs.declared.records.Part.{Part}
use Rattle.pools.specs.declared.records.ColumnEntry.{ColumnEntry}
use Rattle.pools.specs.declared.pools.Pools.{Pools}
use Rattle.pools.specs.Marked.{marked, no_marks}
use Rattle.pools.specs.Parts.{part_of, buffers_in, Inside}
use Rattle.pools.specs.Store.{Store, Front, Extends, store, root_of, no_column}
use Rattle.pools.specs.Stored.{Stored}
use Rattle.pools.specs.Shows.{ColumnsShown, Shelved, Shows, Added, with_column}
use Rattle.pools.proofs.Fronts.{front_length, front_get_or, segment_on}
use Rattle.pools.proofs.Staying.{stored_on}

-- Columns: those that were there, and a new one.
root_on : {P Q : Store} → Extends P Q → (j : ℕ) → j < length P.columns → root_of Q j ≡ root_of P j
root_on e j h = ap (λ (c : ColumnEntry). c.root) (front_get_or e.columns j no_column h)

pub column_on : {P Q : Store} {cs : List Column} → Extends P Q → ColumnsShown P cs → (j : ℕ) → j < length cs → Stored Q (root_of Q j) (at cs j)
column_on {P} {Q} {cs} e s j h =
    subst (λ i. Stored Q i (at cs j)) (sym (root_on e j (let k = s.count in omega arith))) (stored_on e (root_of P j) (at cs j) (s.stored j h))

pub columns_on : {P Q : Store} {cs : List Column} → Extends P Q → Q.columns ≡ P.columns → ColumnsShown P cs → ColumnsShown Q cs
columns_on e same s = record { count = ap length same ∙ s.count; stored = column_on e s }

last_or_before : (j n : ℕ) → j < n + 1 → (j < n) ⊎ (n ≡ j)
last_or_before j n h = ⊎_elim (λ l. inl l) (λ l. inr (omega arith)) (cases_lt j n)

columns_more : {P Q : Store} {cs : List Column} {c : Column} {new : List Part} {taken : Entries} → Added P Q c new taken → ColumnsShown P cs → ColumnsShown Q (cs ++ c ∷ [])
columns_more {P} {Q} {cs} {c} {new} {taken} a s =
    record {
      count = ap length a.columns ∙ length_push P.columns a.entry ∙ ap (λ n. n + 1) s.count ∙ sym (length_push cs c);
      stored = λ j h. go j (last_or_before j (length cs) (let e = length_push cs c in omega arith));
    }
  where
    go : (j : ℕ) → (j < length cs) ⊎ (length cs ≡ j) → Stored Q (root_of Q j) (at (cs ++ c ∷ []) j)
    go j (inl l) = subst (λ d. Stored Q (root_of Q j) d) (sym (get_or_append_left cs (c ∷ []) nothing j l)) (column_on a.extends s j l)
    go j (inr e) =
        let here : root_of Q j ≡ a.entry.root = ap (λ (es : List ColumnEntry). (get_or es j no_column).root) a.columns ∙ ap (λ (r : ColumnEntry). r.root) (get_or_push P.columns a.entry no_column j (s.count ∙ e)) in
        subst (λ i. Stored Q i (at (cs ++ c ∷ []) j)) (sym here)
        (subst (λ d. Stored Q a.entry.root d) (sym (get_or_push cs c nothing j e)) a.stored)

-- Data buffers.
part_on : {xs ys : List ℕ} (p : Part) → Front xs ys → Inside xs p → part_of ys p ≡ part_of xs p
part_on p f i = (segment_on f (record { within = i; is = refl })).is

inside_on : {xs ys : List ℕ} (p : Part) → Front xs ys → Inside xs p → Inside ys p
inside_on p f i = let l = front_length f in omega arith

pub buffers_on : {xs ys : List ℕ} (ps : List Part) → Front xs ys → AllByRecursion (Inside xs) ps → buffers_in ys ps ≡ buffers_in xs ps
buffers_on [] f h = refl
buffers_on (p ∷ ps) f h = ap₂ (λ (b : List ℕ) (bs : List (List ℕ)). b ∷ bs) (part_on p f h.0) (buffers_on ps f h.1)

pub shelved_more : {P Q : Store} {bs : List (List ℕ)} (new : List Part) → Extends P Q → Q.buffers ≡ P.buffers ++ new → AllByRecursion (Inside Q.bytes) new → Shelved P bs → Shelved Q (bs ++ buffers_in Q.bytes new)
shelved_more {P} {Q} {bs} new e grows i s =
    record {
      inside =
          subst (AllByRecursion (Inside Q.bytes)) (sym grows)
          (All-append (Inside Q.bytes) P.buffers new
          (All-weaker (Inside P.bytes) (Inside Q.bytes) (λ p. inside_on p e.bytes) P.buffers s.inside) i);
      are =
          ap (buffers_in Q.bytes) grows ∙ map-append (part_of Q.bytes) P.buffers new
          ∙ ap (λ (b : List (List ℕ)). b ++ buffers_in Q.bytes new) (buffers_on P.buffers e.bytes s.inside ∙ s.are);
    }

-- The whole shelf.
pub shows_added : {P Q : Store} {s : Shelf} {c : Column} {new : List Part} {taken : Entries} → Added P Q c new taken → Shows P s → Shows Q (with_column s c (s.buffers ++ buffers_in Q.bytes new) taken)
shows_added {P} {Q} {s} {c} {new} {taken} a h =
    record {
      columns = columns_more a h.columns;
      buffers = shelved_more new a.extends a.buffers a.inside h.buffers;
      marks = ap (λ (m : Entries). plus m taken) h.marks ∙ sym a.counted;
    }

pub shows_made : {P Q : Store} {s : Shelf} {c : Column} → Added P Q c [] (made_needs c) → Shows P s → Shows Q (made_on s c)
shows_made {P} {Q} {s} {c} a h =
    subst (λ bs. Shows Q (with_column s c bs (made_needs c))) (append-nil s.buffers) (shows_added a h)

pub shows_fresh : (p : Pools) → Shows (store (marked no_marks p)) fresh
shows_fresh p =
    record {
      columns = record { count = refl; stored = λ j h. absurd (omega arith) };
      buffers = record { inside = tt; are = refl };
      marks = refl;
    }
