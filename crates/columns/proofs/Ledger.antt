-- Every run keeps its promises.
use Rattle.std.proofs.Common.{◌≡◌, ℕ, zero, suc, ◌+◌, ◌-◌, ◌<◌, ◌≤◌, false, ltb, leb, ◌⊎◌, List, [], ◌∷◌, ◌++◌, map, length, get_or, sym, refl, ap, ◌∙◌, subst, ap₂, subst₂, inl, inr, append_assoc, append-nil, arith, length-drop}
use mathlib.Core.Option.{Option, some, none}
use lib.ListN.{length-map}
use Rattle.std.proofs.lemmas.Bool.{and_parts, leb-true, ltb-true, lt-ltb, le-ltb, cases_lt, cond-true, cond-false}
use Rattle.std.proofs.ByRecursion.{All-from_get_or}
use Rattle.std.proofs.lemmas.List.{get_or_append_left, get_or_push, length_push, get_or-map, get_or_past, length-append}
use Rattle.std.specs.List.{AllByRecursion}
use Rattle.columns.specs.Column.{Column, nothing, rows_of, at}
use Rattle.columns.specs.Says.{span, says}
use Rattle.columns.specs.Text.{text}
use Rattle.columns.specs.Gathering.{Pair}
use Rattle.columns.specs.Interleave.{interleave}
use Rattle.columns.specs.Types.{SameType, alike}
use Rattle.columns.specs.Sound.{Sound, ListsShelved}
use Rattle.columns.specs.Limits.{most_rows, WithinLimits}
use Rattle.columns.specs.Widths.{Bytes, WithinWidths}
use Rattle.columns.specs.Checks.{Denial, Check, denied_or, first_denial}
use Rattle.columns.specs.Reading.{Outcome, denied, reached, Place}
use Rattle.columns.specs.Parcel.{Found, parcel_read}
use Rattle.columns.specs.Pools.{Entries, of_pool, plus, one_column, filed_needs, making_checks}
use Rattle.columns.specs.Promises.{Accepted, MadeWell, WellRead, ParcelIsSound}
use Rattle.columns.specs.Laws.{Law, OfEveryInterleave, AtEveryDepth, RowLaw, RunLaw, BufferLaw, OffsetLaw, MaskLaw, EmptyLaw}
use Rattle.columns.specs.Chain.{NoRunEnds, SameLayout}
use Rattle.columns.specs.Ledger.{Line, filing, interleaving, Call, adds, reads, Shelf, Ledger, empty, ◌then◌, lines, first_lines, shelf_of, put, filed_on, made_on, next, after, add_unless, leads, line_leads, column_at, columns_at, buffer_at, known, inside, new_buffers, interleave_checks, file_checks, file_denial, line_denial, call_denial, read_checks, answer, added, wrote, unless_denied}
use Rattle.columns.specs.Run.{WithinPools, ShelvedColumnsStay, OfBytes, SaysParcel, AtAnyDepth, Filed, Interleaved, OnlyFullPool, Direct, Kept, EveryRunKeepsItsPromises}
use Rattle.columns.proofs.Gather.{map_map}
use Rattle.columns.proofs.Laws.{runs_stop_where_entries_change, buffers_listed_by_first_use, offsets_are_totals, masks_made_where_needed, no_pairs_make_empty}
use Rattle.columns.proofs.Made.{rows_made}
use Rattle.columns.proofs.Follow.{map_both, map_span}
use Rattle.columns.proofs.History.{History, Histories, filed, made, none as no_more, ◌also◌, column_of, columns_of, leads_to, source_leads, WentWell, AllWentWell}
use Rattle.columns.proofs.Chain.{chains_lay_out_as_direct, rows_say_what_they_lead_to}
use Rattle.columns.proofs.Held.{rows_take_what_is_held}
use Rattle.columns.proofs.Checked.{Passed, passed, none_denied, passed_left, passed_right, unless_none, none_fails, no_place_fails}
use Rattle.columns.proofs.Alike.{same_type, sound_grows, says_grows}
use Rattle.columns.proofs.Parcel.{lists_grow}
use Rattle.columns.proofs.MadeWell.{made_column_is_sound}
use Rattle.columns.proofs.Marks.{room_for, made_fits, made_slip, filed_slip, made_counts, filed_counts}

-- What is known of a shelf: its columns are sound, and each interleaved line made its column of earlier ones.
abbrev AllSound : Shelf → Type 0
AllSound s = (j : ℕ) → j < length s.columns → Sound (buffer_at s) (column_at s j)

abbrev Counted : Shelf → Type 0
Counted s = (of_pool s.marks 1 ≡ length s.columns) × (of_pool s.marks 10 ≡ length s.buffers)

abbrev AllListed : Shelf → Type 0
AllListed s = (j : ℕ) → j < length s.columns → ListsShelved (length s.buffers) (column_at s j)

abbrev AllLimited : Shelf → Type 0
AllLimited s = (j : ℕ) → j < length s.columns → WithinLimits (column_at s j)

abbrev AllWithin : Shelf → Type 0
AllWithin s = (j : ℕ) → j < length s.columns → WithinWidths (column_at s j)

record MadeBy (s : Shelf) (j : ℕ) (js : List ℕ) (ps : List Pair) : Type 0 where
  some_source : 0 < length js
  below : (i : ℕ) → i < length js → get_or js i 0 < j
  accepted : Accepted (buffer_at s) (at (columns_at s js) 0) (columns_at s js) ps
  is_made : column_at s j ≡ interleave (columns_at s js) ps

record Grows (s t : Shelf) : Type 0 where
  new : Column
  more : List (List ℕ)
  columns_are : t.columns ≡ s.columns ++ new ∷ []
  buffers_are : t.buffers ≡ s.buffers ++ more

columns_at_is : (s : Shelf) (js : List ℕ) (i : ℕ) → i < length js → at (columns_at s js) i ≡ column_at s (get_or js i 0)
columns_at_is s js i l = get_or-map (column_at s) js i 0 nothing l

-- growth
module _ (s t : Shelf) (g : Grows s t) where
  old_column : (j : ℕ) → j < length s.columns → column_at t j ≡ column_at s j
  old_column j l = ap (λ cs. at cs j) g.columns_are ∙ get_or_append_left s.columns (g.new ∷ []) nothing j l

  new_column : column_at t (length s.columns) ≡ g.new
  new_column = ap (λ cs. at cs (length s.columns)) g.columns_are ∙ get_or_push s.columns g.new nothing (length s.columns) refl

  one_more : length t.columns ≡ length s.columns + 1
  one_more = ap length g.columns_are ∙ length_push s.columns g.new

  old_columns : (js : List ℕ) → ((i : ℕ) → i < length js → get_or js i 0 < length s.columns) → columns_at t js ≡ columns_at s js
  old_columns [] h = refl
  old_columns (j ∷ js) h = ap₂ {C = List Column} (λ a b. a ∷ b) (old_column j (h 0 (omega arith))) (old_columns js (λ i l. h (suc i) (omega arith)))

  still_sound : (c : Column) → Sound (buffer_at s) c → Sound (buffer_at t) c
  still_sound c h = subst (λ (bs : List (List ℕ)). Sound (λ b. get_or bs b []) c) (sym g.buffers_are) (sound_grows s.buffers g.more c h)

  still_says_row : (c : Column) (k : ℕ) → Sound (buffer_at s) c → says (buffer_at t) c k ≡ says (buffer_at s) c k
  still_says_row c k h =
      ap (λ (bs : List (List ℕ)). says (λ b. get_or bs b []) c k) g.buffers_are ∙ sym (ap (λ f. f k) (says_grows s.buffers g.more c h))

  still_accepted : (c : Column) (S : List Column) (ps : List Pair) → Accepted (buffer_at s) c S ps → Accepted (buffer_at t) c S ps
  still_accepted c S ps a = record { sound = λ i l. still_sound (at S i) (a.sound i l); same = a.same; source_known = a.source_known; row_known = a.row_known }

  still_says : (before : List (List ℕ)) (parcel : List ℕ) (c : Column) → Sound (buffer_at s) c → SaysParcel before s.buffers parcel c → SaysParcel before t.buffers parcel c
  still_says before parcel c h x = subst (λ bs. SaysParcel before bs parcel c) (sym g.buffers_are) (record {
    found = x.found;
    place = x.place;
    decoded = x.decoded;
    is_found = x.is_found;
    says_found = λ k. sym (ap (λ f. f k) (says_grows s.buffers g.more c h)) ∙ x.says_found k;
    later = (x.later.0 ++ g.more, ap (λ bs. bs ++ g.more) x.later.1 ∙ append_assoc x.place.buffers x.later.0 g.more);
  })

  still_made : (j : ℕ) (js : List ℕ) (ps : List Pair) → j < length s.columns → MadeBy s j js ps → MadeBy t j js ps
  still_made j js ps l m =
      let e : columns_at t js ≡ columns_at s js = old_columns js (λ i b. let u = m.below i b in omega arith) in
      record {
        some_source = m.some_source;
        below = m.below;
        accepted = subst (λ S. Accepted (buffer_at t) (at S 0) S ps) (sym e) (still_accepted (at (columns_at s js) 0) (columns_at s js) ps m.accepted);
        is_made = old_column j l ∙ m.is_made ∙ ap (λ S. interleave S ps) (sym e);
      }

-- what an accepted interleave has been checked for
accepted_from : (lengths : Entries) (s : Shelf) (js : List ℕ) (ps : List Pair) → AllSound s → first_denial (interleave_checks lengths s js ps) ≡ none →
    (0 < length js) × ((i : ℕ) → i < length js → get_or js i 0 < length s.columns) × Accepted (buffer_at s) (at (columns_at s js) 0) (columns_at s js) ps
accepted_from lengths s js ps sound e = (ltb-true 0 (length js) (unless_none (ltb 0 (length js)) (length js) P.0), below, record { sound = each_sound; same = same; source_known = λ k l. (pair k l).0; row_known = λ k l. (pair k l).1 })
  where
    S : List Column
    S = columns_at s js

    P : Passed (interleave_checks lengths s js ps)
    P = passed (interleave_checks lengths s js ps) e

    many : length S ≡ length js
    many = length-map js (column_at s)

    below : (i : ℕ) → i < length js → get_or js i 0 < length s.columns
    below i l = ltb-true (get_or js i 0) (length s.columns) (none_fails (known s) js 0 P.1.1.1.0 i l)

    each_sound : (i : ℕ) → i < length S → Sound (buffer_at s) (at S i)
    each_sound i l =
        let b : i < length js = omega (arith, many) in
        subst (Sound (buffer_at s)) (sym (columns_at_is s js i b)) (sound (get_or js i 0) (below i b))

    same : (i : ℕ) → i < length S → SameType (at S 0) (at S i)
    same i l = same_type (at S 0) (at S i) (no_place_fails (alike (at S 0)) 0 S nothing P.1.1.1.1.0 i l)

    pair : (k : ℕ) → k < length ps → ((get_or ps k (0, 0)).0 < length S) × ((get_or ps k (0, 0)).1 < rows_of (at S (get_or ps k (0, 0)).0))
    pair k l =
        let p : Pair = get_or ps k (0, 0) in
        let t = and_parts (ltb p.0 (length S)) (ltb p.1 (rows_of (at S p.0))) (no_place_fails (inside S) 0 ps (0, 0) P.1.1.1.1.1.0 k l) in
        (ltb-true p.0 (length S) t.0, ltb-true p.1 (rows_of (at S p.0)) t.1)

past_line : (xs : List Line) (l : Line) (j : ℕ) → length xs ≤ j → ((j ≡ length xs) × (get_or (xs ++ l ∷ []) j (filing []) ≡ l)) ⊎ (get_or (xs ++ l ∷ []) j (filing []) ≡ filing [])
past_line xs l j h = elim (cases_lt (length xs) j) [
  | inl b ↦ inr (get_or_past (xs ++ l ∷ []) j (filing []) (simp length_push (omega arith)))
  | inr b ↦ let e : length xs ≡ j = omega arith in inl (sym e, get_or_push xs l (filing []) j e)
]

-- an interleaving that stands past the others is the last line
last_line : (xs : List Line) (l : Line) (j : ℕ) (js : List ℕ) (ps : List Pair) → get_or (xs ++ l ∷ []) j (filing []) ≡ interleaving js ps → length xs ≤ j → (j ≡ length xs) × (l ≡ interleaving js ps)
last_line xs l j js ps e h = elim (past_line xs l j h) [ inl q ↦ (q.0, sym q.1 ∙ e) | inr q ↦ absurd (let z : ◌≡◌ {A = ℕ} 0 1 = cc in omega arith) ]

first_old : (L : Ledger) (l : Line) (j : ℕ) → j ≤ length (lines L) → first_lines j (L then l) ≡ first_lines j L
first_old L l j h = cond-false (ltb (length (lines L)) j) (L then l) (first_lines j L) (le-ltb (length (lines L)) j h)

first_all : (L : Ledger) → first_lines (length (lines L)) L ≡ L
first_all empty = refl
first_all (L then l) = cond-true (ltb (length (lines L)) (length (lines L ++ l ∷ []))) (L then l) (first_lines (length (lines L ++ l ∷ [])) L) (lt-ltb (length (lines L)) (length (lines L ++ l ∷ [])) (simp length_push (omega arith)))

filed_denial : (lengths : Entries) (s : Shelf) (f : Found) (p : Place) → first_denial (file_checks lengths s f p) ≡ none → first_denial f.checks ≡ none
filed_denial lengths s f p e = none_denied f.checks (passed_left f.checks _ (passed (file_checks lengths s f p) e))

all_parts : {X : Type 0} (P : X → Type 0) (xs ys : List X) → AllByRecursion P (xs ++ ys) → AllByRecursion P xs × AllByRecursion P ys
all_parts P [] ys h = (tt, h)
all_parts P (x ∷ xs) ys h = let r = all_parts P xs ys h.1 in ((h.0, r.0), r.1)

record Known (lengths : Entries) (L : Ledger) : Type 0 where
  within : WithinPools lengths (shelf_of L).marks
  slip : of_pool (shelf_of L).marks 11 ≡ 0
  counts : Counted (shelf_of L)
  as_many : length (shelf_of L).columns ≡ length (lines L)
  all_sound : AllSound (shelf_of L)
  all_listed : AllListed (shelf_of L)
  all_limited : AllLimited (shelf_of L)
  of_bytes : AllByRecursion OfBytes (lines L) → AllWithin (shelf_of L) × AllByRecursion Bytes (shelf_of L).buffers
  made_by : (j : ℕ) (js : List ℕ) (ps : List Pair) → Interleaved L j js ps → (j < length (lines L)) × MadeBy (shelf_of L) j js ps
  filed_by : (j : ℕ) (parcel : List ℕ) → j < length (lines L) → get_or (lines L) j (filing []) ≡ filing parcel → SaysParcel (shelf_of (first_lines j L)).buffers (shelf_of L).buffers parcel (column_at (shelf_of L) j)

-- what an accepted line adds, its shelf after it being t
record AddsWell (s t : Shelf) (l : Line) : Type 0 where
  grows : Grows s t
  sound : Sound (buffer_at t) grows.new
  listed : AllListed s → ListsShelved (length t.buffers) grows.new
  limits : WithinLimits grows.new
  widths : OfBytes l → AllWithin s → WithinWidths grows.new
  bytes : OfBytes l → AllByRecursion Bytes s.buffers → AllByRecursion Bytes t.buffers

module _ (decoded : ParcelIsSound) (lengths : Entries) where
  -- each line was accepted on the shelf that it found
  abbrev Valid : Ledger → Type 0
  Valid empty = Unit {0}
  Valid (L then l) = Valid L × (line_denial lengths (shelf_of L) l ≡ none)

  valid_add : (o : Option Denial) (L : Ledger) (l : Line) → line_denial lengths (shelf_of L) l ≡ o → Valid L → Valid (add_unless o L l)
  valid_add none L l e v = (v, e)
  valid_add (some d) L l e v = v

  valid_next : (L : Ledger) (c : Call) → Valid L → Valid (next lengths L c)
  valid_next L (adds l) v = valid_add (line_denial lengths (shelf_of L) l) L l refl v
  valid_next L (reads j r room) v = v

  valid_after : (L : Ledger) (cs : List Call) → Valid L → Valid (after lengths L cs)
  valid_after L [] v = v
  valid_after L (c ∷ cs) v = valid_after (next lengths L c) cs (valid_next L c v)

  filed_well : (s : Shelf) (parcel : List ℕ) (o : Outcome Found) → parcel_read s.buffers parcel ≡ o → file_denial lengths s o ≡ none → AddsWell s (filed_on s o) (filing parcel)
  filed_well s parcel (denied d) r e = absurd (let z : ◌≡◌ {A = ℕ} 0 1 = cc in omega arith)
  filed_well s parcel (reached f p) r e =
      let W : WellRead s.buffers parcel f p = decoded s.buffers parcel f p r (filed_denial lengths s f p e) in
      record {
        grows = record { new = f.found; more = W.only_adds.0; columns_are = refl; buffers_are = W.only_adds.1 };
        sound = W.sound;
        listed = λ known. W.lists_shelved;
        limits = W.within_limits;
        widths = λ b known. W.within_widths b;
        bytes = W.buffers_of_bytes;
      }

  abbrev made_grows : (s : Shelf) (c : Column) → Grows s (made_on s c)
  made_grows s c = record { new = c; more = []; columns_are = refl; buffers_are = sym (append-nil s.buffers) }

  line_well : (s : Shelf) (l : Line) → AllSound s → AllLimited s → line_denial lengths s l ≡ none → AddsWell s (put s l) l
  line_well s (filing parcel) sound limited e = filed_well s parcel (parcel_read s.buffers parcel) refl e
  line_well s (interleaving js ps) sound limited e = record {
    grows = made_grows s (interleave S ps);
    sound = M.sound;
    listed = λ known. M.lists_shelved (length s.buffers) (λ i l. let h : i < length js = omega (arith, length-map js (column_at s)) in subst (ListsShelved (length s.buffers)) (sym (columns_at_is s js i h)) (known (get_or js i 0) (a.1 i h)));
    limits = limits;
    widths = λ b known. M.within_widths limits (λ i l. let h : i < length js = omega (arith, length-map js (column_at s)) in subst WithinWidths (sym (columns_at_is s js i h)) (known (get_or js i 0) (a.1 i h)));
    bytes = λ b h. h;
  }
    where
      S : List Column
      S = columns_at s js

      a : (0 < length js) × ((i : ℕ) → i < length js → get_or js i 0 < length s.columns) × Accepted (buffer_at s) (at S 0) S ps
      a = accepted_from lengths s js ps sound e

      P : Passed (interleave_checks lengths s js ps)
      P = passed (interleave_checks lengths s js ps) e

      M : MadeWell (buffer_at s) S ps
      M = made_column_is_sound (buffer_at s) S ps (subst (λ n. 0 < n) (sym (length-map js (column_at s))) a.0) a.2

      limits : WithinLimits (interleave S ps)
      limits =
          M.within_limits lengths (plus s.marks one_column) (leb-true (length ps) most_rows (unless_none (leb (length ps) most_rows) (length ps) P.1.1.0))
          (subst WithinLimits (sym (columns_at_is s js 0 a.0)) (limited (get_or js 0 0) (a.1 0 a.0)))
          (none_denied (making_checks lengths (plus s.marks one_column) (interleave S ps)) P.1.1.1.1.1.1.1)

  filed_says : (s : Shelf) (parcel : List ℕ) (o : Outcome Found) → parcel_read s.buffers parcel ≡ o → file_denial lengths s o ≡ none →
      SaysParcel s.buffers (filed_on s o).buffers parcel (column_at (filed_on s o) (length s.columns))
  filed_says s parcel (denied d) r e = absurd (let z : ◌≡◌ {A = ℕ} 0 1 = cc in omega arith)
  filed_says s parcel (reached f p) r e =
      let last : column_at (filed_on s (reached f p)) (length s.columns) ≡ f.found = get_or_push s.columns f.found nothing (length s.columns) refl in
      record { found = f; place = p; decoded = r; is_found = last; says_found = λ k. ap (λ c. says (λ b. get_or p.buffers b []) c k) last; later = ([], sym (append-nil p.buffers)) }

  new_says : (s : Shelf) (parcel : List ℕ) → line_denial lengths s (filing parcel) ≡ none → SaysParcel s.buffers (put s (filing parcel)).buffers parcel (column_at (put s (filing parcel)) (length s.columns))
  new_says s parcel e = filed_says s parcel (parcel_read s.buffers parcel) refl e

  new_is_made : (s : Shelf) (js : List ℕ) (ps : List Pair) → AllSound s → line_denial lengths s (interleaving js ps) ≡ none → MadeBy (put s (interleaving js ps)) (length s.columns) js ps
  new_is_made s js ps sound e =
      let a = accepted_from lengths s js ps sound e in
      let g : Grows s (put s (interleaving js ps)) = made_grows s (interleave (columns_at s js) ps) in
      let t : Shelf = put s (interleaving js ps) in
      let q : columns_at t js ≡ columns_at s js = old_columns s t g js a.1 in
      record {
        some_source = a.0;
        below = a.1;
        accepted = subst (λ S. Accepted (buffer_at t) (at S 0) S ps) (sym q) a.2;
        is_made = new_column s t g ∙ ap (λ S. interleave S ps) (sym q);
      }

  filed_marks : (s : Shelf) (o : Outcome Found) → WithinPools lengths s.marks → file_denial lengths s o ≡ none → WithinPools lengths (filed_on s o).marks
  filed_marks s (denied d) w e = w
  filed_marks s (reached f p) w e = room_for lengths s.marks (filed_needs f.found (new_buffers s p)) (passed_right f.checks _ (passed (file_checks lengths s f p) e)).0

  marks_fit : (s : Shelf) (l : Line) → WithinPools lengths s.marks → line_denial lengths s l ≡ none → WithinPools lengths (put s l).marks
  marks_fit s (filing parcel) w e = filed_marks s (parcel_read s.buffers parcel) w e
  marks_fit s (interleaving js ps) w e = made_fits lengths s.marks (interleave (columns_at s js) ps) (passed (interleave_checks lengths s js ps) e).1.1.1.1.1.1.1

  filed_still : (s : Shelf) (o : Outcome Found) → of_pool s.marks 11 ≡ 0 → of_pool (filed_on s o).marks 11 ≡ 0
  filed_still s (denied d) z = z
  filed_still s (reached f p) z = filed_slip s.marks f.found (new_buffers s p) z

  slip_still : (s : Shelf) (l : Line) → of_pool s.marks 11 ≡ 0 → line_denial lengths s l ≡ none → of_pool (put s l).marks 11 ≡ 0
  slip_still s (filing parcel) z e = filed_still s (parcel_read s.buffers parcel) z
  slip_still s (interleaving js ps) z e = made_slip s.marks (interleave (columns_at s js) ps) z

  filed_counted : (s : Shelf) (o : Outcome Found) → Grows s (filed_on s o) → file_denial lengths s o ≡ none → Counted s → Counted (filed_on s o)
  filed_counted s (denied d) g e c = c
  filed_counted s (reached f p) g e c =
      let h = filed_counts s.marks f.found (new_buffers s p) in
      let a = length_push s.columns f.found in
      let b : length (new_buffers s p) ≡ length p.buffers - length s.buffers = length-drop (length s.buffers) p.buffers in
      let m : length p.buffers ≡ length s.buffers + length g.more = ap length g.buffers_are ∙ length-append s.buffers g.more in
      (omega arith, omega arith)

  still_counted : (s : Shelf) (l : Line) → Grows s (put s l) → line_denial lengths s l ≡ none → Counted s → Counted (put s l)
  still_counted s (filing parcel) g e c = filed_counted s (parcel_read s.buffers parcel) g e c
  still_counted s (interleaving js ps) g e c =
      let h = made_counts s.marks (interleave (columns_at s js) ps) in
      let a = length_push s.columns (interleave (columns_at s js) ps) in
      (omega arith, omega arith)

  all_known : (L : Ledger) → Valid L → Known lengths L
  unfolding shelf_of
  all_known empty v = record { as_many = refl; within = λ i l. (omega arith, omega arith); slip = refl; counts = (refl, refl); all_sound = λ j l. absurd (omega arith); all_listed = λ j l. absurd (omega arith); all_limited = λ j l. absurd (omega arith); of_bytes = λ b. ((λ j l. absurd (omega arith)), tt); made_by = λ j js ps e. absurd (let z : ◌≡◌ {A = ℕ} 0 1 = cc in omega arith); filed_by = λ j parcel l e. absurd (omega arith) }
  all_known (L then l) v = step (all_known L v.0)
    where
      s : Shelf
      s = shelf_of L

      step : Known lengths L → Known lengths (L then l)
      step K = record { as_many = counted; within = marks_fit s l K.within v.1; slip = slip_still s l K.slip v.1; counts = still_counted s l G.grows v.1 K.counts; all_sound = sounds; all_listed = listed; all_limited = limited; of_bytes = bytes; made_by = made_step; filed_by = filed_step }
        where
          G : AddsWell s (put s l) l
          G = line_well s l K.all_sound K.all_limited v.1

          counted : length (put s l).columns ≡ length (lines L ++ l ∷ [])
          counted = one_more s (put s l) G.grows ∙ ap (λ n. n + 1) K.as_many ∙ sym (length_push (lines L) l)

          each_column : (P : Column → Type 0) → ((j : ℕ) → j < length s.columns → P (column_at s j)) → P G.grows.new → (j : ℕ) → j < length (put s l).columns → P (column_at (put s l) j)
          each_column P old new j h = elim (cases_lt j (length s.columns)) [
            | inl b ↦ subst P (sym (old_column s (put s l) G.grows j b)) (old j b)
            | inr b ↦
                let m : j ≡ length s.columns = omega (arith, one_more s (put s l) G.grows) in
                subst P (sym (ap (column_at (put s l)) m ∙ new_column s (put s l) G.grows)) new
          ]

          sounds : AllSound (put s l)
          sounds = each_column (Sound (buffer_at (put s l))) (λ j b. still_sound s (put s l) G.grows (column_at s j) (K.all_sound j b)) G.sound

          listed : AllListed (put s l)
          listed =
              each_column (ListsShelved (length (put s l).buffers))
              (λ j b. lists_grow (length s.buffers) (length (put s l).buffers) (let e = ap length G.grows.buffers_are in let m = length-append s.buffers G.grows.more in omega arith) (column_at s j) (K.all_listed j b))
              (G.listed K.all_listed)

          limited : AllLimited (put s l)
          limited = each_column WithinLimits K.all_limited G.limits

          bytes : AllByRecursion OfBytes (lines L ++ l ∷ []) → AllWithin (put s l) × AllByRecursion Bytes (put s l).buffers
          bytes b =
              let p = all_parts OfBytes (lines L) (l ∷ []) b in
              let old = K.of_bytes p.0 in
              (each_column WithinWidths old.0 (G.widths p.1.0 old.0), G.bytes p.1.0 old.1)

          made_step : (j : ℕ) (js : List ℕ) (ps : List Pair) → Interleaved (L then l) j js ps → (j < length (lines L ++ l ∷ [])) × MadeBy (put s l) j js ps
          made_step j js ps e = elim (cases_lt j (length (lines L))) [
            | inl b ↦
                let m = K.made_by j js ps (sym (get_or_append_left (lines L) (l ∷ []) (filing []) j b) ∙ e) in
                let b' : j < length s.columns = omega (arith, K.as_many) in
                (simp length_push (omega arith), still_made s (put s l) G.grows j js ps b' m.1)
            | inr b ↦
                let q = last_line (lines L) l j js ps e b in
                let at_end : j ≡ length s.columns = q.0 ∙ sym K.as_many in
                let made_here : MadeBy (put s l) (length s.columns) js ps =
                subst (λ l. line_denial lengths s l ≡ none → MadeBy (put s l) (length s.columns) js ps) (sym q.1) (new_is_made s js ps K.all_sound) v.1 in
                (simp length_push (omega arith), subst (λ i. MadeBy (put s l) i js ps) (sym at_end) made_here)
          ]

          filed_step : (j : ℕ) (parcel : List ℕ) → j < length (lines L ++ l ∷ []) → get_or (lines L ++ l ∷ []) j (filing []) ≡ filing parcel →
              SaysParcel (shelf_of (first_lines j (L then l))).buffers (put s l).buffers parcel (column_at (put s l) j)
          filed_step j parcel h e = elim (cases_lt j (length (lines L))) [
            | inl b ↦
                let b' : j < length s.columns = omega (arith, K.as_many) in
                subst₂ (λ N c. SaysParcel (shelf_of N).buffers (put s l).buffers parcel c) (sym (first_old L l j (omega arith))) (sym (old_column s (put s l) G.grows j b'))
                (still_says s (put s l) G.grows (shelf_of (first_lines j L)).buffers parcel (column_at s j) (K.all_sound j b')
                (K.filed_by j parcel b (sym (get_or_append_left (lines L) (l ∷ []) (filing []) j b) ∙ e)))
            | inr b ↦
                let m : length (lines L) ≡ j = omega (arith, length_push (lines L) l) in
                let q : l ≡ filing parcel = sym (get_or_push (lines L) l (filing []) j m) ∙ e in
                let at_end : length s.columns ≡ j = K.as_many ∙ m in
                let N : L ≡ first_lines j (L then l) = sym (first_old L l j (omega arith) ∙ ap (λ i. first_lines i L) (sym m) ∙ first_all L) in
                subst₂ (λ N i. SaysParcel (shelf_of N).buffers (put s l).buffers parcel (column_at (put s l) i)) N at_end
                (subst (λ x. line_denial lengths s x ≡ none → SaysParcel s.buffers (put s x).buffers parcel (column_at (put s x) (length s.columns))) (sym q) (new_says s parcel) v.1)
          ]

-- where rows lead
leads_old : (L : Ledger) (l : Line) (j k : ℕ) → j < length (lines L) → leads (L then l) j k ≡ leads L j k
unfolding leads
leads_old L l j k b = cond-true (ltb j (length (lines L))) (leads L j k) (line_leads (leads L) l j k) (lt-ltb j (length (lines L)) b)

leads_last : (L : Ledger) (l : Line) (j k : ℕ) → length (lines L) ≤ j → leads (L then l) j k ≡ line_leads (leads L) l j k
unfolding leads
leads_last L l j k b = cond-false (ltb j (length (lines L))) (leads L j k) (line_leads (leads L) l j k) (le-ltb j (length (lines L)) b)

leads_filed : (L : Ledger) (j k : ℕ) (parcel : List ℕ) → j < length (lines L) → get_or (lines L) j (filing []) ≡ filing parcel → leads L j k ≡ (j, k)
leads_filed empty j k parcel b e = absurd (omega arith)
leads_filed (L then l) j k parcel b e = elim (cases_lt j (length (lines L))) [
  | inl h ↦ leads_old L l j k h ∙ leads_filed L j k parcel h (sym (get_or_append_left (lines L) (l ∷ []) (filing []) j h) ∙ e)
  | inr h ↦
      let m : length (lines L) ≡ j = omega (arith, length_push (lines L) l) in
      let q : l ≡ filing parcel = sym (get_or_push (lines L) l (filing []) j m) ∙ e in
      leads_last L l j k h ∙ ap (λ x. line_leads (leads L) x j k) q
]

leads_made : (L : Ledger) (j k : ℕ) (js : List ℕ) (ps : List Pair) → Interleaved L j js ps → get_or js (get_or ps k (0, 0)).0 0 < j →
    leads L j k ≡ leads L (get_or js (get_or ps k (0, 0)).0 0) (get_or ps k (0, 0)).1
leads_made empty j k js ps e b = absurd (let z : ◌≡◌ {A = ℕ} 0 1 = cc in omega arith)
leads_made (L then l) j k js ps e b =
    let a : ℕ = get_or js (get_or ps k (0, 0)).0 0 in
    let r : ℕ = (get_or ps k (0, 0)).1 in
    elim (cases_lt j (length (lines L))) [
      | inl h ↦ leads_old L l j k h ∙ leads_made L j k js ps (sym (get_or_append_left (lines L) (l ∷ []) (filing []) j h) ∙ e) b ∙ sym (leads_old L l a r (omega arith))
      | inr h ↦
          let q = last_line (lines L) l j js ps e h in
          let c : a < length (lines L) = omega arith in
          leads_last L l j k h ∙ ap (λ x. line_leads (leads L) x j k) q.1 ∙ sym (leads_old L l a r c)
    ]

-- how a column came to be
abbrev histories : (ℕ → History) → List ℕ → Histories
histories f [] = no_more
histories f (j ∷ js) = f j also histories f js

abbrev line_history : (ℕ → History) → Column → Line → History
line_history f c (filing parcel) = filed c
line_history f c (interleaving js ps) = made (histories f js) ps

abbrev history : Ledger → (n : ℕ) → ℕ → History
history L zero j = filed (column_at (shelf_of L) j)
history L (suc n) j = line_history (history L n) (column_at (shelf_of L) j) (get_or (lines L) j (filing []))

columns_of_histories : (s : Shelf) (f : ℕ → History) (js : List ℕ) → ((i : ℕ) → i < length js → column_of (f (get_or js i 0)) ≡ column_at s (get_or js i 0)) → columns_of (histories f js) ≡ columns_at s js
unfolding column_of
columns_of_histories s f [] h = refl
columns_of_histories s f (j ∷ js) h = ap₂ {C = List Column} (λ a b. a ∷ b) (h 0 (omega arith)) (columns_of_histories s f js (λ i l. h (suc i) (omega arith)))

all_went_well : (D : ℕ → List ℕ) (f : ℕ → History) (js : List ℕ) → ((i : ℕ) → i < length js → WentWell D (f (get_or js i 0))) → AllWentWell D (histories f js)
unfolding WentWell
all_went_well D f [] h = tt
all_went_well D f (j ∷ js) h = (h 0 (omega arith), all_went_well D f js (λ i l. h (suc i) (omega arith)))

source_leads_is : (f : ℕ → History) (js : List ℕ) (a r : ℕ) → a < length js → source_leads (histories f js) a r ≡ leads_to (f (get_or js a 0)) r
unfolding leads_to
source_leads_is f [] a r l = absurd (omega arith)
source_leads_is f (j ∷ js) zero r l = refl
source_leads_is f (j ∷ js) (suc a) r l = source_leads_is f js a r (omega arith)

record Traced (L : Ledger) (h : History) (j : ℕ) : Type 0 where
  col : column_of h ≡ column_at (shelf_of L) j
  well : WentWell (buffer_at (shelf_of L)) h
  lead : (k : ℕ) → k < rows_of (column_at (shelf_of L) j) → leads_to h k ≡ (column_at (shelf_of L) (leads L j k).0, (leads L j k).1)
  home : (k : ℕ) → k < rows_of (column_at (shelf_of L) j) → Filed L (leads L j k).0 × ((leads L j k).1 < rows_of (column_at (shelf_of L) (leads L j k).0))

module _ (lengths : Entries) (L : Ledger) (K : Known lengths L) where
  abbrev s : Shelf
  s = shelf_of L

  -- where pair k of an interleaved line leads
  module _ (j : ℕ) (js : List ℕ) (ps : List Pair) (M : MadeBy (shelf_of L) j js ps) where
    abbrev S : List Column
    S = columns_at (shelf_of L) js

    rows_are : rows_of (column_at (shelf_of L) j) ≡ length ps
    rows_are = ap rows_of M.is_made ∙ rows_made false (at S 0) S ps

    pair_source : (k : ℕ) → k < length ps → (get_or ps k (0, 0)).0 < length js
    pair_source k l = let b = M.accepted.source_known k l in omega (arith, length-map js (column_at (shelf_of L)))

    pair_row : (k : ℕ) → k < length ps → (get_or ps k (0, 0)).1 < rows_of (column_at (shelf_of L) (get_or js (get_or ps k (0, 0)).0 0))
    pair_row k l = subst (λ c. (get_or ps k (0, 0)).1 < rows_of c) (columns_at_is (shelf_of L) js (get_or ps k (0, 0)).0 (pair_source k l)) (M.accepted.row_known k l)

  made_traced : (f : ℕ → History) (j : ℕ) (js : List ℕ) (ps : List Pair) → Interleaved L j js ps → MadeBy (shelf_of L) j js ps →
      ((i : ℕ) → i < length js → Traced L (f (get_or js i 0)) (get_or js i 0)) → Traced L (made (histories f js) ps) j
  unfolding column_of leads_to WentWell
  made_traced f j js ps e M T = record { col = ap (λ S. interleave S ps) q ∙ sym M.is_made; well = fine; lead = leading; home = homes }
    where
      q : columns_of (histories f js) ≡ columns_at (shelf_of L) js
      q = columns_of_histories (shelf_of L) f js (λ i l. (T i l).col)

      fine : WentWell (buffer_at (shelf_of L)) (made (histories f js) ps)
      fine = (
        subst (λ (S : List Column). 0 < length S) (sym q) (omega (arith, length-map js (column_at (shelf_of L)), M.some_source)),
        subst (λ S. Accepted (buffer_at (shelf_of L)) (at S 0) S ps) (sym q) M.accepted,
        all_went_well (buffer_at (shelf_of L)) f js (λ i l. (T i l).well),
      )

      on : (k : ℕ) → k < rows_of (column_at (shelf_of L) j) → k < length ps
      on k l = let r = rows_are j js ps M in omega arith

      step : (k : ℕ) → k < length ps → leads L j k ≡ leads L (get_or js (get_or ps k (0, 0)).0 0) (get_or ps k (0, 0)).1
      step k l = leads_made L j k js ps e (M.below (get_or ps k (0, 0)).0 (pair_source j js ps M k l))

      leading : (k : ℕ) → k < rows_of (column_at (shelf_of L) j) → leads_to (made (histories f js) ps) k ≡ (column_at (shelf_of L) (leads L j k).0, (leads L j k).1)
      leading k l =
          let b = pair_source j js ps M k (on k l) in
          source_leads_is f js (get_or ps k (0, 0)).0 (get_or ps k (0, 0)).1 b
          ∙ (T (get_or ps k (0, 0)).0 b).lead (get_or ps k (0, 0)).1 (pair_row j js ps M k (on k l))
          ∙ ap (λ (x : Pair). (column_at (shelf_of L) x.0, x.1)) (sym (step k (on k l)))

      homes : (k : ℕ) → k < rows_of (column_at (shelf_of L) j) → Filed L (leads L j k).0 × ((leads L j k).1 < rows_of (column_at (shelf_of L) (leads L j k).0))
      homes k l =
          subst (λ (x : Pair). Filed L x.0 × (x.1 < rows_of (column_at (shelf_of L) x.0))) (sym (step k (on k l)))
          ((T (get_or ps k (0, 0)).0 (pair_source j js ps M k (on k l))).home (get_or ps k (0, 0)).1 (pair_row j js ps M k (on k l)))

  line_traced : (f : ℕ → History) (j : ℕ) (x : Line) → get_or (lines L) j (filing []) ≡ x → j < length (lines L) → ((i : ℕ) → i < j → Traced L (f i) i) →
      Traced L (line_history f (column_at (shelf_of L) j) x) j
  unfolding column_of leads_to WentWell
  line_traced f j (filing parcel) e l T =
      record {
        col = refl;
        well = K.all_sound j (omega (arith, K.as_many));
        lead = λ k b. ap (λ (x : Pair). (column_at (shelf_of L) x.0, x.1)) (sym (leads_filed L j k parcel l e));
        home = λ k b. subst (λ (x : Pair). Filed L x.0 × (x.1 < rows_of (column_at (shelf_of L) x.0))) (sym (leads_filed L j k parcel l e)) ((parcel, l, e), b);
      }
  line_traced f j (interleaving js ps) e l T =
      let M = (K.made_by j js ps e).1 in
      made_traced f j js ps e M (λ i b. T (get_or js i 0) (M.below i b))

  traced : (n j : ℕ) → j < n → j < length (lines L) → Traced L (history L n j) j
  traced zero j b l = absurd (omega arith)
  traced (suc n) j b l = line_traced (history L n) j (get_or (lines L) j (filing [])) refl l (λ i h. traced n i (omega arith) (omega arith))

  says_home : (j k : ℕ) → j < length (lines L) → k < rows_of (column_at (shelf_of L) j) →
      says (buffer_at (shelf_of L)) (column_at (shelf_of L) j) k ≡ says (buffer_at (shelf_of L)) (column_at (shelf_of L) (leads L j k).0) (leads L j k).1
  says_home j k l b =
      let h : History = history L (suc j) j in
      let T : Traced L h j = traced (suc j) j (omega arith) l in
      let D : ℕ → List ℕ = buffer_at (shelf_of L) in
      ap (λ c. says D c k) (sym T.col)
      ∙ rows_say_what_they_lead_to D h T.well k (subst (λ c. k < rows_of c) (sym T.col) b)
      ∙ ap (λ (x : Column × ℕ). says D x.0 x.1) (T.lead k b)

-- A direct interleave that only a full pool could deny has sources, and its pairs name rows of them.
not_denied : (n : ℕ) (o : Option ℕ) (next : Option Denial) → (n ≡ 13 → ⊥) → OnlyFullPool (denied_or n o next) → (o ≡ none) × OnlyFullPool next
not_denied n none next h w = (refl, w)
not_denied n (some d) next h w = absurd (h w)

-- checks that pass, up to the first that is of a pool
abbrev UpTo13 : List Check → Type 0
UpTo13 [] = Unit {0}
UpTo13 (c ∷ cs) = (c.0 ≡ 13 → ⊥) → (c.1 ≡ none) × UpTo13 cs

up_to_13 : (cs : List Check) → OnlyFullPool (first_denial cs) → UpTo13 cs
up_to_13 [] w = tt
up_to_13 (c ∷ cs) w = λ h. let p = not_denied c.0 c.1 (first_denial cs) h w in (p.0, up_to_13 cs p.1)

direct_inside : (lengths : Entries) (s : Shelf) (js : List ℕ) (ps : List Pair) → OnlyFullPool (line_denial lengths s (interleaving js ps)) →
    (0 < length js) × ((k : ℕ) → k < length ps → (get_or ps k (0, 0)).0 < length js)
direct_inside lengths s js ps w =
    let a = up_to_13 (interleave_checks lengths s js ps) w (λ e. omega arith) in
    let f = ((((a.1 (λ e. omega arith)).1 (λ e. omega arith)).1 (λ e. omega arith)).1 (λ e. omega arith)).1 (λ e. omega arith) in (
      ltb-true 0 (length js) (unless_none (ltb 0 (length js)) (length js) a.0),
      λ k l.
          let p : Pair = get_or ps k (0, 0) in
          let S : List Column = columns_at s js in
          let t = ltb-true p.0 (length S) (and_parts (ltb p.0 (length S)) (ltb p.1 (rows_of (at S p.0))) (no_place_fails (inside S) 0 ps (0, 0) f.0 k l)).0 in
          omega (arith, length-map js (column_at s)),
    )

module _ (lengths : Entries) (L : Ledger) (K : Known lengths L) where
  laid_out : (j : ℕ) (js : List ℕ) (ps : List Pair) → Interleaved L j js ps → NoRunEnds (column_at (shelf_of L) j) →
      (fs : List ℕ) (ds : List Pair) → Direct lengths L j fs ds → SameLayout (column_at (shelf_of L) j) (interleave (columns_at (shelf_of L) fs) ds)
  laid_out j js ps e nr fs ds d =
      subst (λ c. SameLayout c (interleave F ds)) T.col
      (chains_lay_out_as_direct (buffer_at s) (histories (history L j) js) ps F ds T.well (subst NoRunEnds (sym T.col) nr)
      (subst₂ SameType (sym T.col) (sym (columns_at_is s fs 0 I.0)) (d.same_type 0 I.0)) same_rows)
    where
      s : Shelf
      s = shelf_of L

      F : List Column
      F = columns_at s fs

      B : (j < length (lines L)) × MadeBy s j js ps
      B = K.made_by j js ps e

      h : History
      h = made (histories (history L j) js) ps

      T : Traced L h j
      T = made_traced lengths L K (history L j) j js ps e B.1 (λ i b. traced lengths L K j (get_or js i 0) (B.1.below i b) (let u = B.1.below i b in omega (arith, B.0)))

      I : (0 < length fs) × ((k : ℕ) → k < length ds → (get_or ds k (0, 0)).0 < length fs)
      I = direct_inside lengths s fs ds d.only_13

      same_rows : map (λ (p : Pair). (at F p.0, p.1)) ds ≡ map (leads_to h) (span 0 (length ps))
      same_rows =
          map_both (λ (p : Pair). (at F p.0, p.1)) (λ (p : Pair). (column_at s (get_or fs p.0 0), p.1)) ds ds (0, 0) (0, 0) refl
          (λ k l. ap (λ c. (c, (get_or ds k (0, 0)).1)) (columns_at_is s fs (get_or ds k (0, 0)).0 (I.1 k l)))
          ∙ sym (map_map (λ (x : Pair). (column_at s x.0, x.1)) (λ (p : Pair). (get_or fs p.0 0, p.1)) ds)
          ∙ ap (map (λ (x : Pair). (column_at s x.0, x.1))) d.named
          ∙ map_map (λ (x : Pair). (column_at s x.0, x.1)) (leads L j) (span 0 (rows_of (column_at s j)))
          ∙ map_span (λ k. (column_at s (leads L j k).0, (leads L j k).1)) (leads_to h) 0 0 (rows_of (column_at s j)) (λ k l. sym (T.lead (0 + k) (omega arith)))
          ∙ ap (λ n. map (leads_to h) (span 0 n)) (rows_are lengths L K j js ps B.1)

kept : (lengths : Entries) (L : Ledger) → Known lengths L → Kept lengths L
kept lengths L K =
    record {
      line_is_column = K.as_many;
      says_its_parcel = K.filed_by;
      marks_within = K.within;
      slip_back = K.slip;
      columns_counted = K.counts.0 ∙ K.as_many;
      buffers_counted = K.counts.1;
      read_writes_that = reading;
      sound = λ j l. K.all_sound j (omega (arith, K.as_many));
      lists_shelved = λ j l. K.all_listed j (omega (arith, K.as_many));
      within_limits = λ j l. K.all_limited j (omega (arith, K.as_many));
      within_widths = λ b j l. (K.of_bytes b).0 j (omega (arith, K.as_many));
      buffers_of_bytes = λ b. (K.of_bytes b).1;
      line_is_answer = λ l e. ap (λ d. unless_denied d (added (length (shelf_of L).columns))) e ∙ ap added K.as_many;
      is_made = λ j js ps e. (M j js ps e).is_made;
      of_earlier = λ j js ps e. ((K.made_by j js ps e).0, All-from_get_or (λ i. i < j) js 0 (M j js ps e).below);
      filed_leads = λ j k f. leads_filed L j k f.0 f.1 f.2;
      pair_leads = λ j js ps e k l. leads_made L j k js ps e ((M j js ps e).below (get_or ps k (0, 0)).0 (pair_source lengths L K j js ps (M j js ps e) k l));
      as_many_rows = λ j js ps e. rows_are lengths L K j js ps (K.made_by j js ps e).1;
      leads_to_filed = λ j k l b. (traced lengths L K (suc j) j (omega arith) l).home k b;
      says_what_it_leads_to = says_home lengths L K;
      rows_held = at_depth RowLaw rows_take_what_is_held;
      runs = at_depth RunLaw runs_stop_where_entries_change;
      buffer_lists = at_depth BufferLaw buffers_listed_by_first_use;
      offsets = at_depth OffsetLaw offsets_are_totals;
      masks = at_depth MaskLaw masks_made_where_needed;
      empty_nodes = at_depth EmptyLaw no_pairs_make_empty;
      as_direct = laid_out lengths L K;
    }
  where
    D : ℕ → List ℕ
    D = buffer_at (shelf_of L)

    S : List ℕ → List Column
    S js = columns_at (shelf_of L) js

    M : (j : ℕ) (js : List ℕ) (ps : List Pair) → Interleaved L j js ps → MadeBy (shelf_of L) j js ps
    M j js ps e = (K.made_by j js ps e).1

    reading : (j k room : ℕ) → call_denial lengths (shelf_of L) (reads j k room) ≡ none →
        answer lengths (shelf_of L) (reads j k room) ≡ wrote (text (says D (column_at (shelf_of L) (leads L j k).0) (leads L j k).1))
    reading j k room e =
        let P = passed (read_checks (shelf_of L) j k room) e in
        let l : j < length (shelf_of L).columns = ltb-true j (length (shelf_of L).columns) (unless_none (known (shelf_of L) j) j P.0) in
        let b : k < rows_of (column_at (shelf_of L) j) = ltb-true k (rows_of (column_at (shelf_of L) j)) (unless_none (ltb k (rows_of (column_at (shelf_of L) j))) k P.1.0) in
        ap (λ d. unless_denied d (wrote (text (says D (column_at (shelf_of L) j) k)))) e ∙ ap (λ x. wrote (text x)) (says_home lengths L K j k (omega (arith, K.as_many)) b)

    sources : (j : ℕ) (js : List ℕ) (ps : List Pair) → Interleaved L j js ps → 0 < length (S js)
    sources j js ps e = let b = (M j js ps e).some_source in omega (arith, length-map js (column_at (shelf_of L)))

    at_depth : (W : Law) → OfEveryInterleave W → AtAnyDepth L W
    at_depth W law j js ps e = subst (λ c. AtEveryDepth W false c (at (S js) 0) (S js) ps) (sym (M j js ps e).is_made) (law D (S js) ps (sources j js ps e) (M j js ps e).accepted)

pub every_run : ParcelIsSound → EveryRunKeepsItsPromises
every_run decoded lengths calls =
    kept lengths (after lengths empty calls) (all_known decoded lengths (after lengths empty calls) (valid_after decoded lengths empty calls tt))

-- Later calls leave what is shelved as it is.
module _ (decoded : ParcelIsSound) (lengths : Entries) where
  record Stays (L M : Ledger) (j : ℕ) : Type 0 where
    line : get_or (lines M) j (filing []) ≡ get_or (lines L) j (filing [])
    within : j < length (lines M)
    same : column_at (shelf_of M) j ≡ column_at (shelf_of L) j
    says_same : (k : ℕ) → says (buffer_at (shelf_of M)) (column_at (shelf_of M) j) k ≡ says (buffer_at (shelf_of L)) (column_at (shelf_of L) j) k

  stays_put : (L : Ledger) (j : ℕ) → j < length (lines L) → Stays L L j
  stays_put L j b = record { line = refl; within = b; same = refl; says_same = λ k. refl }

  stays_add : (o : Option Denial) (L : Ledger) (l : Line) (j : ℕ) → line_denial lengths (shelf_of L) l ≡ o → Valid decoded lengths L → j < length (lines L) → Stays L (add_unless o L l) j
  unfolding shelf_of
  stays_add (some d) L l j e v b = stays_put L j b
  stays_add none L l j e v b =
      let s : Shelf = shelf_of L in
      let K : Known lengths L = all_known decoded lengths L v in
      let g : Grows s (put s l) = (line_well decoded lengths s l K.all_sound K.all_limited e).grows in
      let b' : j < length s.columns = omega (arith, K.as_many) in
      record {
        line = get_or_append_left (lines L) (l ∷ []) (filing []) j b;
        within = simp length_push (omega arith);
        same = old_column s (put s l) g j b';
        says_same = λ k. ap (λ c. says (buffer_at (put s l)) c k) (old_column s (put s l) g j b') ∙ still_says_row s (put s l) g (column_at s j) k (K.all_sound j b');
      }

  stays_next : (L : Ledger) (c : Call) (j : ℕ) → Valid decoded lengths L → j < length (lines L) → Stays L (next lengths L c) j
  stays_next L (adds l) j v b = stays_add (line_denial lengths (shelf_of L) l) L l j refl v b
  stays_next L (reads i r room) j v b = stays_put L j b

  stays_after : (L : Ledger) (cs : List Call) (j : ℕ) → Valid decoded lengths L → j < length (lines L) → Stays L (after lengths L cs) j
  stays_after L [] j v b = stays_put L j b
  stays_after L (c ∷ cs) j v b =
      let x : Stays L (next lengths L c) j = stays_next L c j v b in
      let y : Stays (next lengths L c) (after lengths (next lengths L c) cs) j = stays_after (next lengths L c) cs j (valid_next decoded lengths L c v) x.within in
      record { line = y.line ∙ x.line; within = y.within; same = y.same ∙ x.same; says_same = λ k. y.says_same k ∙ x.says_same k }

pub shelved_columns_stay : ParcelIsSound → ShelvedColumnsStay
shelved_columns_stay decoded lengths calls more j b =
    let x = stays_after decoded lengths (after lengths empty calls) more j (valid_after decoded lengths empty calls tt) b in
    (x.line, x.same, x.says_same)
