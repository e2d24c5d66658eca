-- Rows of the columns of a shelf that the pools show, and the answers of the ledger about them.
use Rattle.std.proofs.Common.{◌≡◌, ℕ, ◌<◌, ◌≤◌, Bool, true, ltb, leb, List, [], length, get_or, Some, None, Ok, Err, Option, Bor, refl, sym, ap, ◌∙◌, subst, arith, ltb-true, lt-ltb, le-ltb, le-leb}
use mathlib.Core.Option.{none}
use borrow.Author.Tests.{lt-leb}
use Rattle.std.proofs.lemmas.List.{length-take-le}
use Rattle.columns.specs.Column.{rows_of}
use Rattle.columns.specs.Checks.{denial, unless, denied_or}
use Rattle.columns.specs.Ledger as ledger
use Rattle.columns.specs.Ledger.{Shelf, column_at, buffer_at, reads, Answer, wrote, refused, answer, unless_denied}
use Rattle.columns.specs.Limits.{most_levels}
use Rattle.columns.specs.Pools.{Entries}
use Rattle.columns.specs.Says.{says}
use Rattle.columns.specs.Sound.{Sound}
use Rattle.columns.specs.Text.{text}
use Rattle.pools.specs.declared.pool.Pool.{Pool}
use Rattle.pools.specs.Used.{used}
use Rattle.pools.specs.Kept.{Standing}
use Rattle.pools.specs.declared.records.Node.{Node as Entry}
use Rattle.pools.specs.declared.records.ColumnEntry.{ColumnEntry}
use Rattle.pools.specs.Store.{Store, no_column as no_entry, root_of, node_entry}
use Rattle.pools.specs.Stored.{Stored}
use Rattle.pools.proofs.Reading.{stored_node}
use Rattle.reading.specs.Readable.{RowReadable, row_text}
use Rattle.std.specs.Option.{IfSome, is_some, unwrap_or, option_map, ok_or}
use Rattle.denials.specs.declared.Denial.TheVariants.{Text}
use Rattle.reading.specs.Answers.{ShelfReadable, Placed, Gives}

pub used_to_mark : {X : Type 0} (p : Pool X) → Standing p → length (used p) ≡ p.mark
used_to_mark p h = length-take-le p.mark p.lent.now h.fits

-- which columns there are
pub known_column : {P : Store} {s : Shelf} (j : ℕ) → ShelfReadable P s → j < length P.columns → j < length s.columns
known_column j r l = let b = r.shows.columns.count in omega arith

pub stored_at : {P : Store} {s : Shelf} (j : ℕ) → ShelfReadable P s → j < length s.columns → Stored P (root_of P j) (column_at s j)
stored_at j r l = r.shows.columns.stored j l

-- how many rows the node of a column has
rows_at : {P : Store} {s : Shelf} (j : ℕ) → ShelfReadable P s → j < length s.columns → (node_entry P (root_of P j)).rows ≡ rows_of (column_at s j)
rows_at {P} {s} j r l = (stored_node P (root_of P j) (column_at s j) (stored_at j r l)).1.is_rows

pub root_known : {P : Store} {s : Shelf} (j : ℕ) → ShelfReadable P s → j < length s.columns → root_of P j < length P.nodes
root_known {P} {s} j r l = (stored_node P (root_of P j) (column_at s j) (stored_at j r l)).0

-- an entry that `get` found in its place
pub record Found (columns : List ColumnEntry) (j : ℕ) (e : ColumnEntry) : Type 0 where
  pub there : j < length columns
  pub is : e ≡ get_or columns j no_entry

pub found : {xs columns : List ColumnEntry} {j : ℕ} {o : Option (Bor ColumnEntry)} {e : Bor ColumnEntry} → xs ≡ columns → true ≡ is_some o → is_some o ≡ ltb j (length xs) → o ≡ Some e →
    unwrap_or (option_map (λ (x : Bor ColumnEntry). x.now) o) no_entry ≡ get_or xs j no_entry → Found columns j e.now
found {xs} {columns} {j} u v n o r =
    record {
      there = (let l = ltb-true j (length xs) (sym n ∙ sym v) in let m = ap length u in omega arith);
      is =
          sym (ap (λ (x : Option (Bor ColumnEntry)). unwrap_or (option_map (λ (y : Bor ColumnEntry). y.now) x) no_entry) o) ∙ r
          ∙ ap (λ (ys : List ColumnEntry). get_or ys j no_entry) u;
    }

-- an entry that was looked up below the mark
pub entry_found : (p : Pool ColumnEntry) (j : ℕ) {o : Option (Bor ColumnEntry)} {e : Bor ColumnEntry} → Standing p → true ≡ is_some o → is_some o ≡ ltb j p.mark → o ≡ Some e →
    IfSome o (λ x. x.now ≡ get_or (used p) j no_entry) → Found (used p) j e.now
entry_found p j {o} {e} h v n k r =
    let P = λ (x : Option (Bor ColumnEntry)). unwrap_or (option_map (λ (y : Bor ColumnEntry). y.now) x) no_entry ≡ get_or (used p) j no_entry in
    found refl v (n ∙ ap (ltb j) (sym (used_to_mark p h))) k (subst P (sym k) (subst (λ x. IfSome x (λ y. y.now ≡ get_or (used p) j no_entry)) k r))

pub found_root : {P : Store} {s : Shelf} (j : ℕ) {e : ColumnEntry} → ShelfReadable P s → Found P.columns j e → e.root < length P.nodes
found_root {P} j r f = subst (λ (x : ColumnEntry). x.root < length P.nodes) (sym f.is) (root_known j r (known_column j r f.there))

pub row_readable : {P : Store} {s : Shelf} (j i : ℕ) → ShelfReadable P s → j < length s.columns → i < rows_of (column_at s j) → RowReadable P (root_of P j) (column_at s j) i most_levels
row_readable {P} {s} j i r l h =
    record {
      column = record {
        stored = stored_at j r l;
        sound = subst (λ (bs : List (List ℕ)). Sound (λ b. get_or bs b []) (column_at s j)) (sym r.shows.buffers.are) (r.sound j l);
        shallow = r.shallow j l;
        inside = r.shows.buffers.inside;
      };
      row_in = h;
    }

-- a row that the node read there has
pub found_row : {P : Store} {s : Shelf} (j i : ℕ) {e : ColumnEntry} {n : Entry} → ShelfReadable P s → Found P.columns j e → n ≡ node_entry P e.root → i < n.rows → RowReadable P e.root (column_at s j) i most_levels
found_row {P} {s} j i {e} {n} r f h l =
    let known = known_column j r f.there in
    let rows : n.rows ≡ rows_of (column_at s j) =
    ap (λ (x : Entry). x.rows) h ∙ ap (λ (x : ColumnEntry). (node_entry P x.root).rows) f.is ∙ rows_at j r known in
    subst (λ (x : ColumnEntry). RowReadable P x.root (column_at s j) i most_levels) (sym f.is) (row_readable j i r known (omega arith))

-- the ledger's text
pub same_text : {P : Store} {s : Shelf} (j i : ℕ) → ShelfReadable P s → row_text P (column_at s j) i ≡ ledger.row_text s j i
unfolding row_text
same_text {P} {s} j i r = ap (λ (bs : List (List ℕ)). text (says (λ b. get_or bs b []) (column_at s j) i)) r.shows.buffers.are

-- The three checks in order.
abbrev ladder : (j i room : ℕ) → Answer → Bool → Bool → Bool → Answer
ladder j i room a known inside fits = unless_denied (denied_or 11 (unless known j) (denied_or 7 (unless inside i) (denied_or 10 (unless fits room) none))) a

pub no_column : (lengths : Entries) (s : Shelf) (j i room : ℕ) → length s.columns ≤ j → answer lengths s (reads j i room) ≡ refused (denial 11 j)
no_column lengths s j i room l =
    ap (λ b. ladder j i room (wrote (ledger.row_text s j i)) b (ltb i (rows_of (column_at s j))) (leb (length (ledger.row_text s j i)) room)) (le-ltb j (length s.columns) l)

pub row_outside : (lengths : Entries) (s : Shelf) (j i room : ℕ) → j < length s.columns → rows_of (column_at s j) ≤ i → answer lengths s (reads j i room) ≡ refused (denial 7 i)
row_outside lengths s j i room l h =
    ap (λ b. ladder j i room (wrote (ledger.row_text s j i)) b (ltb i (rows_of (column_at s j))) (leb (length (ledger.row_text s j i)) room)) (lt-ltb j (length s.columns) l)
    ∙ ap (λ b. ladder j i room (wrote (ledger.row_text s j i)) true b (leb (length (ledger.row_text s j i)) room)) (le-ltb i (rows_of (column_at s j)) h)

pub text_longer : (lengths : Entries) (s : Shelf) (j i room : ℕ) → j < length s.columns → i < rows_of (column_at s j) → room < length (ledger.row_text s j i) → answer lengths s (reads j i room) ≡ refused (denial 10 room)
text_longer lengths s j i room l h f =
    ap (λ b. ladder j i room (wrote (ledger.row_text s j i)) b (ltb i (rows_of (column_at s j))) (leb (length (ledger.row_text s j i)) room)) (lt-ltb j (length s.columns) l)
    ∙ ap (λ b. ladder j i room (wrote (ledger.row_text s j i)) true b (leb (length (ledger.row_text s j i)) room)) (lt-ltb i (rows_of (column_at s j)) h)
    ∙ ap (λ b. ladder j i room (wrote (ledger.row_text s j i)) true true b) (lt-leb (length (ledger.row_text s j i)) room f)

pub text_fits : (lengths : Entries) (s : Shelf) (j i room : ℕ) → j < length s.columns → i < rows_of (column_at s j) → length (ledger.row_text s j i) ≤ room → answer lengths s (reads j i room) ≡ wrote (ledger.row_text s j i)
text_fits lengths s j i room l h f =
    ap (λ b. ladder j i room (wrote (ledger.row_text s j i)) b (ltb i (rows_of (column_at s j))) (leb (length (ledger.row_text s j i)) room)) (lt-ltb j (length s.columns) l)
    ∙ ap (λ b. ladder j i room (wrote (ledger.row_text s j i)) true b (leb (length (ledger.row_text s j i)) room)) (lt-ltb i (rows_of (column_at s j)) h)
    ∙ ap (λ b. ladder j i room (wrote (ledger.row_text s j i)) true true b) (le-leb (length (ledger.row_text s j i)) room f)

-- a text that is placed or too long gives the ledger's answer
pub read_gives : (lengths : Entries) (s : Shelf) (j i : ℕ) (r : Option ℕ) (before after : List ℕ) → j < length s.columns → i < rows_of (column_at s j) → Placed r (ledger.row_text s j i) before after →
    Gives (ok_or r (Text (length after))) (answer lengths s (reads j i (length before))) before after
read_gives lengths s j i (Some n) before after l h p = subst (λ (a : Answer). Gives (Ok n) a before after) (sym (text_fits lengths s j i (length before) l h p.fits)) p
read_gives lengths s j i None before after l h p =
    subst (λ (a : Answer). Gives (Err (Text (length after))) a before after) (sym (text_longer lengths s j i (length before) l h p.longer)) (ap (λ (t : List ℕ). denial 10 (length t)) p.same, p.same)
