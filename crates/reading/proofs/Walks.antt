-- Walks over some rows of a column, and over a row of some columns: what is left gives the whole.
use Rattle.std.proofs.Common.{◌≡◌, ℕ, zero, suc, ◌+◌, ◌-◌, ◌<◌, ◌≤◌, Bool, true, false, cond, ltb, List, [], ◌∷◌, ◌++◌, map, codes, sym, refl, ap, ◌∙◌, subst, inl, inr, append_assoc, arith, lt-ltb, le-ltb, Result}
use Rattle.std.specs.Prelude.{is_ok, IsErr}
use Rattle.std.proofs.lemmas.Bool.{cases_lt}
use Rattle.columns.specs.Column.{Column, Columns, end, ◌&◌, width, first, rest}
use Rattle.columns.specs.Limits.{depth}
use Rattle.columns.specs.Says.{says, each_says, span}
use Rattle.columns.specs.Sound.{Sound}
use Rattle.columns.specs.Text.{text}
use Rattle.pools.specs.declared.records.Part.{Part}
use Rattle.pools.specs.Store.{Store}
use Rattle.pools.specs.Stored.{Stored, EachStored}
use Rattle.reading.specs.Inked.{wrote}
use Rattle.reading.specs.Raw.{buffer_in, commas, comma_before, commas_from}
use Rattle.reading.specs.Readable.{RowReadable, RowsReadable, FieldsReadable, row_text, rows_text, fields_text}
use Rattle.reading.proofs.Inking.{wrote_none, piece, stop}

pub commas_none : (k : ℕ) → commas_from k [] ≡ []
commas_none zero = refl
commas_none (suc k) = refl

pub comma_is : (a i : ℕ) → cond (ltb a i) (44 ∷ []) [] ≡ comma_before (i - a)
comma_is a i = elim (cases_lt a i) [
  | inl l ↦ ap (λ (b : Bool). cond b (44 ∷ []) []) (lt-ltb a i l) ∙ ap comma_before (let e : suc (i - (a + 1)) ≡ i - a = omega arith in e)
  | inr l ↦ ap (λ (b : Bool). cond b (44 ∷ []) []) (le-ltb a i l) ∙ ap comma_before (let e : 0 ≡ i - a = omega arith in e)
]

pub comma_first : (k : ℕ) → cond (ltb 0 k) (44 ∷ []) [] ≡ comma_before k
comma_first k = comma_is 0 k ∙ ap comma_before (let e : k - 0 ≡ k = omega arith in e)

-- text k, with the comma before it
pub commas_step : (k : ℕ) (t : List ℕ) (ts : List (List ℕ)) → comma_before k ++ t ++ commas_from (k + 1) ts ≡ commas_from k (t ∷ ts)
commas_step zero t ts = refl
commas_step (suc k) t ts = ap (λ j. codes "," ++ t ++ commas_from j ts) (let e : suc k + 1 ≡ suc (suc k) = omega arith in e)

module _ {X : Type 0} (room : X → ℕ) (marked : X → ℕ → X) where
  pub one_more : (s t u : X × Bool) (k : ℕ) (x : List ℕ) (xs : List (List ℕ)) → t ≡ wrote room marked s (comma_before k) → u ≡ wrote room marked t x →
      wrote room marked u (commas_from (k + 1) xs) ≡ wrote room marked s (commas_from k (x ∷ xs))
  one_more s t u k x xs a b =
      piece room marked t u x (commas_from (k + 1) xs) b
      ∙ piece room marked s t (comma_before k) (x ++ commas_from (k + 1) xs) a
      ∙ ap (wrote room marked s) (sym (append_assoc (comma_before k) x (commas_from (k + 1) xs)) ∙ commas_step k x xs)

  -- a refusal at the comma, or at the text after it
  pub no_comma : {E : Type 0} (s : X × Bool) (q : X) (k : ℕ) (x : List ℕ) (xs : List (List ℕ)) (r : Result (Unit {0}) E) → IsErr r →
      ◌≡◌ {A = X × Bool} (q, false) (wrote room marked s (comma_before k)) → ◌≡◌ {A = X × Bool} (q, is_ok r) (wrote room marked s (commas_from k (x ∷ xs)))
  no_comma s q k x xs r h e =
      stop room marked s (q, false) q (x ++ commas_from (k + 1) xs) (commas_from k (x ∷ xs)) r h refl
      (piece room marked s (q, false) (comma_before k) (x ++ commas_from (k + 1) xs) e
      ∙ ap (wrote room marked s) (sym (append_assoc (comma_before k) x (commas_from (k + 1) xs)) ∙ commas_step k x xs))

  pub no_element : {E : Type 0} (s t : X × Bool) (q : X) (k : ℕ) (x : List ℕ) (xs : List (List ℕ)) (r : Result (Unit {0}) E) → IsErr r →
      t ≡ wrote room marked s (comma_before k) → ◌≡◌ {A = X × Bool} (q, false) (wrote room marked t x) → ◌≡◌ {A = X × Bool} (q, is_ok r) (wrote room marked s (commas_from k (x ∷ xs)))
  no_element s t q k x xs r h a b = stop room marked s (q, false) q (commas_from (k + 1) xs) (commas_from k (x ∷ xs)) r h refl (one_more s t (q, false) k x xs a b)

-- The rows from row i on.
unfoldable pub rows_left : Store → Column → Part → ℕ → List ℕ
rows_left P c p i = commas_from (i - p.start) (map text (map (says (buffer_in P) c) (span i (p.start + p.len - i))))

abbrev pub rows_after : Store → Column → Part → ℕ → List (List ℕ)
rows_after P c p i = map text (map (says (buffer_in P) c) (span (i + 1) (p.start + p.len - (i + 1))))

pub rows_start : (P : Store) (c : Column) (p : Part) → rows_left P c p p.start ≡ rows_text P c p
unfolding rows_left rows_text
rows_start P c p =
    ap (λ k. commas_from k (map text (map (says (buffer_in P) c) (span p.start (p.start + p.len - p.start))))) (let e : p.start - p.start ≡ 0 = omega arith in e)
    ∙ ap (λ n. commas (map text (map (says (buffer_in P) c) (span p.start n)))) (let e : p.start + p.len - p.start ≡ p.len = omega arith in e)

pub rows_this : (P : Store) (c : Column) (p : Part) (i : ℕ) → i < p.start + p.len → rows_left P c p i ≡ commas_from (i - p.start) (row_text P c i ∷ rows_after P c p i)
unfolding rows_left row_text
rows_this P c p i l =
    let f = says (buffer_in P) c in
    ap (λ n. commas_from (i - p.start) (map text (map f (span i n)))) (let e : p.start + p.len - i ≡ suc (p.start + p.len - (i + 1)) = omega arith in e)
    ∙ ap (λ a. commas_from (i - p.start) (text (f i) ∷ map text (map f (span a (p.start + p.len - (i + 1)))))) (let e : suc i ≡ i + 1 = omega arith in e)

pub rows_next : (P : Store) (c : Column) (p : Part) (i : ℕ) → p.start ≤ i → rows_left P c p (i + 1) ≡ commas_from (i - p.start + 1) (rows_after P c p i)
unfolding rows_left
rows_next P c p i l = ap (λ k. commas_from k (rows_after P c p i)) (let e : i + 1 - p.start ≡ i - p.start + 1 = omega arith in e)

pub rows_end : (P : Store) (c : Column) (p : Part) (i : ℕ) → p.start + p.len ≤ i → rows_left P c p i ≡ []
unfolding rows_left
rows_end P c p i l =
    ap (λ n. commas_from (i - p.start) (map text (map (says (buffer_in P) c) (span i n)))) (let e : p.start + p.len - i ≡ 0 = omega arith in e) ∙ commas_none (i - p.start)

pub row_of_rows : {P : Store} {place : ℕ} {c : Column} {p : Part} {levels : ℕ} (i : ℕ) → i < p.start + p.len → RowsReadable P place c p levels → RowReadable P place c i levels
row_of_rows i l r = record { column = r.column; row_in = (let a = r.rows_in in omega arith) }

-- The columns from k on.
unfoldable pub texts_of : Store → Columns → (row : ℕ) → List (List ℕ)
texts_of P cs i = map text (map (λ f. f i) (each_says (buffer_in P) cs))

pub record FieldsLeft (P : Store) (place k count row levels : ℕ) (cs : Columns) {X : Type 0} (room : X → ℕ) (marked : X → ℕ → X) (p q : X) : Type 0 where
  pub left : Columns
  pub readable : FieldsReadable P place left (count - k) row levels
  pub gives : wrote room marked (q, true) (commas_from k (texts_of P left row)) ≡ wrote room marked (p, true) (fields_text P cs row)

pub fields_start : {P : Store} {place count row levels : ℕ} {X : Type 0} {room : X → ℕ} {marked : X → ℕ → X} {p : X} (cs : Columns) → FieldsReadable P place cs count row levels → FieldsLeft P place 0 count row levels cs room marked p p
unfolding texts_of fields_text
fields_start {P} {place} {count} {row} {levels} cs r =
    record {
      left = cs;
      readable = subst (λ n. FieldsReadable P place cs n row levels) (let e : count ≡ count - 0 = omega arith in e) r;
      gives = refl;
    }

-- the first of those that are left
pub field_first : {P : Store} {place n row levels : ℕ} (cs : Columns) → 0 < n → FieldsReadable P place cs n row levels → RowReadable P place (first cs) row levels
unfolding Sound Stored depth
field_first end l r = absurd (let e = r.count_is in omega arith)
field_first (c & cs) l r =
    record {
      column = record { stored = r.stored.0; sound = r.sound.0; shallow = (let a = r.shallow in omega arith); inside = r.inside };
      row_in = (let a = r.alike.0 in let b = r.row_in in omega arith);
    }

field_rest : {P : Store} {place n row levels : ℕ} (next : ℕ) (cs : Columns) → 0 < n → FieldsReadable P place cs n row levels → EachStored P next (rest cs) → FieldsReadable P next (rest cs) (n - 1) row levels
unfolding Sound depth
field_rest next end l r s = absurd (let e = r.count_is in omega arith)
field_rest next (c & cs) l r s =
    record {
      count_is = (let e = r.count_is in omega arith);
      stored = s;
      sound = r.sound.1;
      shallow = (let a = r.shallow in omega arith);
      inside = r.inside;
      rows = r.rows;
      alike = r.alike.1;
      row_in = r.row_in;
    }

pub texts_first : (P : Store) (cs : Columns) (row : ℕ) → 0 < width cs → texts_of P cs row ≡ row_text P (first cs) row ∷ texts_of P (rest cs) row
unfolding texts_of row_text says
texts_first P end row l = absurd (omega arith)
texts_first P (c & cs) row l = refl

-- the text of the first, and the others
pub fields_this : {P : Store} {place k count row levels : ℕ} {cs : Columns} {X : Type 0} {room : X → ℕ} {marked : X → ℕ → X} {p q : X} → k < count → (w : FieldsLeft P place k count row levels cs room marked p q) →
    wrote room marked (q, true) (commas_from k (row_text P (first w.left) row ∷ texts_of P (rest w.left) row)) ≡ wrote room marked (p, true) (fields_text P cs row)
fields_this {P} {place} {k} {count} {row} {levels} {cs} {X} {room} {marked} {p} {q} l w =
    ap (λ ts. wrote room marked (q, true) (commas_from k ts)) (sym (texts_first P w.left row (let n = w.readable.count_is in omega arith))) ∙ w.gives

pub fields_next : {P : Store} {place k count row levels : ℕ} {X : Type 0} {room : X → ℕ} {marked : X → ℕ → X} {p q : X} (t : X × Bool) (u : X) (next : ℕ) (cs : Columns) → k < count → (w : FieldsLeft P place k count row levels cs room marked p q) →
    t ≡ wrote room marked (q, true) (comma_before k) → (u, true) ≡ wrote room marked t (row_text P (first w.left) row) → EachStored P next (rest w.left) → FieldsLeft P next (k + 1) count row levels cs room marked p u
fields_next {P} {place} {k} {count} {row} {levels} {X} {room} {marked} {p} {q} t u next cs l w a b s =
    record {
      left = rest w.left;
      readable = subst (λ n. FieldsReadable P next (rest w.left) n row levels) (let e : count - k - 1 ≡ count - (k + 1) = omega arith in e) (field_rest next w.left (omega arith) w.readable s);
      gives = one_more room marked (q, true) t (u, true) k (row_text P (first w.left) row) (texts_of P (rest w.left) row) a b ∙ fields_this l w;
    }

texts_end : (P : Store) (cs : Columns) (row : ℕ) → width cs ≡ 0 → texts_of P cs row ≡ []
unfolding texts_of says
texts_end P end row e = refl
texts_end P (c & cs) row e = absurd (omega arith)

pub fields_end : {P : Store} {place k count row levels : ℕ} {X : Type 0} {room : X → ℕ} {marked : X → ℕ → X} {p q : X} (cs : Columns) → count ≤ k → FieldsLeft P place k count row levels cs room marked p q → (q, true) ≡ wrote room marked (p, true) (fields_text P cs row)
fields_end {P} {place} {k} {count} {row} {levels} {X} {room} {marked} {p} {q} cs l w =
    sym (wrote_none room marked (q, true))
    ∙ ap (wrote room marked (q, true)) (sym (commas_none k) ∙ ap (commas_from k) (sym (texts_end P w.left row (let n = w.readable.count_is in omega arith))))
    ∙ w.gives
