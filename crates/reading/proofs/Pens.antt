-- What a pen leaves of its buffer, and what a gauge tells of a text.
use Rattle.std.proofs.Common.{◌≡◌, ℕ, zero, suc, ◌+◌, ◌-◌, ◌<◌, ◌≤◌, Bool, true, false, cond, leb, List, [], ◌∷◌, ◌++◌, length, take, drop, set, sym, ap, ◌∙◌, inl, inr, arith, length-set, length-append, length-take, length-drop, MutBor, le-ltb, lt-ltb, le-leb, zero-add, Ok, Err, Result}
use denote.Ref.{at_last}
use borrow.Author.Tests.{lt-leb}
use Rattle.std.proofs.lemmas.List.{take_more_set, drop-set-lt, append_assoc, take-append-drop, append-nil, drop_all}
use Rattle.std.proofs.lemmas.Bool.{cases_lt}
use Rattle.std.specs.Prelude.{IsErr}
use Rattle.reading.specs.declared.ink.Full.{Full}
use Rattle.reading.specs.declared.pen.Pen.{Pen}
use Rattle.reading.specs.declared.pen.Gauge.{Gauge}
use Rattle.reading.specs.Answers.{Stands, Overfull, Filled}
use Rattle.reading.specs.Inked.{inked, wrote, left, marked, lower}
use Rattle.reading.specs.Laws.{pen_at, gauge_of, penned, gauged, pasted, PensWriteInFront}
use Rattle.reading.proofs.Inking.{wrote_append, wrote_full}

-- A pen that has room goes on; one that has none refuses.
on : (p : Pen) (b : ℕ) → p.place < length p.text.now → inked left marked (p, true) b ≡ (marked p b, true)
on p b l = ap (λ (x : Bool). cond x (marked p b, true) (p, false)) (lt-ltb 0 (left p) (omega arith))

none_fits : (p : Pen) (xs : List ℕ) → 0 < length xs → length p.text.now ≤ p.place → penned p xs ≡ (p, false)
unfolding wrote
none_fits p [] h l = absurd (omega arith)
none_fits p (x ∷ xs) h l =
    ap (λ s. wrote left marked s xs) (ap (λ (b : Bool). cond b (marked p x, true) (p, false)) (le-ltb 0 (left p) (omega arith))) ∙ wrote_full left marked p xs

pub pen_fits : (t : MutBor (List ℕ)) (i : ℕ) (xs : List ℕ) → i + length xs ≤ length t.now → penned (pen_at t i) xs ≡ (pen_at (pasted t i xs) (i + length xs), true)
unfolding wrote
pen_fits t i [] h =
    let e : i ≡ i + 0 = omega arith in
    let same : t.now ≡ take i t.now ++ [] ++ drop (i + 0) t.now =
    sym (take-append-drop i t.now) ∙ ap (λ (l : List ℕ). l ++ drop i t.now) (sym (append-nil (take i t.now))) ∙ ap (λ k. take i t.now ++ [] ++ drop k t.now) e in
    ap (λ (l : List ℕ). (pen_at (at_last t l) i, true)) same ∙ ap (λ k. (pen_at (pasted t i []) k, true)) e
pen_fits t i (x ∷ xs) h =
    let s = set t.now i x in
    let l : i < length t.now = omega arith in
    let e : i + 1 + length xs ≡ i + suc (length xs) = omega arith in
    let fits : i + 1 + length xs ≤ length s = (let z = length-set t.now i x in omega arith) in
    let same : take (i + 1) s ++ xs ++ drop (i + 1 + length xs) s ≡ take i t.now ++ x ∷ xs ++ drop (i + suc (length xs)) t.now =
    ap (λ (f : List ℕ). f ++ xs ++ drop (i + 1 + length xs) s) (take_more_set t.now i x l)
    ∙ ap (λ (f : List ℕ). f ++ drop (i + 1 + length xs) s) (append_assoc (take i t.now) (x ∷ []) xs)
    ∙ ap (λ (f : List ℕ). take i t.now ++ x ∷ xs ++ f) (drop-set-lt (i + 1 + length xs) t.now i x (omega arith))
    ∙ ap (λ k. take i t.now ++ x ∷ xs ++ drop k t.now) e in
    ap (λ q. wrote left marked q xs) (on (pen_at t i) x l)
    ∙ pen_fits (at_last t s) (i + 1) xs fits
    ∙ ap (λ (f : List ℕ). (pen_at (at_last t f) (i + 1 + length xs), true)) same
    ∙ ap (λ k. (pen_at (pasted t i (x ∷ xs)) k, true)) e

pub pen_over : (t : MutBor (List ℕ)) (i : ℕ) (xs : List ℕ) → i ≤ length t.now → length t.now < i + length xs →
    penned (pen_at t i) xs ≡ (pen_at (pasted t i (take (length t.now - i) xs)) (length t.now), false)
pen_over t i xs l h =
    let n = length t.now - i in
    let front = take n xs in
    let q = pen_at (pasted t i front) (i + length front) in
    let f : length front ≡ n = (let z = length-take n xs in omega arith) in
    let whole : i + length front ≡ length t.now = omega arith in
    let size : length (take i t.now ++ front ++ drop (i + length front) t.now) ≡ i + length front =
    (let a = length-append (take i t.now ++ front) (drop (i + length front) t.now) in let b = length-append (take i t.now) front in
    let c = length-take i t.now in let d = length-drop (i + length front) t.now in omega arith) in
    ap (penned (pen_at t i)) (sym (take-append-drop n xs))
    ∙ wrote_append left marked (pen_at t i, true) front (drop n xs)
    ∙ ap (λ s. wrote left marked s (drop n xs)) (pen_fits t i front (omega arith))
    ∙ none_fits q (drop n xs) (let z = length-drop n xs in omega arith) (omega arith)
    ∙ ap (λ k. (pen_at (pasted t i front) k, false)) whole

pub gauge_fits : (n : ℕ) (xs : List ℕ) → length xs ≤ n → gauged (gauge_of n) xs ≡ (gauge_of (n - length xs), true)
unfolding wrote
gauge_fits n [] h = ap (λ k. (gauge_of k, true)) (let e : n ≡ n - 0 = omega arith in e)
gauge_fits n (x ∷ xs) h =
    ap (λ s. wrote (λ (g : Gauge). g.room) lower s xs) (ap (λ (b : Bool). cond b (gauge_of (n - 1), true) (gauge_of n, false)) (lt-ltb 0 n (omega arith)))
    ∙ gauge_fits (n - 1) xs (omega arith)
    ∙ ap (λ k. (gauge_of k, true)) (let e : n - 1 - length xs ≡ n - suc (length xs) = omega arith in e)

pub gauge_over : (n : ℕ) (xs : List ℕ) → n < length xs → gauged (gauge_of n) xs ≡ (gauge_of 0, false)
unfolding wrote
gauge_over n [] h = absurd (omega arith)
gauge_over zero (x ∷ xs) h = wrote_full (λ (g : Gauge). g.room) lower (gauge_of 0) xs
gauge_over (suc n) (x ∷ xs) h =
    ap (λ s. wrote (λ (g : Gauge). g.room) lower s xs) (ap (λ (b : Bool). cond b (gauge_of (suc n - 1), true) (gauge_of (suc n), false)) (lt-ltb 0 (suc n) (omega arith)))
    ∙ ap (λ k. wrote (λ (g : Gauge). g.room) lower (gauge_of k, true) xs) (let e : suc n - 1 ≡ n = omega arith in e) ∙ gauge_over n xs (omega arith)

pub pens_write_in_front : PensWriteInFront
pens_write_in_front =
    record { fits = pen_fits; over = pen_over; gauge_fits = gauge_fits; gauge_over = gauge_over; in_turn = wrote_append left marked; gauge_in_turn = wrote_append (λ (g : Gauge). g.room) lower }

-- A gauge tells whether a text fits.
pub gauge_tells : (n : ℕ) (xs : List ℕ) (g : Gauge) (b : Bool) → ◌≡◌ {A = Gauge × Bool} (g, b) (gauged (gauge_of n) xs) → b ≡ leb (length xs) n
gauge_tells n xs g b e = elim (cases_lt n (length xs)) [
  | inl l ↦ ap (λ (s : Gauge × Bool). s.1) (e ∙ gauge_over n xs l) ∙ sym (lt-leb (length xs) n l)
  | inr l ↦ ap (λ (s : Gauge × Bool). s.1) (e ∙ gauge_fits n xs l) ∙ sym (le-leb (length xs) n l)
]

-- x is what the lender of the buffer has after the pen q
pub pen_stands : (t : MutBor (List ℕ)) (x : List ℕ) (q : Pen) (xs : List ℕ) → ◌≡◌ {A = Pen × Bool} (q, true) (penned (pen_at t 0) xs) → (t.ghost_name ≡ q.text.ghost_name → x ≡ q.text.now) → Stands xs q.place t.now x
pen_stands t x q xs e back = elim (cases_lt (length t.now) (length xs)) [
  | inl l ↦ (let z : true ≡ false = ap (λ (s : Pen × Bool). s.1) (e ∙ pen_over t 0 xs (omega arith) (omega arith)) in cc)
  | inr l ↦
      let o : q ≡ pen_at (pasted t 0 xs) (0 + length xs) = ap (λ (s : Pen × Bool). s.0) (e ∙ pen_fits t 0 xs (omega arith)) in
      record {
        count = ap (λ (p : Pen). p.place) o ∙ zero-add (length xs);
        fits = l;
        front = back (sym (ap (λ (p : Pen). p.text.ghost_name) o)) ∙ ap (λ (p : Pen). p.text.now) o ∙ ap (λ n. xs ++ drop n t.now) (zero-add (length xs));
      }
]

pub pen_overfull : (t : MutBor (List ℕ)) (x : List ℕ) (q : Pen) (xs : List ℕ) → ◌≡◌ {A = Pen × Bool} (q, false) (penned (pen_at t 0) xs) → (t.ghost_name ≡ q.text.ghost_name → x ≡ q.text.now) → Overfull xs t.now x
pen_overfull t x q xs e back = elim (cases_lt (length t.now) (length xs)) [
  | inl l ↦
      let front = take (length t.now - 0) xs in
      let o : q ≡ pen_at (pasted t 0 front) (length t.now) = ap (λ (s : Pen × Bool). s.0) (e ∙ pen_over t 0 xs (omega arith) (omega arith)) in
      let all : length t.now ≤ 0 + length front = (let z = length-take (length t.now - 0) xs in omega arith) in
      record {
        longer = l;
        front =
            back (sym (ap (λ (p : Pen). p.text.ghost_name) o)) ∙ ap (λ (p : Pen). p.text.now) o
            ∙ ap (λ (rest : List ℕ). front ++ rest) (drop_all (0 + length front) t.now all)
            ∙ append-nil front
            ∙ ap (λ n. take n xs) (let z : length t.now - 0 ≡ length t.now = omega arith in z);
      }
  | inr l ↦ (let z : false ≡ true = ap (λ (s : Pen × Bool). s.1) (e ∙ pen_fits t 0 xs (omega arith)) in cc)
]

pub overfilled : (r : Result ℕ Full) (t before after : List ℕ) → IsErr r → Overfull t before after → Filled r t before after
overfilled (Ok n) t before after h o = cc
overfilled (Err e) t before after h o = o
