-- What the tests of a node's soundness give.
use Rattle.std.proofs.Common.{◌≡◌, ℕ, zero, suc, ◌+◌, ◌-◌, ◌*◌, ◌^◌, ◌<◌, ◌≤◌, Bool, true, false, cond, ◌&&◌, eqb, ltb, leb, List, [], ◌∷◌, map, length, get_or, drop, sym, refl, ap, ◌∙◌, subst, zero-add, add-one, arith, length-drop, length-take}
use mathlib.Core.Option.{Option, some, none}
use lib.ListN.{length-map}
use Rattle.std.proofs.lemmas.Bool.{and_parts, ltb-true, ltb-false, leb-true, eqb-true}
use Rattle.std.specs.List.{AllByRecursion}
use Rattle.std.proofs.ByRecursion.{All-from_get_or}
use Rattle.columns.specs.Format.{highest}
use Rattle.columns.specs.Column.{short, long, bytes_for, Columns, end, ◌&◌, rows_of}
use Rattle.columns.specs.Says.{span, slice}
use Rattle.columns.specs.Sound.{SpareFits, ViewSound, Offsets, Climbs, RowsAre, little_endian}
use Rattle.columns.specs.Checks.{all_of}
use Rattle.columns.specs.Contents.{bit_at, spare_in, mask_spare_in, value_at, bits_in, view_in, views_in, mask_in}
use Rattle.columns.specs.SoundTests.{mask_fills, never_fall, last_of, offsets_sound, climbs, rows_are, view_sound}
use Rattle.columns.proofs.Gather.{length_span}
use Rattle.columns.proofs.Follow.{span_at}
use Rattle.columns.proofs.Checked.{all_pass}

pub length_spanned : {X : Type 0} (f : ℕ → X) (n : ℕ) → length (map f (span 0 n)) ≡ n
length_spanned f n = length-map (span 0 n) f ∙ length_span 0 n

pub length_all : (bytes : List ℕ) → length (bits_in (8 * length bytes) bytes) ≡ 8 * length bytes
length_all bytes = length_spanned (bit_at bytes) (8 * length bytes)

pub spare_fits : (n : ℕ) (bytes : List ℕ) → length bytes ≡ bytes_for n → SpareFits n (spare_in n bytes)
spare_fits n bytes e =
    let l : length (spare_in n bytes) ≡ 8 * length bytes - n = length-drop n (bits_in (8 * length bytes) bytes) ∙ ap (λ m. m - n) (length_all bytes) in
    omega arith

pub mask_filled : (n : ℕ) (m : Option (List ℕ)) → mask_fills n m ≡ true →
    elim (mask_in n m) as (λ x. Type 0) [ none ↦ length (mask_spare_in n m) ≡ 0 | some bs ↦ (length bs ≡ n) × SpareFits n (mask_spare_in n m) ]
mask_filled n none e = refl
mask_filled n (some bytes) e = (length_spanned _ n, spare_fits n bytes (eqb-true (length bytes) (bytes_for n) e))

pub falls_not : (low : ℕ) (os : List ℕ) → never_fall low os ≡ true → (i : ℕ) → suc i < length os → get_or os i 0 ≤ get_or os (suc i) 0
falls_not low [] e i l = absurd (omega arith)
falls_not low (o ∷ []) e i l = absurd (omega arith)
falls_not low (o ∷ p ∷ os) e zero l = leb-true o p (and_parts (leb o p) (never_fall p os) (and_parts (leb low o) (never_fall o (p ∷ os)) e).1).0
falls_not low (o ∷ p ∷ os) e (suc i) l = falls_not o (p ∷ os) (and_parts (leb low o) (never_fall o (p ∷ os)) e).1 i (omega arith)

pub last_is : (x o : ℕ) (os : List ℕ) → last_of x (o ∷ os) ≡ get_or (o ∷ os) (length os) 0
last_is x o [] = refl
last_is x o (p ∷ os) = last_is o p os

pub last_at : (os : List ℕ) (n : ℕ) → length os ≡ n + 1 → last_of 0 os ≡ get_or os n 0
last_at [] n e = absurd (omega arith)
last_at (o ∷ os) n e = last_is 0 o os ∙ ap (λ i. get_or (o ∷ os) i 0) (omega arith)

pub offsets_hold : (w : ℕ) (os : List ℕ) (rows bound : ℕ) → length os ≡ rows + 1 → offsets_sound w os bound ≡ true → Offsets os rows bound
offsets_hold w os rows bound l e =
    let p = and_parts (never_fall 0 os && leb (last_of 0 os) bound) (ltb (last_of 0 os) (2 ^ (8 * w - 1))) e in
    let q = and_parts (never_fall 0 os) (leb (last_of 0 os) bound) p.0 in
    record { fill = l; never_fall = λ i h. subst (λ m. get_or os i 0 ≤ get_or os m 0) (sym (add-one i)) (falls_not 0 os q.0 i (omega arith)); end_within = subst (λ x. x ≤ bound) (last_at os rows l) (leb-true (last_of 0 os) bound q.1) }

-- none is above the last
pub rising : (os : List ℕ) (rows : ℕ) → ((i : ℕ) → i < rows → get_or os i 0 ≤ get_or os (i + 1) 0) → (k i : ℕ) → i + k ≡ rows → get_or os i 0 ≤ get_or os rows 0
rising os rows h zero i e = let m : get_or os i 0 ≡ get_or os rows 0 = ap (λ j. get_or os j 0) (omega arith) in omega arith
rising os rows h (suc k) i e = let a = h i (omega arith) in let b = rising os rows h k (i + 1) (omega arith) in omega arith

pub offsets_rise : (os : List ℕ) (rows bound : ℕ) → Offsets os rows bound → (i : ℕ) → i < length os → get_or os i 0 ≤ get_or os rows 0
offsets_rise os rows bound o i l = rising os rows o.never_fall (rows - i) i (let f = o.fill in omega arith)

pub offsets_fit : (w : ℕ) (os : List ℕ) (rows bound : ℕ) → length os ≡ rows + 1 → offsets_sound w os bound ≡ true → AllByRecursion (λ o. o ≤ highest w) os
offsets_fit w os rows bound l e =
    let o : Offsets os rows bound = offsets_hold w os rows bound l e in
    let p = and_parts (never_fall 0 os && leb (last_of 0 os) bound) (ltb (last_of 0 os) (2 ^ (8 * w - 1))) e in
    let b = ltb-true (last_of 0 os) (2 ^ (8 * w - 1)) p.1 in
    let m = last_at os rows l in
    All-from_get_or (λ o. o ≤ highest w) os 0 (λ i h. let a = offsets_rise os rows bound o i h in omega arith)

pub climbs_hold : (low : ℕ) (es : List ℕ) (top : ℕ) → climbs low es top ≡ true → Climbs low es top
climbs_hold low [] top e = eqb-true low top e
climbs_hold low (x ∷ es) top e = let p = and_parts (ltb low x) (climbs x es top) e in (ltb-true low x p.0, climbs_hold x es top p.1)

pub rows_hold : (r : ℕ) (cs : Columns) → rows_are r cs ≡ true → RowsAre r cs
rows_hold r end e = tt
rows_hold r (c & cs) e = let p = and_parts (eqb (rows_of c) r) (rows_are r cs) e in (eqb-true (rows_of c) r p.0, rows_hold r cs p.1)

pub view_holds : (shelved : List (List ℕ)) (buffers : List ℕ) (b : Bool) (len a c d : ℕ) (inline : List ℕ) → ltb 12 len ≡ b → length inline ≡ 12 →
    view_sound shelved buffers (cond b (long len a c d) (short len inline)) ≡ true → ViewSound (λ x. get_or shelved x []) buffers (cond b (long len a c d) (short len inline))
view_holds shelved buffers true len a c d inline t l e =
    let bytes : List ℕ = get_or shelved (get_or buffers c 0) [] in
    let p = and_parts (ltb c (length buffers) && leb (d + len) (length bytes)) (eqb a (little_endian (slice bytes d 4))) e in
    let q = and_parts (ltb c (length buffers)) (leb (d + len) (length bytes)) p.0 in
    (ltb-true 12 len t, ltb-true c (length buffers) q.0, leb-true (d + len) (length bytes) q.1, eqb-true a (little_endian (slice bytes d 4)) p.1)
view_holds shelved buffers false len a c d inline t l e = (ltb-false 12 len t, l)

pub view_in_holds : (shelved : List (List ℕ)) (buffers : List ℕ) (v : List ℕ) → length v ≡ 16 → view_sound shelved buffers (view_in v) ≡ true → ViewSound (λ x. get_or shelved x []) buffers (view_in v)
view_in_holds shelved buffers v l e =
    view_holds shelved buffers (ltb 12 (value_at 4 v 0)) (value_at 4 v 0) (value_at 4 v 1) (value_at 4 v 2) (value_at 4 v 3) (drop 4 v) refl (simp length-drop (omega arith)) e

pub views_hold : (shelved : List (List ℕ)) (buffers : List ℕ) (n : ℕ) (body : List ℕ) → length body ≡ 16 * n → all_of (view_sound shelved buffers) (views_in n body) ≡ true →
    (i : ℕ) → i < n → ViewSound (λ x. get_or shelved x []) buffers (get_or (views_in n body) i (short 0 []))
views_hold shelved buffers n body l e i h =
    let at_i : get_or (views_in n body) i (short 0 []) ≡ view_in (slice body (16 * i) 16) =
    span_at (λ i. view_in (slice body (16 * i) 16)) 0 n i (short 0 []) h ∙ ap (λ j. view_in (slice body (16 * j) 16)) (zero-add i) in
    let passes : view_sound shelved buffers (get_or (views_in n body) i (short 0 [])) ≡ true =
    all_pass (view_sound shelved buffers) (views_in n body) (short 0 []) e i (subst (λ m. i < m) (sym (length_spanned (λ i. view_in (slice body (16 * i) 16)) n)) h) in
    subst (ViewSound (λ x. get_or shelved x []) buffers) (sym at_i)
    (view_in_holds shelved buffers (slice body (16 * i) 16) (simp (length-take, length-drop) (omega arith)) (subst (λ v. view_sound shelved buffers v ≡ true) at_i passes))
