-- The test of a node's soundness passes exactly when the node that was sent is sound.
use Rattle.std.proofs.Common.{◌≡◌, ℕ, suc, ◌+◌, ◌-◌, ◌*◌, ◌^◌, ◌<◌, ◌≤◌, Bool, true, ◌&&◌, eqb, ltb, leb, List, [], ◌∷◌, length, get_or, refl, subst, add-one, arith, pow_pos}
use mathlib.Core.Option.{Option, some, none}
use Rattle.std.proofs.lemmas.Bool.{and_parts, leb-true, eqb-true, not-true, and_from, lt-ltb, le-leb, eq-eqb, not_from_false}
use Rattle.std.specs.List.{AllByRecursion}
use Rattle.std.proofs.ByRecursion.{All-get_or}
use Rattle.columns.specs.Kinds.{Kind, primitive, boolean, strings, views, lists, maps, structs, run_ended, fixed_lists, unknown, width_of}
use Rattle.columns.specs.Format.{offset_bytes, highest}
use Rattle.columns.specs.Column.{View, short, long, bytes_for, Node, Columns, end, ◌&◌, first, nth, rows_of, kind}
use Rattle.columns.specs.Masks.{has_null}
use Rattle.columns.specs.Says.{slice}
use Rattle.columns.specs.Sound.{ViewSound, Offsets, Climbs, RowsAre, little_endian}
use Rattle.columns.specs.Checks.{all_of}
use Rattle.columns.specs.Heads.{Head, Role, ends_for, map_entries, free}
use Rattle.columns.specs.Sent.{Sent}
use Rattle.columns.specs.Contents.{value_at, values_in, view_in, views_in, node_from}
use Rattle.columns.specs.SoundTests.{mask_fills, body_size, never_fall, last_of, offsets_sound, climbs, role_sound, rows_are, view_sound, kind_sound, fills}
use Rattle.columns.specs.Exact.{MaskExact, Owed, Asked, SentWell, SoundnessTestIsExact}
use Rattle.columns.proofs.Tested.{length_spanned, last_at, offsets_hold, offsets_fit, climbs_hold, rows_hold, views_hold}

-- From what is sound to the tests.
rises : (low : ℕ) (os : List ℕ) → ((i : ℕ) → suc i < length os → get_or os i 0 ≤ get_or os (suc i) 0) → (0 < length os → low ≤ get_or os 0 0) → never_fall low os ≡ true
rises low [] h l = refl
rises low (o ∷ os) h l = and_from (leb low o) (never_fall o os) (le-leb low o (l (omega arith))) (rises o os (λ i m. h (suc i) (omega arith)) (λ m. h 0 (omega arith)))

offsets_pass : (w : ℕ) (os : List ℕ) (rows bound : ℕ) → Offsets os rows bound → AllByRecursion (λ o. o ≤ highest w) os → offsets_sound w os bound ≡ true
offsets_pass w os rows bound o f =
    let fill = o.fill in
    let last : last_of 0 os ≡ get_or os rows 0 = last_at os rows fill in
    let within = o.end_within in
    let high : get_or os rows 0 ≤ highest w = All-get_or (λ o. o ≤ highest w) os rows 0 (omega arith) f in
    let p = pow_pos (8 * w - 1) in
    and_from (never_fall 0 os && leb (last_of 0 os) bound) (ltb (last_of 0 os) (2 ^ (8 * w - 1)))
    (and_from (never_fall 0 os) (leb (last_of 0 os) bound)
    (rises 0 os (λ i m. subst (λ j. get_or os i 0 ≤ get_or os j 0) (add-one i) (o.never_fall i (omega arith))) (λ m. omega arith))
    (le-leb (last_of 0 os) bound (omega arith)))
    (lt-ltb (last_of 0 os) (2 ^ (8 * w - 1)) (omega arith))

climbs_pass : (low : ℕ) (es : List ℕ) (top : ℕ) → Climbs low es top → climbs low es top ≡ true
climbs_pass low [] top h = eq-eqb low top h
climbs_pass low (e ∷ es) top h = and_from (ltb low e) (climbs e es top) (lt-ltb low e h.0) (climbs_pass e es top h.1)

rows_pass : (r : ℕ) (cs : Columns) → RowsAre r cs → rows_are r cs ≡ true
rows_pass r end h = refl
rows_pass r (c & cs) h = and_from (eqb (rows_of c) r) (rows_are r cs) (eq-eqb (rows_of c) r h.0) (rows_pass r cs h.1)

view_passes : (shelved : List (List ℕ)) (buffers : List ℕ) (v : View) → ViewSound (λ b. get_or shelved b []) buffers v → view_sound shelved buffers v ≡ true
view_passes shelved buffers (short len inline) h = refl
view_passes shelved buffers (long len prefix position offset) h =
    let bytes : List ℕ = get_or shelved (get_or buffers position 0) [] in
    and_from (ltb position (length buffers) && leb (offset + len) (length bytes)) (eqb prefix (little_endian (slice bytes offset 4)))
    (and_from (ltb position (length buffers)) (leb (offset + len) (length bytes)) (lt-ltb position (length buffers) h.1) (le-leb (offset + len) (length bytes) h.2))
    (eq-eqb prefix (little_endian (slice bytes offset 4)) h.3)

all_pass_from : {X : Type 0} (test : X → Bool) (xs : List X) (d : X) → ((i : ℕ) → i < length xs → test (get_or xs i d) ≡ true) → all_of test xs ≡ true
all_pass_from test [] d h = refl
all_pass_from test (x ∷ xs) d h = and_from (test x) (all_of test xs) (h 0 (omega arith)) (all_pass_from test xs d (λ i l. h (suc i) (omega arith)))

-- both ways, part by part
module _ (shelved : List (List ℕ)) (h : Head) (s : Sent) (cs : Columns) where
  many_offsets : length (values_in (offset_bytes h.format) (h.rows + 1) s.body) ≡ h.rows + 1
  many_offsets = length_spanned (value_at (offset_bytes h.format) s.body) (h.rows + 1)

  asked : (K : Kind) → length s.body ≡ body_size K h → kind_sound shelved K (node_from K h s) cs ≡ true → Asked (λ b. get_or shelved b []) K (node_from K h s) cs
  asked (primitive w) f e = tt
  asked boolean f e = tt
  asked strings f e = (offsets_hold (offset_bytes h.format) _ h.rows (length s.text) many_offsets e, offsets_fit (offset_bytes h.format) _ h.rows (length s.text) many_offsets e)
  asked views f e = views_hold shelved _ h.rows s.body f e
  asked lists f e = (offsets_hold (offset_bytes h.format) _ h.rows (rows_of (first cs)) many_offsets e, offsets_fit (offset_bytes h.format) _ h.rows (rows_of (first cs)) many_offsets e)
  asked maps f e = (offsets_hold (offset_bytes h.format) _ h.rows (rows_of (first cs)) many_offsets e, offsets_fit (offset_bytes h.format) _ h.rows (rows_of (first cs)) many_offsets e)
  asked structs f e = rows_hold h.rows cs e
  asked run_ended f e = eqb-true (rows_of (nth cs 1)) (rows_of (first cs)) e
  asked (fixed_lists N) f e = eqb-true (rows_of (first cs)) (h.rows * N) e
  asked unknown f e = absurd (let z : ◌≡◌ {A = ℕ} 0 1 = cc in omega arith)

  asked_passes : (K : Kind) → Asked (λ b. get_or shelved b []) K (node_from K h s) cs → kind_sound shelved K (node_from K h s) cs ≡ true
  asked_passes (primitive w) a = refl
  asked_passes boolean a = refl
  asked_passes strings a = offsets_pass (offset_bytes h.format) _ h.rows (length s.text) a.0 a.1
  asked_passes views a =
      all_pass_from (view_sound shelved (node_from views h s).buffers) (views_in h.rows s.body) (short 0 []) (λ i l.
      view_passes shelved (node_from views h s).buffers (get_or (views_in h.rows s.body) i (short 0 [])) (a i (subst (λ m. i < m) (length_spanned (λ i. view_in (slice s.body (16 * i) 16)) h.rows) l)))
  asked_passes lists a = offsets_pass (offset_bytes h.format) _ h.rows (rows_of (first cs)) a.0 a.1
  asked_passes maps a = offsets_pass (offset_bytes h.format) _ h.rows (rows_of (first cs)) a.0 a.1
  asked_passes structs a = rows_pass h.rows cs a
  asked_passes run_ended a = eq-eqb (rows_of (nth cs 1)) (rows_of (first cs)) a
  asked_passes (fixed_lists N) a = eq-eqb (rows_of (first cs)) (h.rows * N) a
  asked_passes unknown a = absurd a

owed : (role : Role) (n : Node) → role_sound role n ≡ true → Owed role n
owed (ends_for rows) n e =
    let t = and_parts (climbs 0 n.values rows) (leb rows (highest (width_of (kind n)))) e in
    (climbs_hold 0 n.values rows t.0, leb-true rows (highest (width_of (kind n))) t.1)
owed map_entries n e = not-true (has_null n) e
owed free n e = tt

owed_passes : (role : Role) (n : Node) → Owed role n → role_sound role n ≡ true
owed_passes (ends_for rows) n o = and_from (climbs 0 n.values rows) (leb rows (highest (width_of (kind n)))) (climbs_pass 0 n.values rows o.0) (le-leb rows (highest (width_of (kind n))) o.1)
owed_passes map_entries n o = not_from_false (has_null n) o
owed_passes free n o = refl

mask_exact : (n : ℕ) (m : Option (List ℕ)) → mask_fills n m ≡ true → MaskExact n m
mask_exact n none e = tt
mask_exact n (some bytes) e = eqb-true (length bytes) (bytes_for n) e

mask_passes : (n : ℕ) (m : Option (List ℕ)) → MaskExact n m → mask_fills n m ≡ true
mask_passes n none e = refl
mask_passes n (some bytes) e = eq-eqb (length bytes) (bytes_for n) e

pub soundness_test_is_exact : SoundnessTestIsExact
soundness_test_is_exact shelved role K h s cs = (there, back)
  where
    n : Node
    n = node_from K h s

    there : (fills K h s && role_sound role (node_from K h s) && kind_sound shelved K (node_from K h s) cs) ≡ true → SentWell shelved role K h s cs
    there e =
        let t = and_parts (fills K h s && role_sound role n) (kind_sound shelved K n cs) e in
        let u = and_parts (fills K h s) (role_sound role n) t.0 in
        let v = and_parts (mask_fills h.rows s.mask) (eqb (length s.body) (body_size K h)) u.0 in
        let b : length s.body ≡ body_size K h = eqb-true (length s.body) (body_size K h) v.1 in
        record { mask_fills = mask_exact h.rows s.mask v.0; body_fills = b; owed = owed role n u.1; asked = asked shelved h s cs K b t.1 }

    back : SentWell shelved role K h s cs → (fills K h s && role_sound role (node_from K h s) && kind_sound shelved K (node_from K h s) cs) ≡ true
    back w =
        and_from (fills K h s && role_sound role n) (kind_sound shelved K n cs)
        (and_from (fills K h s) (role_sound role n)
        (and_from (mask_fills h.rows s.mask) (eqb (length s.body) (body_size K h)) (mask_passes h.rows s.mask w.mask_fills) (eq-eqb (length s.body) (body_size K h) w.body_fills))
        (owed_passes role n w.owed))
        (asked_passes shelved h s cs K w.asked)
