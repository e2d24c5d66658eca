-- entries that take so many bytes each, one after another
use Rattle.std.proofs.Common.{◌≡◌, ℕ, zero, suc, ◌+◌, ◌*◌, ◌/◌, ◌<◌, Bool, true, false, cond, ◌&&◌, List, [], ◌∷◌, ◌++◌, map, length, take, drop, None, sym, refl, ap, ◌∙◌, arith}
use Rattle.std.proofs.Math.Nat.{mul-add, add-div_left, mul-div_cancel_left}
use Rattle.std.proofs.Math.Seq.{drop-append-add}
use Rattle.std.proofs.lemmas.List.{length-append, take-append-le, length-map, take_all}
use Rattle.std.specs.List.{list_all}
use Rattle.std.specs.Slice.Iter.{chunks_exact_rest, chunks_exact_size, chunks_exact_steps}
use Rattle.std.specs.declared.slice.ChunksExact.{ChunksExact}
use Rattle.std.proofs.lemmas.Iterator.{YieldsList}
use Rattle.std.proofs.lemmas.Iterator.Splits.{YieldsList-from_shown_while}
use Rattle.columns.specs.Checks.{all_of}
use Rattle.columns.specs.Column.{View}
use Rattle.columns.specs.Says.{span, slice}
use Rattle.columns.specs.Contents.{values_in, view_in, views_in}
use Rattle.columns.specs.Sound.{little_endian}
use Rattle.parcels.proofs.Along.{length_span}
use Rattle.formats.specs.declared.format.Width.{Width}
use Rattle.formats.specs.declared.format.Width.TheVariants.{One, Two, Four, Eight}
use Rattle.formats.specs.Spelled.{bytes_of}
use Rattle.pools.specs.Laid.{entries_in}
use Rattle.soundness.specs.Walks.{all_values, walked}

-- the first entry, and the others
span_next : {X : Type 0} (f g : ℕ → X) (a b n : ℕ) → ((k : ℕ) → f (a + k) ≡ g (b + k)) → map f (span a n) ≡ map g (span b n)
span_next f g a b zero h = refl
span_next f g a b (suc n) h =
    ap (λ (x : _). x ∷ map f (span (suc a) n)) (ap f (let e : a ≡ a + 0 = omega arith in e) ∙ h 0 ∙ ap g (let e : b + 0 ≡ b = omega arith in e))
    ∙ ap (λ (l : List _). g b ∷ l) (span_next f g (suc a) (suc b) n (λ k. ap f (let e : suc a + k ≡ a + suc k = omega arith in e) ∙ h (suc k) ∙ ap g (let e : b + suc k ≡ suc b + k = omega arith in e)))

module _ {X : Type 0} (told : List ℕ → X) (size n : ℕ) (x rest : List ℕ) (l : length x ≡ size) where
  times : (k : ℕ) → size * (1 + k) ≡ length x + size * k
  times k = omega (arith, mul-add size 1 k, l)

  pub entries_next : entries_in told size (suc n) (x ++ rest) ≡ told (x ++ rest) ∷ entries_in told size n rest
  entries_next =
      ap (λ (k : ℕ). told (drop k (x ++ rest)) ∷ map (λ (i : ℕ). told (drop (size * i) (x ++ rest))) (span 1 n)) (let e : size * 0 ≡ 0 = omega arith in e)
      ∙ ap (λ (r : List X). told (x ++ rest) ∷ r)
      (span_next (λ (i : ℕ). told (drop (size * i) (x ++ rest))) (λ (i : ℕ). told (drop (size * i) rest)) 1 0 n
      (λ k. ap (λ (m : ℕ). told (drop m (x ++ rest))) (times k) ∙ ap told (drop-append-add x rest (size * k)) ∙ ap (λ (m : ℕ). told (drop (size * m) rest)) (let e : k ≡ 0 + k = omega arith in e)))

-- all values of a buffer, by the bytes of the first
pub values_next : (w : ℕ) (bytes x rest : List ℕ) → 0 < w → bytes ≡ x ++ rest → length x ≡ w → all_values w bytes ≡ little_endian (take w x) ∷ all_values w rest
values_next w bytes x rest p e l =
    let n : length bytes / w ≡ suc (length rest / w) =
    ap (λ (k : ℕ). k / w) (ap length e ∙ length-append x rest ∙ ap (λ (k : ℕ). k + length rest) l) ∙ add-div_left (length rest) p ∙ (let z : length rest / w + 1 ≡ suc (length rest / w) = omega arith in z) in
    ap (λ (b : List ℕ). values_in w (length bytes / w) b) e
    ∙ ap (λ (k : ℕ). values_in w k (x ++ rest)) n
    ∙ entries_next (λ b. little_endian (take w b)) w (length rest / w) x rest l
    ∙ ap (λ (b : List ℕ). little_endian b ∷ all_values w rest) (take-append-le w x rest (omega arith))

pub values_all : (w n : ℕ) (bytes : List ℕ) → 0 < w → length bytes ≡ w * n → all_values w bytes ≡ values_in w n bytes
values_all w n bytes p e = ap (λ (k : ℕ). values_in w k bytes) (ap (λ (k : ℕ). k / w) e ∙ mul-div_cancel_left n p)

-- one value more is walked
pub walk_stops : (test : ℕ → ℕ → Bool) (w low next : ℕ) (bytes x rest : List ℕ) → 0 < w → bytes ≡ x ++ rest → length x ≡ w → next ≡ little_endian (take w x) → test low next ≡ false → walked test low (all_values w bytes) ≡ None
walk_stops test w low next bytes x rest p e l v f =
    ap (walked test low) (values_next w bytes x rest p e l ∙ ap (λ (n : ℕ). n ∷ all_values w rest) (sym v)) ∙ ap (λ (b : Bool). cond b (walked test next (all_values w rest)) None) f

pub walk_goes : (test : ℕ → ℕ → Bool) (w low next : ℕ) (bytes x rest : List ℕ) → 0 < w → bytes ≡ x ++ rest → length x ≡ w → next ≡ little_endian (take w x) → test low next ≡ true → walked test low (all_values w bytes) ≡ walked test next (all_values w rest)
walk_goes test w low next bytes x rest p e l v f =
    ap (walked test low) (values_next w bytes x rest p e l ∙ ap (λ (n : ℕ). n ∷ all_values w rest) (sym v)) ∙ ap (λ (b : Bool). cond b (walked test next (all_values w rest)) None) f

-- all views of a buffer, by the bytes of the first
abbrev pub all_views : List ℕ → List View
all_views bytes = views_in (length bytes / 16) bytes

views_next : (bytes x rest : List ℕ) → bytes ≡ x ++ rest → length x ≡ 16 → all_views bytes ≡ view_in x ∷ all_views rest
views_next bytes x rest e l =
    let n : length bytes / 16 ≡ suc (length rest / 16) = omega (arith, ap length e, length-append x rest) in
    ap (λ (b : List ℕ). views_in (length bytes / 16) b) e
    ∙ ap (λ (k : ℕ). views_in k (x ++ rest)) n
    ∙ entries_next (λ b. view_in (take 16 b)) 16 (length rest / 16) x rest l
    ∙ ap (λ (b : List ℕ). view_in b ∷ all_views rest) (take-append-le 16 x rest (omega arith) ∙ take_all 16 x (omega arith))

pub views_chain : (s : ChunksExact ℕ) → chunks_exact_size s ≡ 16 → YieldsList (chunks_exact_steps {A = ℕ}) (λ x. view_in x.now) s (all_views (chunks_exact_rest s))
views_chain =
    YieldsList-from_shown_while (chunks_exact_steps {A = ℕ}) (λ x. view_in x.now) (λ s. all_views (chunks_exact_rest s)) (λ s. chunks_exact_size s ≡ 16)
    (λ s t p k. length-map (span 0 (length (chunks_exact_rest s) / 16)) (λ i. view_in (slice (chunks_exact_rest s) (16 * i) 16)) ∙ length_span 0 _ ∙ omega (arith, k.1.0))
    (λ s x t p k. (k.0 ∙ p, views_next (chunks_exact_rest s) x.now (chunks_exact_rest t) k.1.0 (k.1.1 ∙ p)))

pub all_same : {X : Type 0} (test : X → Bool) (xs : List X) → list_all test xs ≡ all_of test xs
all_same test [] = refl
all_same test (x ∷ xs) = ap (λ (b : Bool). test x && b) (all_same test xs)

pub some_bytes : (width : Width) → 0 < bytes_of width
some_bytes One = omega arith
some_bytes Two = omega arith
some_bytes Four = omega arith
some_bytes Eight = omega arith
