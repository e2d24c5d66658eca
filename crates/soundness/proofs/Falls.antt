use Rattle.std.proofs.Common.{◌≡◌, ℕ, zero, suc, ◌+◌, ◌-◌, ◌<◌, Bool, true, false, not, ◌&&◌, ◌||◌, eqb, ltb, leb, cond, List, [], ◌∷◌, map, length, get_or, Some, None, Option, refl, sym, ap, ◌∙◌, inl, inr, arith}
use Rattle.std.proofs.lemmas.List.{get_or-map, length-map}
use Rattle.std.proofs.lemmas.Bool.{le-leb, lt-leb, lt-ltb, le-ltb, cases_lt}
use Rattle.std.specs.List.{list_all, range_with_len}
use Rattle.columns.specs.Says.{span}
use Rattle.columns.specs.SoundTests.{never_fall, last_of, climbs}
use Rattle.columns.specs.Contents.{values_in, value_at, bit_at, bits_in}
use Rattle.columns.specs.Masks.{some_null}
use Rattle.std.specs.Option.{MatchOption, option_eq}
use Rattle.std.proofs.lemmas.Bool.{cases_Bool}
use Rattle.soundness.specs.Walks.{walked}
use Rattle.parcels.proofs.Along.{length_span}

pub get_or_span : (a n i : ℕ) → i < n → get_or (span a n) i 0 ≡ a + i
get_or_span a zero i h = absurd (omega arith)
get_or_span a (suc n) zero h = omega arith
get_or_span a (suc n) (suc i) h = get_or_span (suc a) n i (omega arith) ∙ omega arith

pub length_values : (w n : ℕ) (bytes : List ℕ) → length (values_in w n bytes) ≡ n
length_values w n bytes = length-map (span 0 n) (value_at w bytes) ∙ length_span 0 n

pub get_or_values : (w n i : ℕ) (bytes : List ℕ) → i < n → get_or (values_in w n bytes) i 0 ≡ value_at w bytes i
get_or_values w n i bytes h =
    get_or-map (value_at w bytes) (span 0 n) i 0 0 (rw length_span h) ∙ ap (value_at w bytes) (get_or_span 0 n i h ∙ omega arith)

pub length_bits : (n : ℕ) (bytes : List ℕ) → length (bits_in n bytes) ≡ n
length_bits n bytes = length-map (span 0 n) (bit_at bytes) ∙ length_span 0 n

pub get_or_bits : (n i : ℕ) (bytes : List ℕ) → i < n → get_or (bits_in n bytes) i false ≡ bit_at bytes i
get_or_bits n i bytes h =
    get_or-map (bit_at bytes) (span 0 n) i 0 false (rw length_span h) ∙ ap (bit_at bytes) (get_or_span 0 n i h ∙ omega arith)

-- offsets that are walked
abbrev pub and_some : Option ℕ → (ℕ → Bool) → Bool
and_some None t = false
and_some (Some x) t = t x

pub some_by : (o : Option ℕ) (r : Bool) (t : ℕ → Bool) (P : ℕ → Type 0) → MatchOption o (r ≡ false) P → ((x : ℕ) → P x → r ≡ t x) → r ≡ and_some o t
some_by None r t P m f = m
some_by (Some x) r t P m f = f x m

module _ (t u : ℕ → Bool) where
  pub walk_rises : (low : ℕ) (os : List ℕ) → and_some (walked leb low os) (λ x. t x && u x) ≡ (never_fall low os && t (last_of low os) && u (last_of low os))
  walk_rises low [] = refl
  walk_rises low (o ∷ os) =
      let F : Bool → Bool = λ b. and_some (cond b (walked leb o os) None) (λ x. t x && u x) in
      let G : Bool → Bool = λ b. (b && never_fall o os) && t (last_of o os) && u (last_of o os) in
      elim (cases_Bool (leb low o)) [
        | inl e ↦ ap F e ∙ walk_rises o os ∙ ap G (sym e)
        | inr e ↦ ap F e ∙ ap G (sym e)
      ]

-- run ends that are walked
pub walk_climbs : (low top : ℕ) (es : List ℕ) → option_eq eqb (walked ltb low es) (Some top) ≡ climbs low es top
walk_climbs low top [] = refl
walk_climbs low top (x ∷ es) =
    let F : Bool → Bool = λ b. option_eq eqb (cond b (walked ltb x es) None) (Some top) in
    let G : Bool → Bool = λ b. b && climbs x es top in
    elim (cases_Bool (ltb low x)) [ inl e ↦ ap F e ∙ walk_climbs x top es ∙ ap G (sym e) | inr e ↦ ap F e ∙ ap G (sym e) ]

-- below the half is at most the highest
pub below_half : (top half : ℕ) → 0 < half → ltb top half ≡ leb top (half - 1)
below_half top half p =
    elim (cases_lt top half) [
      | inl h ↦ lt-ltb top half h ∙ sym (le-leb top (half - 1) (omega arith))
      | inr h ↦ le-ltb top half h ∙ sym (lt-leb top (half - 1) (omega arith))
    ]

-- no bit of a mask is 0
pub all_set : (test : ℕ → Bool) (a n : ℕ) → list_all test (range_with_len a n) ≡ not (some_null (map test (span a n)))
all_set test a zero = refl
all_set test a (suc n) = all_by (test a) (list_all test (range_with_len (a + 1) n)) (some_null (map test (span (suc a) n))) (ap (λ (k : ℕ). list_all test (range_with_len k n)) (let e : a + 1 ≡ suc a = omega arith in e) ∙ all_set test (suc a) n)
  where
    all_by : (b c d : Bool) → c ≡ not d → (b && c) ≡ not (not b || d)
    all_by true c d e = e
    all_by false c d e = refl
