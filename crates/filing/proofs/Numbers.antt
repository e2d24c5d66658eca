-- Entries that lie in a part of a parcel.
use Rattle.std.proofs.Common.{◌≡◌, ℕ, zero, suc, ◌+◌, ◌*◌, ◌<◌, ◌≤◌, List, [], ◌∷◌, ◌++◌, map, length, take, drop, set, sym, refl, ap, ◌∙◌, subst, ap₂, arith, length-append, length-drop}
use Rattle.std.specs.List.{AllZip, each_same}
use Rattle.std.proofs.Math.Nat.{mul-add}
use Rattle.std.proofs.lemmas.List.{take-take, drop-take, take-append-drop, length-take-le}
use Rattle.std.proofs.ByRecursion.{All-drop}
use Rattle.columns.specs.Sound.{little_endian}
use Rattle.columns.specs.Contents.{view_in, views_in}
use Rattle.columns.specs.Column.{View}
use Rattle.columns.specs.Bytes.{view_of_halves}
use Rattle.columns.specs.Widths.{Bytes}
use Rattle.columns.proofs.Bytes.{views_read_back}
use Rattle.columns.proofs.Reading.{bytes_slice}
use Rattle.pools.specs.declared.records.View.{View as Halves}
use Rattle.pools.specs.declared.pool.Pool.{Pool}
use Rattle.pools.specs.Laid.{number_in, halves_in, entries_in}
use Rattle.pools.specs.Held.{view_from}
use Rattle.pools.specs.Used.{Gains}
use Rattle.pools.specs.Grown.{most_entries, Grown}
use Rattle.pools.proofs.Growing.{grown_none, grown_one, grown_then}
use Rattle.soundness.proofs.Chunks.{entries_next}

-- at a loop over entries that has come to mark m over xs: how many are left, and that all are added once they are
pub record Laying {X Y : Type 0} (R : X → Y → Type 0) (told : List ℕ → X) (size : ℕ) (p : Pool Y) (m : ℕ) (xs : List Y) (all : List X) (left : ℕ) (rest : List ℕ) : Type 0 where
  pub lent : m + left ≤ length xs
  pub capped : m + left ≤ most_entries
  pub filled : size * left ≡ length rest
  pub then : (n : ℕ) (ys more : List Y) → AllZip R (entries_in told size left rest) more → Grown m xs more n ys → (new : List Y) × AllZip R all new × Grown p.mark p.lent.now new n ys

pub laying_more : {X Y : Type 0} {R : X → Y → Type 0} {told : List ℕ → X} {size : ℕ} {p : Pool Y} {m : ℕ} {xs : List Y} {all : List X} (left : ℕ) (rest x after : List ℕ) (y : Y) (ys : List Y) → rest ≡ x ++ after → length x ≡ size
    → R (told (x ++ after)) y → ys ≡ set xs m y → Laying R told size p m xs all (suc left) rest → Laying R told size p (m + 1) ys all left after
laying_more {X} {Y} {R} {told} {size} {p} {m} {xs} {all} left rest x after y ys e l made g s =
    let here : Laying R told size p m xs all (suc left) (x ++ after) = subst (λ (bytes : List ℕ). Laying R told size p m xs all (suc left) bytes) e s in
    let one : Grown m xs (y ∷ []) (m + 1) ys = grown_one m xs y ys (let h = here.lent in omega arith) g in
    record {
      lent = (let h = here.lent in let b = one.len in omega arith);
      capped = (let k = here.capped in omega arith);
      filled = (let h = here.filled in let k = length-append x after in let z = mul-add size 1 left in omega arith);
      then = λ n zs more a h. here.then n zs (y ∷ more) (subst (λ (es : List X). AllZip R es (y ∷ more)) (sym (entries_next told size left x after l)) (made, a)) (grown_then one h);
    }

pub laying_next : {X Y : Type 0} {R : X → Y → Type 0} {told : List ℕ → X} {size : ℕ} {p : Pool Y} {m : ℕ} {xs : List Y} {all : List X} (n : ℕ) (rest x after : List ℕ) (y : Y) (ys : List Y) → 0 < size → rest ≡ x ++ after → length x ≡ size
    → R (told (x ++ after)) y → ys ≡ set xs m y → Laying R told size p m xs all n rest → (left : ℕ) × Laying R told size p (m + 1) ys all left after
laying_next {X} {Y} {R} {told} {size} zero rest x after y ys p e l made g s = absurd (omega (arith, ap length e, length-append x after, s.filled))
laying_next (suc m) rest x after y ys p e l made g s = (m, laying_more m rest x after y ys e l made g s)

-- one more has room
pub laying_room : {X Y : Type 0} {R : X → Y → Type 0} {told : List ℕ → X} {size : ℕ} {p : Pool Y} {m : ℕ} {xs : List Y} {all : List X} (n : ℕ) (rest x after : List ℕ) → 0 < size → rest ≡ x ++ after → length x ≡ size
    → Laying R told size p m xs all n rest → m < length xs
laying_room zero rest x after h e l s = absurd (omega (arith, ap length e, length-append x after, s.filled))
laying_room (suc n) rest x after h e l s = let k = s.lent in omega arith

pub laying_end : {X Y : Type 0} {R : X → Y → Type 0} {told : List ℕ → X} {size : ℕ} {p : Pool Y} {m : ℕ} {xs : List Y} {all : List X} (n : ℕ) (rest : List ℕ) → length rest < size
    → Laying R told size p m xs all n rest → (new : List Y) × AllZip R all new × Grown p.mark p.lent.now new m xs
laying_end {X} {Y} {R} {told} {size} {p} {m} {xs} zero rest h s = s.then m xs [] tt (grown_none _ _)
laying_end {X} {Y} {R} {told} {size} (suc n) rest h s = absurd (omega (arith, h, s.filled, mul-add size 1 n))

-- What was made of entries that are told by their own bytes alone, each the same as its entry, is the entries.
pub made_same : {X : Type 0} (p q : Pool X) (told : List ℕ → X) (size : ℕ) {m n : ℕ} {bytes body : List ℕ} → m ≡ n → bytes ≡ body → ((b : List ℕ) → told (take size b) ≡ told b)
    → (new : List X) × AllZip (λ x y. y ≡ x) (entries_in (λ b. told (take size b)) size m bytes) new × Gains p new q → Gains p (entries_in told size n body) q
made_same {X} p q told size {m} {n} {bytes} {body} k e alone h =
    let same : entries_in (λ b. told (take size b)) size m bytes ≡ entries_in told size n body = λ i. entries_in (λ b. alone b i) size (k i) (e i) in
    subst (λ (new : List X). Gains p new q) (each_same (entries_in (λ b. told (take size b)) size m bytes) h.0 h.1 ∙ same) h.2

pub number_alone : (w : ℕ) (b : List ℕ) → number_in w (take w b) ≡ number_in w b
number_alone w b = ap little_endian (take-take w w b (omega arith))

pub halves_alone : (b : List ℕ) → halves_in (take 16 b) ≡ halves_in b
halves_alone b =
    ap₂ (λ (x y : List ℕ). (let v : Halves = record { low = little_endian x; high = little_endian y } in v)) (take-take 8 16 b (omega arith))
    (ap (take 8) (drop-take 8 8 b) ∙ take-take 8 8 (drop 8 b) (omega arith))

-- the first entry, and the others
entries_split : {X : Type 0} (told : List ℕ → X) (size n : ℕ) (bytes : List ℕ) → size ≤ length bytes → entries_in told size (suc n) bytes ≡ told bytes ∷ entries_in told size n (drop size bytes)
entries_split {X} told size n bytes h =
    subst (λ (xs : List ℕ). entries_in told size (suc n) xs ≡ told xs ∷ entries_in told size n (drop size bytes)) (take-append-drop size bytes)
    (entries_next told size n (take size bytes) (drop size bytes) (length-take-le size bytes h))

-- views by their halves
view_told : (bytes : List ℕ) → 16 ≤ length bytes → Bytes bytes → view_from (halves_in bytes) ≡ view_in (take 16 bytes)
view_told bytes h b =
    sym
    (views_read_back.read (take 16 bytes) (length-take-le 16 bytes h) (bytes_slice bytes 0 16 b)
    ∙ ap₂ (λ (x y : List ℕ). view_of_halves (little_endian x) (little_endian y)) (take-take 8 16 bytes (omega arith)) (drop-take 8 8 bytes))

pub views_told : (n : ℕ) (bytes : List ℕ) → 16 * n ≤ length bytes → Bytes bytes → map view_from (entries_in halves_in 16 n bytes) ≡ views_in n bytes
views_told zero bytes h b = refl
views_told (suc n) bytes h b =
    let some : 16 ≤ length bytes = omega arith in
    ap (map view_from) (entries_split halves_in 16 n bytes some)
    ∙ ap₂ (λ (v : View) (l : List View). v ∷ l) (view_told bytes some b) (views_told n (drop 16 bytes) (omega (arith, length-drop 16 bytes)) (All-drop (λ k. k < 256) 16 bytes b))
    ∙ sym (entries_split (λ (xs : List ℕ). view_in (take 16 xs)) 16 n bytes some)
