-- Where no pool is too short, what is needed fits.
use Rattle.std.proofs.Common.{◌≡◌, ℕ, ◌+◌, ◌≤◌, Bool, true, false, cond, ◌&&◌, leb, List, [], ◌∷◌, ◌++◌, length, None, refl, ap, ◌∙◌, arith}
use mathlib.Core.Option as math
use Rattle.std.specs.List.{AllByRecursion}
use Rattle.std.proofs.lemmas.Bool.{and_parts, leb-true}
use Rattle.std.proofs.lemmas.List.{length-take-le}
use Rattle.columns.specs.Checks.{first_failing}
use Rattle.columns.specs.Ledger.{Shelf}
use Rattle.columns.specs.Pools.{Entries, fits, full_pool, pools}
use Rattle.formats.specs.Spelled.{lifted}
use Rattle.pools.specs.declared.pool.Pool.{Pool}
use Rattle.pools.specs.declared.pools.Pools.{Pools}
use Rattle.pools.specs.declared.pools.Marks.{Marks}
use Rattle.pools.specs.Grown.{most_entries}
use Rattle.pools.specs.Used.{used, Fit}
use Rattle.pools.specs.Store.{store}
use Rattle.pools.specs.Shows.{counts, Shows}
use Rattle.pools.specs.Marked.{marks_of, lengths_of, entries}
use Rattle.pools.specs.Kept.{Standing, Ready, RoomFor}

none_failing : {X : Type 0} (test : X → Bool) (xs : List X) → first_failing test xs ≡ math.none → AllByRecursion (λ x. test x ≡ true) xs
none_failing test [] e = tt
none_failing {X} test (x ∷ xs) e = go (test x) refl e (none_failing test xs)
  where
    go : (b : Bool) → test x ≡ b → cond b (first_failing test xs) (math.some x) ≡ math.none →
        (first_failing test xs ≡ math.none → AllByRecursion (λ y. test y ≡ true) xs) → AllByRecursion (λ y. test y ≡ true) (x ∷ xs)
    go true t h rest = (t, rest h)
    go false t h rest = absurd (let z : ◌≡◌ {A = ℕ} 0 1 = cc in omega arith)

not_some : {X : Type 0} (o : math.Option X) → None ≡ lifted o → o ≡ math.none
not_some math.none e = refl
not_some (math.some x) e = cc

fit_from : {X : Type 0} (p : Pool X) (n : ℕ) → leb (p.mark + n) (length p.lent.now) && leb (p.mark + n) most_entries ≡ true → Fit p n
fit_from p n e =
    let both = and_parts (leb (p.mark + n) (length p.lent.now)) (leb (p.mark + n) most_entries) e in
    record { lent = leb-true (p.mark + n) (length p.lent.now) both.0; capped = leb-true (p.mark + n) most_entries both.1 }

pub room_for : (p : Pools) (needs : Marks) (len mark pairs : ℕ) → None ≡ lifted (full_pool (entries (lengths_of p) ++ len ∷ []) (entries (marks_of p) ++ mark ∷ []) (entries needs ++ pairs ∷ [])) →
    RoomFor p needs × (mark + pairs ≤ len) × (mark + pairs ≤ most_entries)
room_for p needs len mark pairs e =
    let L : Entries = entries (lengths_of p) ++ len ∷ [] in
    let M : Entries = entries (marks_of p) ++ mark ∷ [] in
    let N : Entries = entries needs ++ pairs ∷ [] in
    let all : AllByRecursion (λ k. fits L M N k ≡ true) pools = none_failing (fits L M N) pools (not_some (full_pool L M N) e) in
    let last = and_parts (leb (mark + pairs) len) (leb (mark + pairs) most_entries) all.1.1.1.1.1.1.1.1.1.1.0 in (
      record {
        columns = fit_from p.columns needs.columns all.0;
        nodes = fit_from p.nodes needs.nodes all.1.0;
        bytes = fit_from p.bytes needs.bytes all.1.1.0;
        shorts = fit_from p.shorts needs.shorts all.1.1.1.0;
        words = fit_from p.words needs.words all.1.1.1.1.0;
        longs = fit_from p.longs needs.longs all.1.1.1.1.1.0;
        offsets = fit_from p.offsets needs.offsets all.1.1.1.1.1.1.0;
        views = fit_from p.views needs.views all.1.1.1.1.1.1.1.0;
        lists = fit_from p.lists needs.lists all.1.1.1.1.1.1.1.1.0;
        buffers = fit_from p.buffers needs.buffers all.1.1.1.1.1.1.1.1.1.0;
      },
      leb-true (mark + pairs) len last.0,
      leb-true (mark + pairs) most_entries last.1,
    )

-- The marks of pools that stand are the counts of what they hold.
count_used : {X : Type 0} (p : Pool X) → Standing p → length (used p) ≡ p.mark
count_used p s = length-take-le p.mark p.lent.now s.fits

pub counts_are_marks : (p : Pools) → Ready p → counts (store p) ≡ entries (marks_of p) ++ 0 ∷ []
counts_are_marks p r =
    ap (λ (n : ℕ). n ∷ length (used p.nodes) ∷ length (used p.bytes) ∷ length (used p.shorts) ∷ length (used p.words) ∷ length (used p.longs) ∷ length (used p.offsets) ∷ length (used p.views) ∷ length (used p.lists) ∷ length (used p.buffers) ∷ 0 ∷ []) (count_used p.columns r.columns)
    ∙ ap (λ (n : ℕ). p.columns.mark ∷ n ∷ length (used p.bytes) ∷ length (used p.shorts) ∷ length (used p.words) ∷ length (used p.longs) ∷ length (used p.offsets) ∷ length (used p.views) ∷ length (used p.lists) ∷ length (used p.buffers) ∷ 0 ∷ []) (count_used p.nodes r.nodes)
    ∙ ap (λ (n : ℕ). p.columns.mark ∷ p.nodes.mark ∷ n ∷ length (used p.shorts) ∷ length (used p.words) ∷ length (used p.longs) ∷ length (used p.offsets) ∷ length (used p.views) ∷ length (used p.lists) ∷ length (used p.buffers) ∷ 0 ∷ []) (count_used p.bytes r.bytes)
    ∙ ap (λ (n : ℕ). p.columns.mark ∷ p.nodes.mark ∷ p.bytes.mark ∷ n ∷ length (used p.words) ∷ length (used p.longs) ∷ length (used p.offsets) ∷ length (used p.views) ∷ length (used p.lists) ∷ length (used p.buffers) ∷ 0 ∷ []) (count_used p.shorts r.shorts)
    ∙ ap (λ (n : ℕ). p.columns.mark ∷ p.nodes.mark ∷ p.bytes.mark ∷ p.shorts.mark ∷ n ∷ length (used p.longs) ∷ length (used p.offsets) ∷ length (used p.views) ∷ length (used p.lists) ∷ length (used p.buffers) ∷ 0 ∷ []) (count_used p.words r.words)
    ∙ ap (λ (n : ℕ). p.columns.mark ∷ p.nodes.mark ∷ p.bytes.mark ∷ p.shorts.mark ∷ p.words.mark ∷ n ∷ length (used p.offsets) ∷ length (used p.views) ∷ length (used p.lists) ∷ length (used p.buffers) ∷ 0 ∷ []) (count_used p.longs r.longs)
    ∙ ap (λ (n : ℕ). p.columns.mark ∷ p.nodes.mark ∷ p.bytes.mark ∷ p.shorts.mark ∷ p.words.mark ∷ p.longs.mark ∷ n ∷ length (used p.views) ∷ length (used p.lists) ∷ length (used p.buffers) ∷ 0 ∷ []) (count_used p.offsets r.offsets)
    ∙ ap (λ (n : ℕ). p.columns.mark ∷ p.nodes.mark ∷ p.bytes.mark ∷ p.shorts.mark ∷ p.words.mark ∷ p.longs.mark ∷ p.offsets.mark ∷ n ∷ length (used p.lists) ∷ length (used p.buffers) ∷ 0 ∷ []) (count_used p.views r.views)
    ∙ ap (λ (n : ℕ). p.columns.mark ∷ p.nodes.mark ∷ p.bytes.mark ∷ p.shorts.mark ∷ p.words.mark ∷ p.longs.mark ∷ p.offsets.mark ∷ p.views.mark ∷ n ∷ length (used p.buffers) ∷ 0 ∷ []) (count_used p.lists r.lists)
    ∙ ap (λ (n : ℕ). p.columns.mark ∷ p.nodes.mark ∷ p.bytes.mark ∷ p.shorts.mark ∷ p.words.mark ∷ p.longs.mark ∷ p.offsets.mark ∷ p.views.mark ∷ p.lists.mark ∷ n ∷ 0 ∷ []) (count_used p.buffers r.buffers)

-- The pool that is too short for the shelf that the pools show.
pub full_shown : (p : Pools) (s : Shelf) → Ready p → Shows (store p) s → (lengths needs : Entries) → full_pool lengths s.marks needs ≡ full_pool lengths (entries (marks_of p) ++ 0 ∷ []) needs
full_shown p s r h lengths needs = ap (λ (m : Entries). full_pool lengths m needs) (h.marks ∙ counts_are_marks p r)
