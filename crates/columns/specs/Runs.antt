-- Runs: neighbouring rows with one source and one entry are one run.
use Rattle.std.specs.Prelude.{ℕ, suc, Bool, cond, ◌&&◌, List, [], ◌∷◌, map, ◌==◌}
use Rattle.columns.specs.Column.{Column, at, children}
use Rattle.columns.specs.Says.{entry, ends_of}
use Rattle.columns.specs.Gathering.{Pair}

abbrev pub same_pair : Pair → Pair → Bool
same_pair p q = p.0 == q.0 && p.1 == q.1

-- where the runs end, rows being counted from k
abbrev pub run_ends_from : ℕ → List Pair → List ℕ
run_ends_from k [] = []
run_ends_from k (x ∷ []) = suc k ∷ []
run_ends_from k (x ∷ y ∷ ys) = cond (same_pair x y) (run_ends_from (suc k) (y ∷ ys)) (suc k ∷ run_ends_from (suc k) (y ∷ ys))

-- one entry for each run
abbrev pub kept : List Pair → List Pair
kept [] = []
kept (x ∷ []) = x ∷ []
kept (x ∷ y ∷ ys) = cond (same_pair x y) (kept (y ∷ ys)) (x ∷ kept (y ∷ ys))

-- A row's entry: its source's position, and the first entry there whose run end is above the row.
abbrev pub entries : List Column → List Pair → List Pair
entries sources ps = map (λ p. (p.0, entry (ends_of (children (at sources p.0))) p.1)) ps
