-- The marks never pass the pools, and between calls the slip's mark is back at 0.
use Rattle.std.proofs.Common.{◌≡◌, ℕ, zero, suc, ◌+◌, ◌-◌, ◌<◌, ◌≤◌, true, leb, List, [], ◌∷◌, ◌++◌, length, get_or, refl, ap, ◌∙◌, subst, arith}
use mathlib.Core.Option.{none}
use Rattle.std.proofs.lemmas.Bool.{and_parts, leb-true}
use Rattle.columns.specs.Column.{Column, Columns, column, end, ◌&◌, kind}
use Rattle.columns.specs.Says.{span}
use Rattle.columns.specs.Pools.{Entries, of_pool, pools, plus, fits, full_pool, node_needs, making_needs, slip_needs, making_checks, children_checks, column_needs, columns_need, one_column, made_needs, filed_needs}
use Rattle.columns.specs.Run.{WithinPools}
use Rattle.columns.proofs.Follow.{span_at}
use Rattle.columns.proofs.Checked.{Passed, passed_left, passed_right, none_fails}

span_get : (a n j : ℕ) → j < n → get_or (span a n) j 0 ≡ a + j
span_get a zero j h = absurd (omega arith)
span_get a (suc n) zero h = omega arith
span_get a (suc n) (suc j) h = span_get (suc a) n j (omega arith) ∙ omega arith

of_plus : (xs ys : Entries) (i : ℕ) → i < 11 → of_pool (plus xs ys) (1 + i) ≡ of_pool xs (1 + i) + of_pool ys (1 + i)
of_plus xs ys i l =
    let e : 1 + i - 1 ≡ i = omega arith in
    ap (λ n. get_or (plus xs ys) n 0) e ∙ span_at (λ pool. of_pool xs pool + of_pool ys pool) 1 11 i 0 l

longer : (xs ys : List ℕ) (i : ℕ) → get_or xs i 0 ≤ get_or (xs ++ ys) i 0
longer [] ys i = omega arith
longer (x ∷ xs) ys zero = omega arith
longer (x ∷ xs) ys (suc i) = longer xs ys i

module _ (lengths : Entries) where
  pub room_for : (marks needs : Entries) → full_pool lengths marks needs ≡ none → WithinPools lengths (plus marks needs)
  room_for marks needs e i l =
      let pool : ℕ = 1 + i in
      let sum : ℕ = of_pool marks pool + of_pool needs pool in
      let t : fits lengths marks needs pool ≡ true = subst (λ p. fits lengths marks needs p ≡ true) (span_get 1 11 i l) (none_fails (fits lengths marks needs) pools 0 e i l) in
      let p = and_parts (leb sum (of_pool lengths pool)) (leb sum 1048576) t in
      let a : sum ≤ of_pool lengths pool = leb-true sum (of_pool lengths pool) p.0 in
      let b : sum ≤ 1048576 = leb-true sum 1048576 p.1 in
      let m = of_plus marks needs i l in
      (omega arith, omega arith)

  mutual
    unfolding making_checks column_needs

    pub making_fits : (marks : Entries) (c : Column) → Passed (making_checks lengths marks c) → WithinPools lengths (plus marks (column_needs c))
    making_fits marks (column n cs) pass i l =
        let kids = children_fit (plus marks (making_needs n cs)) cs (room_for marks (making_needs n cs) pass.1.1.0) pass.1.1.1 i l in
        let own : of_pool (node_needs n) (1 + i) ≤ of_pool (making_needs n cs) (1 + i) = longer (node_needs n) (slip_needs (kind n) cs ∷ []) (1 + i - 1) in
        let a = of_plus (plus marks (making_needs n cs)) (columns_need cs) i l in
        let b = of_plus marks (making_needs n cs) i l in
        let c = of_plus marks (plus (node_needs n) (columns_need cs)) i l in
        let d = of_plus (node_needs n) (columns_need cs) i l in
        (omega arith, omega arith)

    children_fit : (marks : Entries) (cs : Columns) → WithinPools lengths marks → Passed (children_checks lengths marks cs) → WithinPools lengths (plus marks (columns_need cs))
    children_fit marks end w pass i l =
        let h = w i l in
        let a : of_pool (plus marks []) (1 + i) ≡ of_pool marks (1 + i) + 0 = of_plus marks [] i l in
        (omega arith, omega arith)
    children_fit marks (c & cs) w pass i l =
        let one : WithinPools lengths (plus marks (column_needs c)) = making_fits marks c (passed_left (making_checks lengths marks c) _ pass) in
        let all = children_fit (plus marks (column_needs c)) cs one (passed_right (making_checks lengths marks c) _ pass) i l in
        let a = of_plus (plus marks (column_needs c)) (columns_need cs) i l in
        let b = of_plus marks (column_needs c) i l in
        let d = of_plus marks (plus (column_needs c) (columns_need cs)) i l in
        let e = of_plus (column_needs c) (columns_need cs) i l in
        (omega arith, omega arith)

  pub made_fits : (marks : Entries) (c : Column) → Passed (making_checks lengths (plus marks one_column) c) → WithinPools lengths (plus marks (made_needs c))
  made_fits marks c pass i l =
      let h = making_fits (plus marks one_column) c pass i l in
      let a = of_plus (plus marks one_column) (column_needs c) i l in
      let b = of_plus marks one_column i l in
      let d = of_plus marks (made_needs c) i l in
      let e = of_plus one_column (column_needs c) i l in
      (omega arith, omega arith)

-- no column needs the slip for longer than it is made
mutual
  unfolding column_needs

  slip_free : (c : Column) → of_pool (column_needs c) 11 ≡ 0
  slip_free (column n cs) = let k = slips_free cs in let a : of_pool (plus (node_needs n) (columns_need cs)) 11 ≡ 0 + of_pool (columns_need cs) 11 = refl in omega arith

  slips_free : (cs : Columns) → of_pool (columns_need cs) 11 ≡ 0
  slips_free end = refl
  slips_free (c & cs) =
      let h = slip_free c in
      let k = slips_free cs in
      let a : of_pool (plus (column_needs c) (columns_need cs)) 11 ≡ of_pool (column_needs c) 11 + of_pool (columns_need cs) 11 = refl in
      omega arith

pub made_slip : (marks : Entries) (c : Column) → of_pool marks 11 ≡ 0 → of_pool (plus marks (made_needs c)) 11 ≡ 0
made_slip marks c z =
    let h = slip_free c in
    let a : of_pool (plus marks (made_needs c)) 11 ≡ of_pool marks 11 + (0 + of_pool (column_needs c) 11) = refl in
    omega arith

pub filed_slip : (marks : Entries) (c : Column) (new : List (List ℕ)) → of_pool marks 11 ≡ 0 → of_pool (plus marks (filed_needs c new)) 11 ≡ 0
filed_slip marks c new z =
    let h = slip_free c in
    let a : of_pool (plus marks (filed_needs c new)) 11 ≡ of_pool marks 11 + (0 + of_pool (column_needs c) 11 + 0) = refl in
    omega arith

-- pools 1 and 10 gain an entry for each column and each new data buffer, and none for a node
mutual
  unfolding column_needs

  no_columns : (c : Column) → (of_pool (column_needs c) 1 ≡ 0) × (of_pool (column_needs c) 10 ≡ 0)
  no_columns (column n cs) =
      let k = none_below cs in
      let a : of_pool (plus (node_needs n) (columns_need cs)) 1 ≡ 0 + of_pool (columns_need cs) 1 = refl in
      let b : of_pool (plus (node_needs n) (columns_need cs)) 10 ≡ 0 + of_pool (columns_need cs) 10 = refl in
      (omega arith, omega arith)

  none_below : (cs : Columns) → (of_pool (columns_need cs) 1 ≡ 0) × (of_pool (columns_need cs) 10 ≡ 0)
  none_below end = (refl, refl)
  none_below (c & cs) =
      let h = no_columns c in
      let k = none_below cs in
      let a : of_pool (plus (column_needs c) (columns_need cs)) 1 ≡ of_pool (column_needs c) 1 + of_pool (columns_need cs) 1 = refl in
      let b : of_pool (plus (column_needs c) (columns_need cs)) 10 ≡ of_pool (column_needs c) 10 + of_pool (columns_need cs) 10 = refl in
      (omega arith, omega arith)

pub made_counts : (marks : Entries) (c : Column) → (of_pool (plus marks (made_needs c)) 1 ≡ of_pool marks 1 + 1) × (of_pool (plus marks (made_needs c)) 10 ≡ of_pool marks 10)
made_counts marks c =
    let h = no_columns c in
    let a : of_pool (plus marks (made_needs c)) 1 ≡ of_pool marks 1 + (1 + of_pool (column_needs c) 1) = refl in
    let b : of_pool (plus marks (made_needs c)) 10 ≡ of_pool marks 10 + (0 + of_pool (column_needs c) 10) = refl in
    (omega arith, omega arith)

pub filed_counts : (marks : Entries) (c : Column) (new : List (List ℕ)) → (of_pool (plus marks (filed_needs c new)) 1 ≡ of_pool marks 1 + 1) × (of_pool (plus marks (filed_needs c new)) 10 ≡ of_pool marks 10 + length new)
filed_counts marks c new =
    let h = no_columns c in
    let a : of_pool (plus marks (filed_needs c new)) 1 ≡ of_pool marks 1 + (1 + of_pool (column_needs c) 1 + 0) = refl in
    let b : of_pool (plus marks (filed_needs c new)) 10 ≡ of_pool marks 10 + (0 + of_pool (column_needs c) 10 + length new) = refl in
    (omega arith, omega arith)
