-- Nodes that stand in a row are the column that they spell.
use Rattle.std.proofs.Common.{◌≡◌, ℕ, suc, ◌+◌, List, [], ◌∷◌, ◌++◌, map, length, get_or, drop, sym, refl, ap, ◌∙◌, subst, ap₂, append_assoc, append-nil, add-zero, add_assoc, arith, length-append}
use Rattle.std.proofs.lemmas.List.{map-append, drop_at}
use Rattle.columns.specs.Column.{Node, Column, Columns, column, end, ◌&◌, width}
use Rattle.columns.specs.Limits.{node_count, nodes_below}
use Rattle.pools.specs.Store.{Store}
use Rattle.pools.specs.Stored.{Stored, EachStored}
use Rattle.parcels.specs.Drafts.{preorder, preorders}
use Rattle.filing.specs.Row.{Row, sizes_of, sizes_each, spanned, spans_of}

abbrev pub count_of : Node × ℕ → ℕ
count_of x = x.1

mutual
  unfolding preorder preorders sizes_of sizes_each node_count nodes_below

  pub preorder_length : (c : Column) → length (preorder c) ≡ node_count c
  preorder_length (column n cs) = ap suc (preorders_length cs)

  pub preorders_length : (cs : Columns) → length (preorders cs) ≡ nodes_below cs
  preorders_length end = refl
  preorders_length (c & cs) = length-append (preorder c) (preorders cs) ∙ ap₂ (λ (a b : ℕ). a + b) (preorder_length c) (preorders_length cs)

mutual
  unfolding sizes_of sizes_each node_count nodes_below

  pub sizes_length : (c : Column) → length (sizes_of c) ≡ node_count c
  sizes_length (column n cs) = ap suc (sizes_each_length cs)

  pub sizes_each_length : (cs : Columns) → length (sizes_each cs) ≡ nodes_below cs
  sizes_each_length end = refl
  sizes_each_length (c & cs) = length-append (sizes_of c) (sizes_each cs) ∙ ap₂ (λ (a b : ℕ). a + b) (sizes_length c) (sizes_each_length cs)

-- the first of the sizes is the column's own
first_size : (c : Column) (rest : List ℕ) → get_or (sizes_of c ++ rest) 0 0 ≡ node_count c
unfolding sizes_of sizes_each
first_size (column n cs) rest = refl

spanned_each : (cs : Columns) (rest : List ℕ) → spanned (width cs) (sizes_each cs ++ rest) ≡ nodes_below cs
unfolding spanned sizes_each nodes_below
spanned_each end rest = refl
spanned_each (c & cs) rest =
    let all : sizes_each (c & cs) ++ rest ≡ sizes_of c ++ (sizes_each cs ++ rest) = append_assoc (sizes_of c) (sizes_each cs) rest in
    let one : get_or (sizes_each (c & cs) ++ rest) 0 0 ≡ node_count c = ap (λ (l : List ℕ). get_or l 0 0) all ∙ first_size c (sizes_each cs ++ rest) in
    let past : drop (node_count c) (sizes_each (c & cs) ++ rest) ≡ sizes_each cs ++ rest =
    ap (drop (node_count c)) all ∙ drop_at (sizes_of c) (sizes_each cs ++ rest) (node_count c) (sizes_length c) in
    ap (λ (k : ℕ). k + spanned (width cs) (drop k (sizes_each (c & cs) ++ rest))) one
    ∙ ap (λ (l : List ℕ). node_count c + spanned (width cs) l) past ∙ ap (λ (k : ℕ). node_count c + k) (spanned_each cs rest)

-- the sizes are found from the child counts
mutual
  unfolding preorder preorders sizes_of sizes_each spans_of node_count

  pub spans_column : (c : Column) (rest : List ℕ) → spans_of (map count_of (preorder c) ++ rest) ≡ sizes_of c ++ spans_of rest
  spans_column (column n cs) rest =
      let below = spans_each cs rest in
      ap₂ (λ (k : ℕ) (l : List ℕ). k ∷ l)
      (ap (λ (l : List ℕ). 1 + spanned (width cs) l) below ∙ ap (λ (k : ℕ). 1 + k) (spanned_each cs (spans_of rest)) ∙ (let e : 1 + nodes_below cs ≡ suc (nodes_below cs) = omega arith in e))
      below

  pub spans_each : (cs : Columns) (rest : List ℕ) → spans_of (map count_of (preorders cs) ++ rest) ≡ sizes_each cs ++ spans_of rest
  spans_each end rest = refl
  spans_each (c & cs) rest =
      ap (λ (l : List ℕ). spans_of (l ++ rest)) (map-append count_of (preorder c) (preorders cs))
      ∙ ap spans_of (append_assoc (map count_of (preorder c)) (map count_of (preorders cs)) rest)
      ∙ spans_column c (map count_of (preorders cs) ++ rest)
      ∙ ap (λ (l : List ℕ). sizes_of c ++ l) (spans_each cs rest)
      ∙ sym (append_assoc (sizes_of c) (sizes_each cs) (spans_of rest))

pub spans_are : (c : Column) → spans_of (map count_of (preorder c)) ≡ sizes_of c
unfolding spans_of
spans_are c = ap spans_of (sym (append-nil (map count_of (preorder c)))) ∙ spans_column c [] ∙ append-nil (sizes_of c)

-- A row of a column's nodes is the column, stored, and what follows it is a row of its own.
mutual
  unfolding Row preorder preorders sizes_of sizes_each Stored EachStored node_count nodes_below

  pub row_stored : (P : Store) (i : ℕ) (c : Column) (ns : List (Node × ℕ)) (ss : List ℕ) → Row P i (preorder c ++ ns) (sizes_of c ++ ss) → Stored P i c × Row P (i + node_count c) ns ss
  row_stored P i (column n cs) ns ss r =
      let below = row_each P (i + 1) cs ns ss r.2 in
      ((r.0, r.1, below.0), subst (λ (k : ℕ). Row P k ns ss) (let e : i + 1 + nodes_below cs ≡ i + suc (nodes_below cs) = omega arith in e) below.1)

  pub row_each : (P : Store) (i : ℕ) (cs : Columns) (ns : List (Node × ℕ)) (ss : List ℕ) → Row P i (preorders cs ++ ns) (sizes_each cs ++ ss) → EachStored P i cs × Row P (i + nodes_below cs) ns ss
  row_each P i end ns ss r = (tt, subst (λ (k : ℕ). Row P k ns ss) (sym (add-zero i)) r)
  row_each P i (c & cs) ns ss r =
      let here =
      row_stored P i c (preorders cs ++ ns) (sizes_each cs ++ ss)
      (subst (λ (l : List ℕ). Row P i (preorder c ++ (preorders cs ++ ns)) l) (append_assoc (sizes_of c) (sizes_each cs) ss)
      (subst (λ (l : List (Node × ℕ)). Row P i l (sizes_each (c & cs) ++ ss)) (append_assoc (preorder c) (preorders cs) ns) r)) in
      let rest = row_each P (i + node_count c) cs ns ss here.1 in
      ((here.0, rest.0), subst (λ (k : ℕ). Row P k ns ss) (add_assoc i (node_count c) (nodes_below cs)) rest.1)

pub row_column : (P : Store) (i : ℕ) (c : Column) → Row P i (preorder c) (sizes_of c) → Stored P i c
row_column P i c r =
    (row_stored P i c [] []
    (subst (λ (l : List ℕ). Row P i (preorder c ++ []) l) (sym (append-nil (sizes_of c)))
    (subst (λ (l : List (Node × ℕ)). Row P i l (sizes_of c)) (sym (append-nil (preorder c))) r))).0
