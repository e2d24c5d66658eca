-- Data buffers, one by one.
use Rattle.std.proofs.Common.{◌≡◌, ℕ, zero, suc, ◌+◌, ◌-◌, ◌<◌, ◌≤◌, Bool, true, false, cond, List, [], ◌∷◌, ◌++◌, length, drop, sym, refl, ap, ◌∙◌, append_assoc, append-nil, add-zero, zero-add, arith, length-append}
use Rattle.columns.specs.Sent.{Data, brought, named, buffer_length, is_named}
use Rattle.pools.specs.declared.records.Part.{Part}
use Rattle.parcels.specs.Lent.{data_size, place_of, readable, number_at, bytes_at, data_from, brought_from}
use Rattle.parcels.proofs.Lents.{readable_at}
use Rattle.filing.specs.Lent.{flat, parts_from}
use Rattle.filing.proofs.Slices.{slice_fits}

pub flat_append : (xs ys : List (List ℕ)) → flat (xs ++ ys) ≡ flat xs ++ flat ys
flat_append [] ys = refl
flat_append (x ∷ xs) ys = ap (λ (l : List ℕ). x ++ l) (flat_append xs ys) ∙ sym (append_assoc x (flat xs) (flat ys))

pub parts_append : (m : ℕ) (xs ys : List (List ℕ)) → parts_from m (xs ++ ys) ≡ parts_from m xs ++ parts_from (m + length (flat xs)) ys
parts_append m [] ys = ap (λ (k : ℕ). parts_from k ys) (sym (add-zero m))
parts_append m (x ∷ xs) ys =
    ap (λ (l : List Part). record { start = m; len = length x } ∷ l)
    (parts_append (m + length x) xs ys
    ∙ ap (λ (k : ℕ). parts_from (m + length x) xs ++ parts_from k ys)
    (let e : m + length x + length (flat xs) ≡ m + length (x ++ flat xs) = omega (arith, length-append x (flat xs)) in e))

pub parts_length : (m : ℕ) (xs : List (List ℕ)) → length (parts_from m xs) ≡ length xs
parts_length m [] = refl
parts_length m (x ∷ xs) = ap suc (parts_length (m + length x) xs)

module _ (parcel : List ℕ) where
  abbrev D : ℕ → ℕ → ℕ → List Data
  D = data_from parcel

  abbrev B : ℕ → ℕ → List (List ℕ)
  B = brought_from parcel

  -- one data buffer, named or brought
  pub size_named : (at : ℕ) → is_named (drop at parcel) ≡ true → data_size parcel at ≡ 4
  size_named at e = ap (λ (b : Bool). cond b 4 (4 + buffer_length (drop at parcel))) e

  pub size_brought : (at : ℕ) → is_named (drop at parcel) ≡ false → data_size parcel at ≡ 4 + buffer_length (drop at parcel)
  size_brought at e = ap (λ (b : Bool). cond b 4 (4 + buffer_length (drop at parcel))) e

  size_by : (b : Bool) (n : ℕ) → 4 ≤ cond b 4 (4 + n)
  size_by true n = omega arith
  size_by false n = omega arith

  pub size_least : (at : ℕ) → 4 ≤ data_size parcel at
  size_least at = size_by (is_named (drop at parcel)) (buffer_length (drop at parcel))

  pub one_fits : (at : ℕ) → readable parcel at 1 ≡ true → at + data_size parcel at ≤ length parcel
  unfolding place_of
  one_fits at r = readable_at parcel at 1 0 r (omega arith)

  pub named_data : (at next : ℕ) → is_named (drop at parcel) ≡ true → D at next 1 ≡ named (number_at parcel at) ∷ []
  unfolding data_from
  named_data at next e = ap (λ (b : Bool). cond b (named (number_at parcel at) ∷ []) (brought next ∷ [])) e

  pub named_none : (at : ℕ) → is_named (drop at parcel) ≡ true → B at 1 ≡ []
  unfolding brought_from
  named_none at e = ap (λ (b : Bool). cond b [] (bytes_at parcel at ∷ [])) e

  pub brought_data : (at next : ℕ) → is_named (drop at parcel) ≡ false → D at next 1 ≡ brought next ∷ []
  unfolding data_from
  brought_data at next e = ap (λ (b : Bool). cond b (named (number_at parcel at) ∷ []) (brought next ∷ [])) e

  pub brought_one : (at : ℕ) → is_named (drop at parcel) ≡ false → B at 1 ≡ bytes_at parcel at ∷ []
  unfolding brought_from
  brought_one at e = ap (λ (b : Bool). cond b [] (bytes_at parcel at ∷ [])) e

  count_by : (t : Bool) (x y : Data) (us vs : List Data) (n : ℕ) → length us ≡ n → length vs ≡ n → length (cond t (x ∷ us) (y ∷ vs)) ≡ suc n
  count_by true x y us vs n a b = ap suc a
  count_by false x y us vs n a b = ap suc b

  pub data_count : (at next n : ℕ) → length (D at next n) ≡ n
  unfolding data_from
  data_count at next zero = refl
  data_count at next (suc n) =
      count_by (is_named (drop at parcel)) (named (number_at parcel at)) (brought next) (D (at + data_size parcel at) next n) (D (at + data_size parcel at) (next + 1) n) n
      (data_count (at + data_size parcel at) next n) (data_count (at + data_size parcel at) (next + 1) n)

  pub flat_one : (at n : ℕ) → n ≡ buffer_length (drop at parcel) → at + 4 + n ≤ length parcel → is_named (drop at parcel) ≡ false → length (flat (B at 1)) ≡ n
  flat_one at n e h new =
      ap (λ (l : List (List ℕ)). length (flat l)) (brought_one at new) ∙ ap length (append-nil (bytes_at parcel at))
      ∙ slice_fits parcel (at + 4) (buffer_length (drop at parcel)) (omega arith) ∙ sym e

  -- some, and then some more
  brought_by : (t : Bool) (at place a b : ℕ) (new : List ℕ) → B at (a + b) ≡ B at a ++ B place b
      → cond t (B at (a + b)) (new ∷ B at (a + b)) ≡ cond t (B at a) (new ∷ B at a) ++ B place b
  brought_by true at place a b new e = e
  brought_by false at place a b new e = ap (λ (l : List (List ℕ)). new ∷ l) e

  pub brought_append : (at a b : ℕ) → B at (a + b) ≡ B at a ++ B (place_of parcel at a) b
  unfolding brought_from place_of
  brought_append at zero b = ap (B at) (zero-add b)
  brought_append at (suc a) b =
      ap (B at) (let e : suc a + b ≡ suc (a + b) = omega arith in e)
      ∙ brought_by (is_named (drop at parcel)) (at + data_size parcel at) (place_of parcel (at + data_size parcel at) a) a b (bytes_at parcel at) (brought_append (at + data_size parcel at) a b)

  data_by : (t : Bool) (at next place a b : ℕ) (x : Data) (new : List ℕ) → ((m : ℕ) → D at m (a + b) ≡ D at m a ++ D place (m + length (B at a)) b)
      → cond t (x ∷ D at next (a + b)) (brought next ∷ D at (next + 1) (a + b))
      ≡ cond t (x ∷ D at next a) (brought next ∷ D at (next + 1) a) ++ D place (next + length (cond t (B at a) (new ∷ B at a))) b
  data_by true at next place a b x new e = ap (λ (l : List Data). x ∷ l) (e next)
  data_by false at next place a b x new e =
      ap (λ (l : List Data). brought next ∷ l)
      (e (next + 1) ∙ ap (λ (k : ℕ). D at (next + 1) a ++ D place k b) (let s : next + 1 + length (B at a) ≡ next + suc (length (B at a)) = omega arith in s))

  pub data_append : (at next a b : ℕ) → D at next (a + b) ≡ D at next a ++ D (place_of parcel at a) (next + length (B at a)) b
  unfolding data_from brought_from place_of
  data_append at next zero b = ap (D at next) (zero-add b) ∙ ap (λ (k : ℕ). D at k b) (sym (add-zero next))
  data_append at next (suc a) b =
      ap (D at next) (let e : suc a + b ≡ suc (a + b) = omega arith in e)
      ∙ data_by (is_named (drop at parcel)) (at + data_size parcel at) next (place_of parcel (at + data_size parcel at) a) a b (named (number_at parcel at)) (bytes_at parcel at)
      (λ m. data_append (at + data_size parcel at) m a b)

  -- what one more takes of what all take
  pub brought_within : (at n k : ℕ) → k < n → length (B at k) + length (B (place_of parcel at k) 1) ≤ length (B at n)
  brought_within at n k h =
      let e : B at n ≡ B at (k + 1) ++ B (place_of parcel at (k + 1)) (n - (k + 1)) =
      ap (B at) (let s : n ≡ k + 1 + (n - (k + 1)) = omega arith in s) ∙ brought_append at (k + 1) (n - (k + 1)) in
      let f = brought_append at k 1 in
      omega (arith, ap length e, length-append (B at (k + 1)) (B (place_of parcel at (k + 1)) (n - (k + 1))), ap length f, length-append (B at k) (B (place_of parcel at k) 1))

  pub flat_within : (at n k : ℕ) → k < n → length (flat (B at k)) + length (flat (B (place_of parcel at k) 1)) ≤ length (flat (B at n))
  flat_within at n k h =
      let e : B at n ≡ B at (k + 1) ++ B (place_of parcel at (k + 1)) (n - (k + 1)) =
      ap (B at) (let s : n ≡ k + 1 + (n - (k + 1)) = omega arith in s) ∙ brought_append at (k + 1) (n - (k + 1)) in
      let f = brought_append at k 1 in
      omega (
        arith,
        ap (λ (l : List (List ℕ)). length (flat l)) e,
        ap length (flat_append (B at (k + 1)) (B (place_of parcel at (k + 1)) (n - (k + 1)))),
        length-append (flat (B at (k + 1))) (flat (B (place_of parcel at (k + 1)) (n - (k + 1)))),
        ap (λ (l : List (List ℕ)). length (flat l)) f,
        ap length (flat_append (B at k) (B (place_of parcel at k) 1)),
        length-append (flat (B at k)) (flat (B (place_of parcel at k) 1)),
      )
