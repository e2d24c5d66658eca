use Rattle.std.proofs.Common.{◌≡◌, ℕ, zero, suc, ◌+◌, ◌^◌, ◌<◌, ◌≤◌, Bool, true, false, cond, leb, List, [], ◌∷◌, ◌++◌, length, take, drop, sym, refl, ap, ◌∙◌, subst, inl, inr, arith}
use Rattle.std.proofs.lemmas.List.{append_assoc, append-nil, length_push, drop-take, drop-drop}
use Rattle.std.proofs.lemmas.Bool.{and_parts, and_from, leb-true, leb-false, le-leb, cases_Bool, cases_lt}
use Rattle.columns.specs.Says.{span}
use Rattle.columns.specs.Checks.{denial}
use Rattle.columns.specs.Reading.{Outcome, denied, reached, onward, give, each_of, ◌>>=◌}
use Rattle.columns.specs.Sent.{Data, brought, named, data_buffer, is_named, buffer_length}
use Rattle.columns.specs.Reading as rules
use Rattle.parcels.specs.Reads.{placed}
use Rattle.parcels.specs.Lent.{data_size, place_of, readable, number_at, bytes_at, data_from, brought_from}
use Rattle.parcels.proofs.Reading.{data_short, data_cut, data_named, data_brought}

module _ (parcel : List ℕ) where
  abbrev pub P : (at m : ℕ) → List (List ℕ) → rules.Place
  P at m bs = placed parcel (record { at = at; nodes = m; brought = 0 }) bs

  abbrev L : ℕ → ℕ
  L at = buffer_length (drop at parcel)

  size_named : (at : ℕ) → is_named (drop at parcel) ≡ true → data_size parcel at ≡ 4
  size_named at e = ap (λ (b : Bool). cond b 4 (4 + L at)) e

  size_brought : (at : ℕ) → is_named (drop at parcel) ≡ false → data_size parcel at ≡ 4 + L at
  size_brought at e = ap (λ (b : Bool). cond b 4 (4 + L at)) e

  bytes_are : (at : ℕ) → drop 4 (take (4 + L at) (drop at parcel)) ≡ bytes_at parcel at
  bytes_are at = drop-take 4 (L at) (drop at parcel) ∙ ap (take (L at)) (drop-drop 4 at parcel)

  one_named : (at m : ℕ) (bs : List (List ℕ)) → at + data_size parcel at ≤ length parcel → is_named (drop at parcel) ≡ true
      → data_buffer (P at m bs) ≡ reached (named (number_at parcel at)) (P (at + data_size parcel at) m bs)
  one_named at m bs h e =
      data_named parcel (record { at = at; nodes = m; brought = 0 }) bs (leb-true (2 ^ 31) (L at) e) (subst (λ (n : ℕ). at + n ≤ length parcel) (size_named at e) h)
      ∙ ap (λ (n : ℕ). reached (named (number_at parcel at)) (P (at + n) m bs)) (sym (size_named at e))

  one_brought : (at m : ℕ) (bs : List (List ℕ)) → at + data_size parcel at ≤ length parcel → is_named (drop at parcel) ≡ false
      → data_buffer (P at m bs) ≡ reached (brought (length bs)) (P (at + data_size parcel at) m (bs ++ bytes_at parcel at ∷ []))
  one_brought at m bs h e =
      data_brought parcel (record { at = at; nodes = m; brought = 0 }) bs (leb-false (2 ^ 31) (L at) e) (subst (λ (n : ℕ). at + n ≤ length parcel) (size_brought at e) h)
      ∙ ap (λ (n : ℕ). reached (brought (length bs)) (P (at + n) m (bs ++ drop 4 (take (4 + L at) (drop at parcel)) ∷ []))) (sym (size_brought at e))
      ∙ ap (λ (l : List ℕ). reached (brought (length bs)) (P (at + data_size parcel at) m (bs ++ l ∷ []))) (bytes_are at)

  stop_by : (b : Bool) (at m : ℕ) (bs : List (List ℕ)) → at ≤ length parcel → length parcel < at + data_size parcel at → is_named (drop at parcel) ≡ b → data_buffer (P at m bs) ≡ denied (denial 1 at)
  stop_by true at m bs i h e = data_short parcel (record { at = at; nodes = m; brought = 0 }) bs i (subst (λ (n : ℕ). length parcel < at + n) (size_named at e) h)
  stop_by false at m bs i h e = data_cut parcel (record { at = at; nodes = m; brought = 0 }) bs (leb-false (2 ^ 31) (L at) e) i (subst (λ (n : ℕ). length parcel < at + n) (size_brought at e) h)

  next_le : (at n : ℕ) → readable parcel at (suc n) ≡ true → (at + data_size parcel at ≤ length parcel) × (readable parcel (at + data_size parcel at) n ≡ true)
  unfolding readable
  next_le at n r =
      let p = and_parts (leb (at + data_size parcel at) (length parcel)) (readable parcel (at + data_size parcel at) n) r in
      (leb-true (at + data_size parcel at) (length parcel) p.0, p.1)

  abbrev Flat : (n s at m : ℕ) → List (List ℕ) → Type 0
  Flat n s at m bs = each_of (λ (i : ℕ). data_buffer) (span s n) (P at m bs) ≡ reached (data_from parcel at (length bs) n) (P (place_of parcel at n) m (bs ++ brought_from parcel at n))

  flat_by : (b : Bool) (n s at m : ℕ) (bs : List (List ℕ)) → at + data_size parcel at ≤ length parcel → ((cs : List (List ℕ)) → Flat n (suc s) (at + data_size parcel at) m cs) → is_named (drop at parcel) ≡ b → Flat (suc n) s at m bs
  unfolding data_from brought_from place_of
  flat_by true n s at m bs h r e =
      let next : ℕ = at + data_size parcel at in
      ap (λ (o : Outcome Data). onward o (λ a. each_of (λ (i : ℕ). data_buffer) (span (suc s) n) >>= λ rest. give (a ∷ rest))) (one_named at m bs h e)
      ∙ ap (λ (o : Outcome (List Data)). onward o (λ rest. give (named (number_at parcel at) ∷ rest))) (r bs)
      ∙ ap (λ (b : Bool). reached (cond b (named (number_at parcel at) ∷ data_from parcel next (length bs) n) (brought (length bs) ∷ data_from parcel next (length bs + 1) n)) (P (place_of parcel next n) m (bs ++ cond b (brought_from parcel next n) (bytes_at parcel at ∷ brought_from parcel next n)))) (sym e)
  flat_by false n s at m bs h r e =
      let next : ℕ = at + data_size parcel at in
      let x : List (List ℕ) = bs ++ bytes_at parcel at ∷ [] in
      ap (λ (o : Outcome Data). onward o (λ a. each_of (λ (i : ℕ). data_buffer) (span (suc s) n) >>= λ rest. give (a ∷ rest))) (one_brought at m bs h e)
      ∙ ap (λ (o : Outcome (List Data)). onward o (λ rest. give (brought (length bs) ∷ rest))) (r x)
      ∙ ap (λ (k : ℕ). reached (brought (length bs) ∷ data_from parcel next k n) (P (place_of parcel next n) m (x ++ brought_from parcel next n))) (length_push bs (bytes_at parcel at))
      ∙ ap (λ (l : List (List ℕ)). reached (brought (length bs) ∷ data_from parcel next (length bs + 1) n) (P (place_of parcel next n) m l)) (append_assoc bs (bytes_at parcel at ∷ []) (brought_from parcel next n))
      ∙ ap (λ (b : Bool). reached (cond b (named (number_at parcel at) ∷ data_from parcel next (length bs) n) (brought (length bs) ∷ data_from parcel next (length bs + 1) n)) (P (place_of parcel next n) m (bs ++ cond b (brought_from parcel next n) (bytes_at parcel at ∷ brought_from parcel next n)))) (sym e)

  -- what the reading of readable data buffers gives
  pub reads_flat : (n s at m : ℕ) (bs : List (List ℕ)) → readable parcel at n ≡ true
      → each_of (λ (i : ℕ). data_buffer) (span s n) (P at m bs) ≡ reached (data_from parcel at (length bs) n) (P (place_of parcel at n) m (bs ++ brought_from parcel at n))
  unfolding data_from brought_from place_of
  reads_flat zero s at m bs r = ap (λ (l : List (List ℕ)). reached [] (P at m l)) (sym (append-nil bs))
  reads_flat (suc n) s at m bs r =
      let h = next_le at n r in
      let next : (cs : List (List ℕ)) → Flat n (suc s) (at + data_size parcel at) m cs = λ cs. reads_flat n (suc s) (at + data_size parcel at) m cs h.1 in
      elim (cases_Bool (is_named (drop at parcel))) [ inl e ↦ flat_by true n s at m bs h.0 next e | inr e ↦ flat_by false n s at m bs h.0 next e ]

  abbrev Goes : Outcome (List Data) → Type 0
  Goes (denied d) = ⊥
  Goes (reached x p) = Unit {0}

  goes : (o : Outcome (List Data)) (ds : List Data) (q : rules.Place) → o ≡ reached ds q → Goes o
  goes o ds q e = subst Goes (sym e) tt

  goes_part : (o : Outcome (List Data)) (f : List Data → List Data) → Goes (onward o (λ rest. give (f rest))) → Goes o
  goes_part (denied d) f g = g
  goes_part (reached x p) f g = tt

  module _ (n s at m : ℕ) (bs : List (List ℕ)) (g : Goes (each_of (λ (i : ℕ). data_buffer) (span s (suc n)) (P at m bs))) where
    goes_fits : at ≤ length parcel → at + data_size parcel at ≤ length parcel
    goes_fits i =
        elim (cases_lt (length parcel) (at + data_size parcel at)) [
          | inr h ↦ h
          | inl h ↦
              let e : data_buffer (P at m bs) ≡ denied (denial 1 at) = elim (cases_Bool (is_named (drop at parcel))) [ inl e ↦ stop_by true at m bs i h e | inr e ↦ stop_by false at m bs i h e ] in
              absurd (subst Goes (ap (λ (o : Outcome Data). onward o (λ a. each_of (λ (i : ℕ). data_buffer) (span (suc s) n) >>= λ rest. give (a ∷ rest))) e) g)
        ]

    goes_next : at + data_size parcel at ≤ length parcel → (cs : List (List ℕ)) × Goes (each_of (λ (i : ℕ). data_buffer) (span (suc s) n) (P (at + data_size parcel at) m cs))
    goes_next h =
        elim (cases_Bool (is_named (drop at parcel))) [
          | inl e ↦ (
            bs,
            goes_part (each_of (λ (i : ℕ). data_buffer) (span (suc s) n) (P (at + data_size parcel at) m bs)) (λ rest. named (number_at parcel at) ∷ rest)
                (subst Goes (ap (λ (o : Outcome Data). onward o (λ a. each_of (λ (i : ℕ). data_buffer) (span (suc s) n) >>= λ rest. give (a ∷ rest))) (one_named at m bs h e)) g),
          )
          | inr e ↦ (
            bs ++ bytes_at parcel at ∷ [],
            goes_part (each_of (λ (i : ℕ). data_buffer) (span (suc s) n) (P (at + data_size parcel at) m (bs ++ bytes_at parcel at ∷ []))) (λ rest. brought (length bs) ∷ rest)
                (subst Goes (ap (λ (o : Outcome Data). onward o (λ a. each_of (λ (i : ℕ). data_buffer) (span (suc s) n) >>= λ rest. give (a ∷ rest))) (one_brought at m bs h e)) g),
          )
        ]

  goes_readable : (n s at m : ℕ) (bs : List (List ℕ)) → at ≤ length parcel → Goes (each_of (λ (i : ℕ). data_buffer) (span s n) (P at m bs)) → readable parcel at n ≡ true
  unfolding readable
  goes_readable zero s at m bs i g = refl
  goes_readable (suc n) s at m bs i g =
      let h = goes_fits n s at m bs g i in
      let x = goes_next n s at m bs g h in
      and_from (leb (at + data_size parcel at) (length parcel)) (readable parcel (at + data_size parcel at) n) (le-leb (at + data_size parcel at) (length parcel) h)
      (goes_readable n (suc s) (at + data_size parcel at) m x.0 h x.1)

  -- data buffers that were read are readable
  pub read_readable : (n at m : ℕ) (bs : List (List ℕ)) (ds : List Data) (q : rules.Place) → at ≤ length parcel → each_of (λ (i : ℕ). data_buffer) (span 0 n) (P at m bs) ≡ reached ds q → readable parcel at n ≡ true
  read_readable n at m bs ds q i e = goes_readable n 0 at m bs i (goes (each_of (λ (i : ℕ). data_buffer) (span 0 n) (P at m bs)) ds q e)

-- places from places
pub place_more : (parcel : List ℕ) (at k : ℕ) → place_of parcel at (k + 1) ≡ place_of parcel at k + data_size parcel (place_of parcel at k)
unfolding place_of
place_more parcel at zero = refl
place_more parcel at (suc k) = ap (λ (n : ℕ). place_of parcel at n) (let e : suc k + 1 ≡ suc (k + 1) = omega arith in e) ∙ place_more parcel (at + data_size parcel at) k

pub place_place : (parcel : List ℕ) (at a b : ℕ) → place_of parcel (place_of parcel at a) b ≡ place_of parcel at (a + b)
unfolding place_of
place_place parcel at zero b = ap (λ (n : ℕ). place_of parcel at n) (let e : b ≡ 0 + b = omega arith in e)
place_place parcel at (suc a) b = place_place parcel (at + data_size parcel at) a b ∙ ap (λ (n : ℕ). place_of parcel at n) (let e : suc (a + b) ≡ suc a + b = omega arith in e)

-- the data buffer k of n that are readable lies in the parcel
pub readable_at : (parcel : List ℕ) (at n k : ℕ) → readable parcel at n ≡ true → k < n → place_of parcel at k + data_size parcel (place_of parcel at k) ≤ length parcel
unfolding place_of
readable_at parcel at zero k r h = absurd (omega arith)
readable_at parcel at (suc n) zero r h = (next_le parcel at n r).0
readable_at parcel at (suc n) (suc k) r h = readable_at parcel (at + data_size parcel at) n k (next_le parcel at n r).1 (omega arith)

readable_front : (parcel : List ℕ) (at n b : ℕ) → readable parcel at n ≡ true → b ≤ n → readable parcel at b ≡ true
unfolding readable
readable_front parcel at n zero r h = refl
readable_front parcel at zero (suc b) r h = absurd (omega arith)
readable_front parcel at (suc n) (suc b) r h =
    let p = next_le parcel at n r in
    and_from (leb (at + data_size parcel at) (length parcel)) (readable parcel (at + data_size parcel at) b) (le-leb (at + data_size parcel at) (length parcel) p.0) (readable_front parcel (at + data_size parcel at) n b p.1 (omega arith))

pub readable_part : (parcel : List ℕ) (at n a b : ℕ) → readable parcel at n ≡ true → a + b ≤ n → readable parcel (place_of parcel at a) b ≡ true
unfolding place_of
readable_part parcel at n zero b r h = readable_front parcel at n b r (omega arith)
readable_part parcel at zero (suc a) b r h = absurd (omega arith)
readable_part parcel at (suc n) (suc a) b r h = readable_part parcel (at + data_size parcel at) n a b (next_le parcel at n r).1 (omega arith)
