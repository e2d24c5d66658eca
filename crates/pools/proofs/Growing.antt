-- How pools grow, step by step.
use Rattle.std.proofs.Common.{◌≡◌, ℕ, ◌+◌, ◌<◌, ◌≤◌, List, [], ◌∷◌, ◌++◌, length, take, set, sym, refl, ap, ◌∙◌, append_assoc, append-nil, le_refl, add-zero, arith, length-append, length-set, length-take, rules}
use Rattle.std.proofs.lemmas.List.{take_more_set, take-take, take-append-le, length-take-le, places}
use Rattle.std.proofs.lemmas.Slice.{take-put_mid}
use borrow.Rule.Slice.PartMut.{put_mid}
use Rattle.pools.specs.Grown.{most_entries, Grown, Longer, Stays}

pub grown_none : {X : Type 0} (m : ℕ) (xs : List X) → Grown m xs [] m xs
grown_none m xs = record { mark = sym (add-zero m); len = refl; used = sym (append-nil (take m xs)) }

pub grown_one : {X : Type 0} (m : ℕ) (xs : List X) (x : X) (ys : List X) → m < length xs → ys ≡ set xs m x → Grown m xs (x ∷ []) (m + 1) ys
grown_one m xs x ys h e = record { mark = refl; len = ap length e ∙ simp length-set; used = ap (take (m + 1)) e ∙ take_more_set xs m x h }

pub grown_then : {X : Type 0} {m m1 m2 : ℕ} {xs xs1 xs2 : List X} {ps qs : List X}
    → Grown m xs ps m1 xs1 → Grown m1 xs1 qs m2 xs2 → Grown m xs (ps ++ qs) m2 xs2
grown_then {X} {m} {m1} {m2} {xs} {xs1} {xs2} {ps} {qs} p q = record {
  mark = (simp length-append (omega arith));
  len = q.len ∙ p.len;
  used = q.used ∙ ap (λ (l : List X). l ++ qs) p.used ∙ append_assoc (take m xs) ps qs;
}

pub grown_all : {X : Type 0} (m : ℕ) (xs new ys : List X) → m + length new ≤ length xs → ys ≡ put_mid m (length new) xs new → Grown m xs new (m + length new) ys
grown_all {X} m xs new ys h e =
    let kept : length (put_mid m (length new) xs new) ≡ length xs = search (rules, places) in
    record {
      mark = refl;
      len = ap length e ∙ kept;
      used = ap (take (m + length new)) e ∙ take-put_mid m (length new) xs new (m + length new) refl (omega arith);
    }

pub longer_none : {X : Type 0} {m : ℕ} {xs : List X} → m ≤ length xs → m ≤ most_entries → Longer m xs m xs
longer_none h k = record { marks = le_refl _; fits = h; capped = k; len = refl; below = refl }

-- what stands below a mark stands below a lower one
pub take_below : {X : Type 0} (m n : ℕ) (xs ys : List X) → m ≤ n → take n xs ≡ take n ys → take m xs ≡ take m ys
take_below m n xs ys h e = sym (take-take m n xs h) ∙ ap (take m) e ∙ take-take m n ys h

pub longer_then : {X : Type 0} {m m1 m2 : ℕ} {xs xs1 xs2 : List X} → Longer m xs m1 xs1 → Longer m1 xs1 m2 xs2 → Longer m xs m2 xs2
longer_then {X} {m} {m1} {m2} {xs} {xs1} {xs2} a b = record {
  marks = omega arith;
  fits = b.fits;
  capped = b.capped;
  len = b.len ∙ a.len;
  below = take_below m m1 xs2 xs1 a.marks b.below ∙ a.below;
}

pub longer_grown : {X : Type 0} {m m1 : ℕ} {xs xs1 new : List X} → m + length new ≤ length xs → m + length new ≤ most_entries → Grown m xs new m1 xs1 → Longer m xs m1 xs1
longer_grown {X} {m} {m1} {xs} {xs1} {new} h k a = record {
  marks = omega arith;
  fits = omega arith;
  capped = omega arith;
  len = a.len;
  below =
      sym (take-take m m1 xs1 (omega arith)) ∙ ap (take m) a.used
      ∙ take-append-le m (take m xs) new (omega (arith, length-take-le m xs (omega arith))) ∙ take-take m m xs (le_refl m);
}

pub stays_after : {X : Type 0} {m m1 : ℕ} {xs ys zs : List X} → Longer m xs m1 ys → Stays m1 ys zs → Stays m xs zs
stays_after {X} {m} {m1} {xs} {ys} {zs} a b = record { len = b.len ∙ a.len; below = take_below m m1 zs ys a.marks b.below ∙ a.below }

pub stays_none : {X : Type 0} {m : ℕ} {xs : List X} → Stays m xs xs
stays_none = record { len = refl; below = refl }

pub stays_then : {X : Type 0} {m : ℕ} {xs ys zs : List X} → Stays m xs ys → Stays m ys zs → Stays m xs zs
stays_then a b = record { len = b.len ∙ a.len; below = b.below ∙ a.below }

pub stays_longer : {X : Type 0} {m m1 : ℕ} {xs ys : List X} → Longer m xs m1 ys → Stays m xs ys
stays_longer a = record { len = a.len; below = a.below }

pub stays_lower : {X : Type 0} {m n : ℕ} {xs ys : List X} → m ≤ n → Stays n xs ys → Stays m xs ys
stays_lower {X} {m} {n} {xs} {ys} h a = record { len = a.len; below = take_below m n ys xs h a.below }

pub used_mark : {X : Type 0} (m i : ℕ) (xs : List X) → i < length (take m xs) → i < m
used_mark m i xs h = omega (arith, length-take m xs)

pub used_length : {X : Type 0} (m i : ℕ) (xs : List X) → i < length (take m xs) → i < length xs
used_length m i xs h = omega (arith, length-take m xs)
