-- What lies in the front of a list lies in the list.
use Rattle.std.proofs.Common.{◌≡◌, ℕ, ◌+◌, ◌-◌, ◌<◌, ◌≤◌, min, List, [], ◌++◌, map, length, get_or, take, drop, sym, ap, ◌∙◌, subst, append_assoc, append-nil, le_refl, arith, length-append, length-drop, length-take}
use Rattle.std.proofs.lemmas.List.{get_or_append_left, drop-append-le, take-append-le, take-take, take-append-drop, map-append, get_or-take, get_or-drop, drop-drop, drop-take, drop_at, take_all, length-take-le}
use Rattle.columns.specs.Says.{slice}
use Rattle.pools.specs.Grown.{Grown, Longer}
use Rattle.pools.specs.Store.{Segment, Front}

pub front_none : {X : Type 0} (xs : List X) → Front xs xs
front_none xs = record { more = []; is = sym (append-nil xs) }

pub front_then : {X : Type 0} {xs ys zs : List X} → Front xs ys → Front ys zs → Front xs zs
front_then {X} {xs} {ys} {zs} a b =
    record { more = a.more ++ b.more; is = b.is ∙ ap (λ (l : List X). l ++ b.more) a.is ∙ append_assoc xs a.more b.more }

pub front_take : {X : Type 0} (n : ℕ) (xs : List X) → Front (take n xs) xs
front_take n xs = record { more = drop n xs; is = sym (take-append-drop n xs) }

pub front_length : {X : Type 0} {xs ys : List X} → Front xs ys → length xs ≤ length ys
front_length {X} {xs} {ys} f = omega (arith, ap length f.is, length-append xs f.more)

pub front_get_or : {X : Type 0} {xs ys : List X} → Front xs ys → (i : ℕ) (d : X) → i < length xs → get_or ys i d ≡ get_or xs i d
front_get_or {X} {xs} {ys} f i d h = ap (λ (l : List X). get_or l i d) f.is ∙ get_or_append_left xs f.more d i h

pub front_map : {X Y : Type 0} (g : X → Y) {xs ys : List X} → Front xs ys → Front (map g xs) (map g ys)
front_map g {xs} {ys} f = record { more = map g f.more; is = ap (map g) f.is ∙ map-append g xs f.more }

-- what was added stands after what was there
pub front_grown : {X : Type 0} {m m1 : ℕ} {xs xs1 new : List X} → Grown m xs new m1 xs1 → Front (take m xs) (take m1 xs1)
front_grown {X} {m} {m1} {xs} {xs1} {new} g = record { more = new; is = g.used }

pub front_longer : {X : Type 0} {m m1 : ℕ} {xs xs1 : List X} → Longer m xs m1 xs1 → Front (take m xs) (take m1 xs1)
front_longer {X} {m} {m1} {xs} {xs1} l =
    subst (λ (ys : List X). Front ys (take m1 xs1)) (take-take m m1 xs1 l.marks ∙ l.below) (front_take m (take m1 xs1))

pub segment_on : {X : Type 0} {xs ys : List X} {a n : ℕ} {v : List X} → Front xs ys → Segment xs a n v → Segment ys a n v
segment_on {X} {xs} {ys} {a} {n} {v} f s =
    record {
      within = (let l = front_length f in let w = s.within in omega arith);
      is =
          ap (λ (l : List X). take n (drop a l)) f.is
          ∙ ap (take n) (drop-append-le a xs f.more (let w = s.within in omega arith))
          ∙ take-append-le n (drop a xs) f.more (let w = s.within in simp length-drop (omega arith))
          ∙ s.is;
    }

-- what was added last
pub segment_added : {X : Type 0} {m m1 : ℕ} {xs xs1 new : List X} → m ≤ length xs → Grown m xs new m1 xs1 → Segment (take m1 xs1) m (length new) new
segment_added {X} {m} {m1} {xs} {xs1} {new} h g =
    record {
      within = omega (arith, ap length g.used, length-append (take m xs) new, length-take-le m xs h);
      is =
          ap (λ (l : List X). take (length new) (drop m l)) g.used
          ∙ ap (take (length new)) (drop_at (take m xs) new m (length-take-le m xs h))
          ∙ take_all (length new) new (le_refl _);
    }

pub segment_length : {X : Type 0} {xs : List X} {a n : ℕ} {v : List X} → Segment xs a n v → length v ≡ n
segment_length {X} {xs} {a} {n} {v} s =
    sym (ap length s.is) ∙ length-take n (drop a xs) ∙ (let w = s.within in let e = length-drop a xs in let z : min n (length (drop a xs)) ≡ n = omega arith in z)

pub segment_same : {X : Type 0} {xs : List X} {a n : ℕ} {v w : List X} → Segment xs a n v → Segment xs a n w → v ≡ w
segment_same s t = sym s.is ∙ t.is

-- entry k of what lies there
pub segment_at : {X : Type 0} {xs : List X} {a n : ℕ} {v : List X} → Segment xs a n v → (k : ℕ) (d : X) → k < n → get_or xs (a + k) d ≡ get_or v k d
segment_at {X} {xs} {a} {n} {v} s k d h =
    sym (get_or-drop a xs k d) ∙ sym (get_or-take n (drop a xs) k d h) ∙ ap (λ (z : List X). get_or z k d) s.is

-- a part of what lies there
pub segment_part : {X : Type 0} {xs : List X} {a n : ℕ} {v : List X} → Segment xs a n v → (b m : ℕ) → b + m ≤ n → Segment xs (a + b) m (slice v b m)
segment_part {X} {xs} {a} {n} {v} s b m h =
    let split : b + (n - b) ≡ n = omega arith in
    record {
      within = (let w = s.within in omega arith);
      is =
          sym (ap (take m) (drop-drop b a xs)) ∙ sym (take-take m (n - b) (drop b (drop a xs)) (omega arith))
          ∙ sym (ap (take m) (drop-take b (n - b) (drop a xs))) ∙ ap (λ k. take m (drop b (take k (drop a xs)))) split
          ∙ ap (λ (l : List X). take m (drop b l)) s.is;
    }
