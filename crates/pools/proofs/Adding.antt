-- What is stored once it was added.
use Rattle.std.proofs.Common.{◌≡◌, ℕ, ◌+◌, ◌*◌, ◌<◌, ◌≤◌, Bool, List, [], ◌∷◌, ◌++◌, map, length, get_or, take, drop, refl, ap, ◌∙◌, subst, arith, length-append}
use lib.ListN.{length-map}
use Rattle.std.proofs.lemmas.List.{take-map, drop-map, get_or_push, length-take-le, length_push}
use Rattle.columns.specs.Column.{bytes_for, Node, Column, Columns, column, end, ◌&◌, width}
use Rattle.columns.specs.Bytes.{packed}
use Rattle.columns.specs.Limits.{node_count}
use Rattle.columns.specs.Sound.{SpareFits}
use Rattle.columns.proofs.Bits.{bits_read_back}
use Rattle.pools.specs.declared.records.View.{View as Halves}
use Rattle.pools.specs.Grown.{Grown}
use Rattle.pools.specs.Store.{Store, Segment, node_entry}
use Rattle.pools.specs.Held.{view_from, BitsLie, Held}
use Rattle.pools.specs.Stored.{Stored, EachStored}
use Rattle.pools.proofs.Fronts.{segment_added}

-- so many bytes, with the spare bits or without
bytes_with : (rows spare : ℕ) → rows + spare ≤ 8 * bytes_for rows → bytes_for (rows + spare) ≡ bytes_for rows
bytes_with rows spare h = omega arith

pub bits_added : {m m1 : ℕ} {xs xs1 : List ℕ} (bits spare : List Bool) → m ≤ length xs → SpareFits (length bits) spare → Grown m xs (packed (bits ++ spare)) m1 xs1 → BitsLie (take m1 xs1) m (length bits) bits spare
bits_added {m} {m1} {xs} {xs1} bits spare h fit g =
    record {
      fills = refl;
      lies =
          subst (λ n. Segment (take m1 xs1) m n (packed (bits ++ spare)))
          (bits_read_back.byte_count (bits ++ spare) ∙ ap bytes_for (length-append bits spare) ∙ bytes_with (length bits) (length spare) fit)
          (segment_added h g);
    }

-- entries that are read as something else
pub segment_map : {X Y : Type 0} (f : X → Y) {xs : List X} {a n : ℕ} {v : List X} → Segment xs a n v → Segment (map f xs) a n (map f v)
segment_map f {xs} {a} {n} {v} s =
    record {
      within = (let w = s.within in simp length-map (omega arith));
      is = ap (take n) (drop-map f a xs) ∙ take-map f n (drop a xs) ∙ ap (map f) s.is;
    }

pub views_added : {m m1 : ℕ} {xs xs1 : List Halves} (new : List Halves) → m ≤ length xs → Grown m xs new m1 xs1 → Segment (map view_from (take m1 xs1)) m (length new) (map view_from new)
views_added new h g = segment_map view_from (segment_added h g)

-- the entry that was added last
pub entry_added : {X : Type 0} {m m1 : ℕ} {xs xs1 : List X} (x d : X) → m ≤ length xs → Grown m xs (x ∷ []) m1 xs1 → (m < length (take m1 xs1)) × (get_or (take m1 xs1) m d ≡ x)
entry_added {X} {m} {m1} {xs} {xs1} x d h g = (
  omega (arith, ap length g.used, length_push (take m xs) x, length-take-le m xs h),
  ap (λ (l : List X). get_or l m d) g.used ∙ get_or_push (take m xs) x d m (length-take-le m xs h),
)

-- A node with its children.
pub stored_from : (P : Store) (i : ℕ) (n : Node) (cs : Columns) → i < length P.nodes → Held P (node_entry P i) n (width cs) (node_count (column n cs)) → EachStored P (i + 1) cs → Stored P i (column n cs)
unfolding Stored
stored_from P i n cs l h k = (l, h, k)

pub each_none : (P : Store) (i : ℕ) → EachStored P i end
unfolding EachStored
each_none P i = tt

pub each_more : (P : Store) (i : ℕ) (c : Column) (cs : Columns) → Stored P i c → EachStored P (i + node_count c) cs → EachStored P i (c & cs)
unfolding EachStored
each_more P i c cs h k = (h, k)
