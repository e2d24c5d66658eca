-- The entry of a row among run ends.
use Rattle.std.proofs.Common.{◌≡◌, ℕ, zero, suc, ◌<◌, ◌≤◌, List, [], ◌∷◌, map, length, get_or, leb, true, false, sym, ap, ◌∙◌, subst, ⊎_elim, arith}
use lib.ListN.{length-map}
use borrow.Author.Tests.{leb-true, leb-false}
use Rattle.std.specs.List.Sorted.{IsNonDecreasingBy, IsPartitionPoint}
use Rattle.std.proofs.lemmas.List.{get_or-map, map-id}
use Rattle.columns.specs.Says.{entry}
use Rattle.columns.specs.Sound.{Climbs}
use Rattle.columns.proofs.Run.{entry_first, entry_next}
use Rattle.std.proofs.lemmas.Bool.{cases_lt}
use Rattle.rows.specs.Ranged.{Rises}

-- never past an end that is above the row
pub entry_at_most : (es : List ℕ) (k row : ℕ) → k < length es → row < get_or es k 0 → entry es row ≤ k
entry_at_most [] k row h l = absurd (omega arith)
entry_at_most (e ∷ es) zero row h l = omega (arith, entry_first e es row l)
entry_at_most (e ∷ es) (suc k) row h l =
    ⊎_elim (λ below. omega (arith, entry_first e es row below))
    (λ above. omega (arith, entry_next e es row above, entry_at_most es k row (omega arith) l)) (cases_lt row e)

rises_rest : (e : ℕ) (es : List ℕ) → Rises (e ∷ es) → Rises es
rises_rest e es r j k h l = r (suc j) (suc k) (omega arith) (omega arith)

-- past every end that is not above it
pub entry_above : (es : List ℕ) (k row : ℕ) → Rises es → k < length es → get_or es k 0 ≤ row → k < entry es row
entry_above [] k row r h l = absurd (omega arith)
entry_above (e ∷ es) zero row r h l = omega (arith, entry_next e es row l)
entry_above (e ∷ es) (suc k) row r h l =
    omega (arith, entry_next e es row (omega (arith, r 0 (suc k) (omega arith) h)), entry_above es k row (rises_rest e es r) (omega arith) l)

pub entry_within : (es : List ℕ) (row : ℕ) → entry es row ≤ length es
entry_within [] row = omega arith
entry_within (e ∷ es) row =
    ⊎_elim (λ below. omega (arith, entry_first e es row below)) (λ above. omega (arith, entry_next e es row above, entry_within es row)) (cases_lt row e)

-- run ends climb, so they never fall
climbs_above : (low : ℕ) (es : List ℕ) (top : ℕ) → Climbs low es top → (k : ℕ) → k < length es → low < get_or es k 0
climbs_above low [] top c k h = absurd (omega arith)
climbs_above low (e ∷ es) top c zero h = c.0
climbs_above low (e ∷ es) top c (suc k) h = let a = c.0 in omega (arith, climbs_above e es top c.1 k (omega arith))

pub climbs_rise : (low : ℕ) (es : List ℕ) (top : ℕ) → Climbs low es top → Rises es
climbs_rise low [] top c j k h l = absurd (omega arith)
climbs_rise low (e ∷ es) top c zero zero h l = omega arith
climbs_rise low (e ∷ es) top c zero (suc k) h l = omega (arith, climbs_above e es top c.1 k (omega arith))
climbs_rise low (e ∷ es) top c (suc j) zero h l = absurd (omega arith)
climbs_rise low (e ∷ es) top c (suc j) (suc k) h l = climbs_rise e es top c.1 j k (omega arith) (omega arith)

-- where a search by halves stops: the ends before are not above the row, the next one is
entry_at : (es : List ℕ) (i row : ℕ) → Rises es → i ≤ length es → ((k : ℕ) → k < i → get_or es k 0 ≤ row) → (i < length es → row < get_or es i 0) → i ≡ entry es row
entry_at es zero row r h low high = ⊎_elim (λ l. omega (arith, entry_at_most es 0 row l (high l))) (λ l. omega (arith, entry_within es row)) (cases_lt 0 (length es))
entry_at es (suc i) row r h low high =
    ⊎_elim (λ l. omega (arith, entry_above es i row r (omega arith) (low i (omega arith)), entry_at_most es (suc i) row l (high l)))
    (λ l. omega (arith, entry_above es i row r (omega arith) (low i (omega arith)), entry_within es row)) (cases_lt (suc i) (length es))

pub rises_by : {X : Type 0} (number : X → ℕ) (xs : List X) → Rises (map number xs) → IsNonDecreasingBy number xs
rises_by number xs r i j d h l =
    let a = get_or-map number xs i d 0 (omega arith) in let b = get_or-map number xs j d 0 l in
    let n = length-map xs number in let c = r i j h (omega arith) in omega arith

pub point_entry : {X : Type 0} (number : X → ℕ) (xs : List X) (i row : ℕ) → Rises (map number xs) → i ≤ length xs →
    IsPartitionPoint (λ x. leb (number x) row ≡ true) (λ x. leb (number x) row ≡ false) xs i → i ≡ entry (map number xs) row
point_entry number [] i row r h p = omega arith
point_entry number (x ∷ xs) i row r h p =
    let n = length-map (x ∷ xs) number in
    entry_at (map number (x ∷ xs)) i row r (omega arith)
    (λ k l. let a = get_or-map number (x ∷ xs) k x 0 (omega arith) in let b = leb-true (number (get_or (x ∷ xs) k x)) row (p.0 k x (omega arith) l) in omega arith)
    (λ l. let a = get_or-map number (x ∷ xs) i x 0 (omega arith) in let b = leb-false (number (get_or (x ∷ xs) i x)) row (p.1 i x (omega arith) (omega arith)) in omega arith)

-- the numbers of a part, which are the entries themselves
pub entry_of_numbers : (xs es : List ℕ) (i row : ℕ) → es ≡ xs → Rises xs → (Rises (map (λ (n : ℕ). n) es) → i ≡ entry (map (λ (n : ℕ). n) es) row) → i ≡ entry xs row
entry_of_numbers xs es i row e r f =
    let m : map (λ (n : ℕ). n) es ≡ xs = map-id es ∙ e in
    f (subst Rises (sym m) r) ∙ ap (λ (l : List ℕ). entry l row) m
