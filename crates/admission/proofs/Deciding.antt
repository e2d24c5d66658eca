use Rattle.std.proofs.Common.{◌≡◌, ℕ, List, [], ◌∷◌, ◌++◌, length, drop, Some, None, sym, refl, ap, ◌∙◌, arith}
use mathlib.Core.Option as math
use Rattle.std.specs.List.{AllByRecursion}
use Rattle.std.proofs.lemmas.List.{length-map}
use Rattle.columns.specs.Checks.{Denial, denial, Check, denied_or, first_denial}
use Rattle.columns.specs.Ledger.{Shelf, file_denial}
use Rattle.columns.specs.Parcel.{parcel_read}
use Rattle.columns.specs.Pools.{plus, one_column, filed_needs, full_pool}
use Rattle.formats.specs.Spelled.{lifted}
use Rattle.pools.specs.declared.records.Part.{Part}
use Rattle.pools.specs.Parts.{part_of, buffers_in}
use Rattle.parcels.specs.declared.draft.Draft.{Draft}
use Rattle.parcels.specs.Drafts.{Drafted, Outlined, checks_of}
use Rattle.pools.specs.declared.entries.Entries.{Entries}
use Rattle.pools.specs.Marked.{listed}
use Rattle.admission.specs.Needs.{drafts_need}
use Rattle.admission.specs.Examine.{Stands}
use Rattle.admission.proofs.Rooms.{full_agrees}
use Rattle.soundness.proofs.Rungs.{unlifted_some, unlifted_none}
use Rattle.admission.proofs.Filing.{needs_are}

-- one ladder after another
step_some : (n : ℕ) (o : math.Option ℕ) (a b : math.Option Denial) (d : Denial) → denied_or n o a ≡ math.some d → (a ≡ math.some d → b ≡ math.some d) → denied_or n o b ≡ math.some d
step_some n (math.some x) a b d e f = e
step_some n math.none a b d e f = f e

step_none : (n : ℕ) (o : math.Option ℕ) (a b c : math.Option Denial) → denied_or n o a ≡ math.none → (a ≡ math.none → b ≡ c) → denied_or n o b ≡ c
step_none n (math.some x) a b c e f = let z : ◌≡◌ {A = ℕ} 0 1 = cc in absurd (omega arith)
step_none n math.none a b c e f = f e

denied_before : (xs ys : List Check) (d : Denial) → first_denial xs ≡ math.some d → first_denial (xs ++ ys) ≡ math.some d
denied_before [] ys d e = let z : ◌≡◌ {A = ℕ} 0 1 = cc in absurd (omega arith)
denied_before (x ∷ xs) ys d e = step_some x.0 x.1 (first_denial xs) (first_denial (xs ++ ys)) d e (denied_before xs ys d)

passed_before : (xs ys : List Check) → first_denial xs ≡ math.none → first_denial (xs ++ ys) ≡ first_denial ys
passed_before [] ys e = refl
passed_before (x ∷ xs) ys e = step_none x.0 x.1 (first_denial xs) (first_denial (xs ++ ys)) (first_denial ys) e (passed_before xs ys)

module _ (parcel bytes : List ℕ) (buffers : List Part) (D : List Draft) (O : Outlined (buffers_in bytes buffers) parcel D) where
  abbrev shelved : List (List ℕ)
  shelved = buffers_in bytes buffers

  abbrev filed : List ℕ
  filed = filed_needs O.f.found (drop (length shelved) O.last.buffers)

  abbrev checks : List Check
  checks = checks_of parcel (length buffers) shelved 0 D

  pub needed_is : (needs : Entries) → AllByRecursion (Drafted parcel) D → listed needs ≡ plus one_column (drafts_need parcel D) → listed needs ≡ filed
  needed_is needs g e = e ∙ needs_are parcel D shelved O.last.buffers O.f.found g O.traced.listed O.traced.held

  module _ (long used : Entries) (ends : List ℕ) (s : Shelf) (S : Stands ends s bytes buffers long used) where
    abbrev answer : math.Option Denial
    answer = file_denial ends s (parcel_read s.buffers parcel)

    opens : answer ≡ first_denial (checks ++ (13, full_pool ends s.marks filed) ∷ [])
    opens =
        ap (file_denial ends s) (ap (λ (b : List (List ℕ)). parcel_read b parcel) S.held ∙ O.is)
        ∙ ap (λ (b : List (List ℕ)). first_denial (O.f.checks ++ (13, full_pool ends s.marks (filed_needs O.f.found (drop (length b) O.last.buffers))) ∷ [])) S.held
        ∙ ap (λ (c : List Check). first_denial (c ++ (13, full_pool ends s.marks filed) ∷ [])) O.traced.checked
        ∙ ap (λ (n : ℕ). first_denial (checks_of parcel n shelved 0 D ++ (13, full_pool ends s.marks filed) ∷ [])) (length-map buffers (part_of bytes))

    pub denied_by_node : (d : Denial) → first_denial checks ≡ math.some d → math.some d ≡ answer
    denied_by_node d e = sym (opens ∙ denied_before checks ((13, full_pool ends s.marks filed) ∷ []) d e)

    module _ (p : first_denial checks ≡ math.none) (needs : Entries) (e : listed needs ≡ filed) where
      passes : answer ≡ denied_or 13 (full_pool (listed long) (listed used) (listed needs)) math.none
      passes =
          opens ∙ passed_before checks ((13, full_pool ends s.marks filed) ∷ []) p
          ∙ ap (λ (o : math.Option ℕ). denied_or 13 o math.none) (full_agrees ends s.marks (listed long) (listed used) filed S.ends S.marks ∙ ap (full_pool (listed long) (listed used)) (sym e))

      pub denied_room : (pool : ℕ) → lifted (full_pool (listed long) (listed used) (listed needs)) ≡ Some pool → math.some (denial 13 pool) ≡ answer
      denied_room pool f = sym (passes ∙ ap (λ (o : math.Option ℕ). denied_or 13 o math.none) (unlifted_some (full_pool (listed long) (listed used) (listed needs)) pool f))

      pub accepted : lifted (full_pool (listed long) (listed used) (listed needs)) ≡ None → math.none ≡ answer
      accepted f = sym (passes ∙ ap (λ (o : math.Option ℕ). denied_or 13 o math.none) (unlifted_none (full_pool (listed long) (listed used) (listed needs)) f))
