use Rattle.std.proofs.Common.{◌≡◌, ℕ, ◌<◌, ◌≤◌, Bool, true, false, cond, eqb, List, length, take, drop, ap, ◌∙◌, subst, arith}
use native.Mathlib.Nat.{sub-zero}
use Rattle.std.proofs.lemmas.List.{length-drop}
use Rattle.std.proofs.lemmas.Bool.{eq-eqb, ne_eqb}
use Rattle.columns.specs.Checks.{denial}
use Rattle.columns.specs.Checks as checks
use Rattle.columns.specs.Reading.{Outcome, reached, denied, onward, give, ◌>>◌}
use Rattle.columns.specs.Parcel.{Found, node_read, at_end, parcel_read}
use Rattle.columns.specs.Heads.{free}
use Rattle.columns.specs.Reading as rules
use Rattle.parcels.specs.declared.draft.Place.{Place}
use Rattle.parcels.specs.declared.draft.Draft.{Draft}
use Rattle.parcels.specs.Drafts.{FoundAs, Outlined, Traced, preorder}
use Rattle.parcels.specs.Reads.{placed}

abbrev start : Place
start = record { at = 0; nodes = 0; brought = 0 }

abbrev ended : Bool → rules.Place → Outcome (Unit {0})
ended b p = cond b (reached tt p) (denied (denial 1 p.passed))

module _ (shelved : List (List ℕ)) (parcel : List ℕ) where
  abbrev to_end : Found → rules.Reading Found
  to_end f = at_end >> give f

  pub outline_denied : (d : checks.Denial) → node_read (length shelved) 8 free (placed parcel start shelved) ≡ denied d → parcel_read shelved parcel ≡ denied d
  outline_denied d e = ap (λ (o : Outcome Found). onward o to_end) e

  module _ (rows : ℕ) (q : Place) (D : List Draft) (F : FoundAs parcel (length shelved) start shelved 8 free rows q D) where
    ends : (b : Bool) → eqb (length (drop q.at parcel)) 0 ≡ b
        → parcel_read shelved parcel ≡ onward (ended b (placed parcel q F.after)) (λ _. give F.f)
    ends b e = ap (λ (o : Outcome Found). onward o to_end) F.is ∙ ap (λ (c : Bool). onward (ended c (placed parcel q F.after)) (λ _. give F.f)) e

    pub outline_left : q.at < length parcel → parcel_read shelved parcel ≡ denied (denial 1 q.at)
    outline_left h = ends false (ne_eqb (length (drop q.at parcel)) 0 (λ e. omega (arith, e, length-drop q.at parcel)))

    pub outlined : length parcel ≤ q.at → Outlined shelved parcel (take q.nodes D)
    outlined h =
        record {
          f = F.f;
          last = placed parcel q F.after;
          is = ends true (eq-eqb (length (drop q.at parcel)) 0 (simp length-drop (omega arith)));
          traced = subst (λ (n : ℕ). Traced parcel (length shelved) shelved 0 (take n D) F.f.checks (preorder F.f.found) F.after) (sub-zero q.nodes) F.traced;
        }
