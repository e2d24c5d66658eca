-- What one call more does to the ledger.
use Rattle.std.proofs.Common.{◌≡◌, ℕ, List, [], ◌∷◌, ◌++◌, sym, refl, ap, ◌∙◌, subst}
use mathlib.Core.Option.{some, none}
use Rattle.std.specs.List.{AllByRecursion}
use Rattle.std.proofs.ByRecursion.{All-append}
use Rattle.columns.specs.Checks.{Denial}
use Rattle.columns.specs.Pools.{Entries}
use Rattle.columns.specs.Ledger.{Line, Call, adds, reads, Ledger, empty, ◌then◌, lines, shelf_of, put, add_unless, next, after, line_denial}
use Rattle.columns.specs.Run.{OfBytes}
use Rattle.pools.specs.declared.pools.Pools.{Pools}
use Rattle.pools.specs.Marked.{lengths_of, entries}
use Rattle.pools.specs.Kept.{Ready}
use Rattle.pools.specs.Store.{store}
use Rattle.pools.specs.Shows.{Shows}
use Rattle.shelf.specs.Stands.{lengths, ledger, Stands}

pub after_one_more : (es : Entries) (L : Ledger) (calls : List Call) (c : Call) → after es L (calls ++ c ∷ []) ≡ next es (after es L calls) c
after_one_more es L [] c = refl
after_one_more es L (b ∷ bs) c = after_one_more es (next es L b) bs c

next_denied : (es : Entries) (L : Ledger) (l : Line) (d : Denial) → line_denial es (shelf_of L) l ≡ some d → next es L (adds l) ≡ L
next_denied es L l d e = ap (λ x. add_unless x L l) e

next_accepted : (es : Entries) (L : Ledger) (l : Line) → line_denial es (shelf_of L) l ≡ none → next es L (adds l) ≡ L then l
next_accepted es L l e = ap (λ x. add_unless x L l) e

-- The ledger, the pools being as they were.
same_ledger : {calls : List Call} {p : Pools} {slip : ℕ} (c : Call) → ledger p slip (calls ++ c ∷ []) ≡ ledger p slip calls → Stands calls p slip → Stands (calls ++ c ∷ []) p slip
same_ledger {calls} {p} {slip} c e s =
    record {
      ready = s.ready;
      of_bytes = subst (λ L. AllByRecursion OfBytes (lines L)) (sym e) s.of_bytes;
      shows = subst (λ L. Shows (store p) (shelf_of L)) (sym e) s.shows;
    }

-- A denied call, and a read, leave the pools as they were.
pub denied_stands : {calls : List Call} {p : Pools} {slip : ℕ} (l : Line) (d : Denial) →
    line_denial (lengths p slip) (shelf_of (ledger p slip calls)) l ≡ some d → Stands calls p slip → Stands (calls ++ adds l ∷ []) p slip
denied_stands {calls} {p} {slip} l d e s =
    same_ledger (adds l) (after_one_more (lengths p slip) empty calls (adds l) ∙ next_denied (lengths p slip) (ledger p slip calls) l d e) s

pub read_stands : {calls : List Call} {p : Pools} {slip : ℕ} (column row room : ℕ) → Stands calls p slip → Stands (calls ++ reads column row room ∷ []) p slip
read_stands {calls} {p} {slip} column row room s = same_ledger (reads column row room) (after_one_more (lengths p slip) empty calls (reads column row room)) s

-- An accepted one adds its line: pools of the same lengths that show what it puts stand for the calls with it.
pub accepted_stands : {calls : List Call} {p q : Pools} {slip : ℕ} (l : Line) →
    line_denial (lengths p slip) (shelf_of (ledger p slip calls)) l ≡ none → lengths_of q ≡ lengths_of p → OfBytes l → Ready q →
    Shows (store q) (put (shelf_of (ledger p slip calls)) l) → Stands calls p slip → Stands (calls ++ adds l ∷ []) q slip
unfolding shelf_of
accepted_stands {calls} {p} {q} {slip} l e same bytes ready shows s =
    record {
      ready = ready;
      of_bytes = subst (λ L. AllByRecursion OfBytes (lines L)) (sym is) (All-append OfBytes (lines (ledger p slip calls)) (l ∷ []) s.of_bytes (bytes, tt));
      shows = subst (λ L. Shows (store q) (shelf_of L)) (sym is) shows;
    }
  where
    is : ledger q slip (calls ++ adds l ∷ []) ≡ ledger p slip calls then l
    is =
        ap (λ m. after (entries m ++ slip ∷ []) empty (calls ++ adds l ∷ [])) same
        ∙ (after_one_more (lengths p slip) empty calls (adds l) ∙ next_accepted (lengths p slip) (ledger p slip calls) l e)
