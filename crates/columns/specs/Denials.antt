-- The checks of each call, in order: its denial is that of the first check that fails.
use Rattle.std.specs.Prelude.{◌≡◌, ℕ, Bool, true, false, ◌↔◌, List, [], ◌∷◌, ◌++◌, length}
use Rattle.std.proofs.Math.Option.{some, none}
use Rattle.std.specs.List.{AllByRecursion}
use Rattle.columns.specs.Column.{Column}
use Rattle.columns.specs.Gathering.{Pair}
use Rattle.columns.specs.Checks.{Denial, denial, Check, first_failing, failing_place}
use Rattle.columns.specs.Reading.{Outcome, denied, reached}
use Rattle.columns.specs.Parcel.{Found, parcel_read}
use Rattle.columns.specs.Pools.{Entries}
use Rattle.columns.specs.Ledger.{Shelf, Call, adds, reads, filing, interleaving, call_denial, interleave_checks, file_checks, read_checks}
use Rattle.columns.specs.Order.{parcel_order}

-- The checks of a call. Those on buffers shelved before (12), on soundness (4) and on room (13) wait until the parcel is read.
abbrev pub waiting_checks : Entries → Shelf → Outcome Found → List Check
waiting_checks lengths s (denied d) = []
waiting_checks lengths s (reached f p) = file_checks lengths s f p

abbrev pub call_checks : Entries → Shelf → Call → List Check
call_checks lengths s (adds (filing parcel)) = parcel_order parcel ++ waiting_checks lengths s (parcel_read s.buffers parcel)
call_checks lengths s (adds (interleaving js ps)) = interleave_checks lengths s js ps
call_checks lengths s (reads j r room) = read_checks s j r room

abbrev pub Passes : Check → Type 0
Passes c = c.1 ≡ none

-- d is the denial of the first of the checks that fails
pub record FirstToFail (checks : List Check) (d : Denial) : Type 0 where
  pub before : List Check
  pub number : ℕ
  pub detail : ℕ
  pub after : List Check
  pub in_order : checks ≡ before ++ (number, some detail) ∷ after
  pub before_pass : AllByRecursion Passes before
  pub its_denial : d ≡ denial number detail

-- x is the first of the list that fails the test, and k its place
pub record FirstOf {X : Type 0} (test : X → Bool) (xs : List X) (k : ℕ) (x : X) : Type 0 where
  pub before : List X
  pub after : List X
  pub in_order : xs ≡ before ++ x ∷ after
  pub its_place : k ≡ length before
  pub it_fails : test x ≡ false
  pub before_pass : AllByRecursion (λ y. test y ≡ true) before

-- A call is denied by the first of its checks that fails, and accepted where none fails. Where a check is one of a list,
-- its detail is the first number that fails, or the place of the first column or pair.
pub record DenialsAreFirst : Type 0 where
  pub denied_by_first : (lengths : Entries) (s : Shelf) (c : Call) (d : Denial) → (call_denial lengths s c ≡ some d) ↔ FirstToFail (call_checks lengths s c) d
  pub accepted_by_all : (lengths : Entries) (s : Shelf) (c : Call) → (call_denial lengths s c ≡ none) ↔ AllByRecursion Passes (call_checks lengths s c)
  pub first_number : (test : ℕ → Bool) (xs : List ℕ) (x : ℕ) → (first_failing test xs ≡ some x) ↔ ((k : ℕ) × FirstOf test xs k x)
  pub first_column : (test : Column → Bool) (cs : List Column) (k : ℕ) → (failing_place test 0 cs ≡ some k) ↔ ((c : Column) × FirstOf test cs k c)
  pub first_pair : (test : Pair → Bool) (ps : List Pair) (k : ℕ) → (failing_place test 0 ps ≡ some k) ↔ ((p : Pair) × FirstOf test ps k p)
