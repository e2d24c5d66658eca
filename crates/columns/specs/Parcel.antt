-- What a parcel says: its column, and the checks that wait until it is read.
use Rattle.std.specs.Prelude.{ℕ, zero, suc, ◌-◌, cond, ◌&&◌, List, [], ◌∷◌, ◌++◌, length, ◌==◌, nat_lt}
use Rattle.std.specs.List.{flat_map}
use Rattle.columns.specs.Kinds.{Kind, is_known}
use Rattle.columns.specs.Format.{kind_of}
use Rattle.columns.specs.Column.{Node, Column, Columns, column, end, ◌&◌, nothing}
use Rattle.columns.specs.Limits.{most_levels}
use Rattle.columns.specs.Checks.{denial, Check, unless, first_failing}
use Rattle.columns.specs.Reading.{Place, Outcome, denied, reached, Reading, ◌>>=◌, ◌>>◌, give, must, begin_node, here, each_of}
use Rattle.columns.specs.Heads.{Head, head, Role, free, roles, must_be_allowed}
use Rattle.columns.specs.Sent.{Data, brought, named, Sent, buffers_of}
use Rattle.columns.specs.Contents.{node_from}
use Rattle.columns.specs.SoundTests.{fills, role_sound, kind_sound}

-- Checks of a node that wait until the whole parcel is read: its named buffers were shelved before, and it is sound.
abbrev pub named_before : ℕ → List Data → List ℕ
named_before before [] = []
named_before before (brought b ∷ ds) = named_before before ds
named_before before (named b ∷ ds) = b ∷ named_before before ds

pub record Found : Type 0 where
  pub found : Column
  pub checks : List Check

abbrev pub columns_from : List Found → Columns
columns_from [] = end
columns_from (x ∷ xs) = x.found & columns_from xs

abbrev pub node_checks : (before : ℕ) → Role → Kind → Head → Sent → Node → Columns → (number : ℕ) → List (List ℕ) → List Check
node_checks before role K h s n cs number shelved =
    (12, first_failing (λ b. nat_lt b before) (named_before before s.sent))
    ∷ (4, unless (fills K h s && role_sound role n && kind_sound shelved K n cs) number) ∷ []

abbrev pub found_node : (before : ℕ) → Role → Kind → Head → Sent → (number : ℕ) → List (List ℕ) → List Found → Found
found_node before role K h s number shelved kids =
    record {
      found = column (node_from K h s) (columns_from kids);
      checks = node_checks before role K h s (node_from K h s) (columns_from kids) number shelved ++ flat_map (λ (x : Found). x.checks) kids;
    }

-- A node of a parcel: its head, its buffers, its children.
module _ (before : ℕ) where
  unfoldable pub node_read : (levels : ℕ) → Role → Reading Found
  node_read zero role =
      do
        begin_node
        h ← head
        must (is_known (kind_of h.format)) 2
        must_be_allowed zero role (kind_of h.format) h
        give (record { found = nothing; checks = [] })
  node_read (suc levels) role =
      do
        begin_node
        h ← head
        must (is_known (kind_of h.format)) 2
        must_be_allowed (suc levels) role (kind_of h.format) h
        s ← buffers_of (kind_of h.format) h
        p ← here
        kids ← each_of (node_read levels) (roles (kind_of h.format) h)
        give (found_node before role (kind_of h.format) h s (p.nodes - 1) p.buffers kids)

-- nothing may be left of the parcel
abbrev pub at_end : Reading Unit
at_end p = cond (length p.ahead == 0) (reached tt p) (denied (denial 1 p.passed))

abbrev pub start_of : List (List ℕ) → List ℕ → Place
start_of shelved parcel = record { passed = 0; ahead = parcel; nodes = 0; buffers = shelved }

abbrev pub parcel_read : List (List ℕ) → List ℕ → Outcome Found
parcel_read shelved parcel = (node_read (length shelved) most_levels free >>= λ f. at_end >> give f) (start_of shelved parcel)
