-- The test of a node's soundness passes exactly when the node that was sent is sound.
use Rattle.std.specs.Prelude.{◌≡◌, ℕ, ◌*◌, ◌<◌, ◌≤◌, true, false, ◌&&◌, ◌↔◌, List, [], length, slice_index_or}
use Rattle.std.proofs.Math.Option.{Option, some, none}
use Rattle.columns.specs.Kinds.{Kind, primitive, boolean, strings, views, lists, maps, structs, run_ended, fixed_lists, unknown, width_of}
use Rattle.columns.specs.Format.{highest}
use Rattle.columns.specs.Column.{bytes_for, Node, Columns, first, nth, rows_of, kind, view_at}
use Rattle.columns.specs.Masks.{has_null}
use Rattle.columns.specs.Sound.{Offsets, Climbs, RowsAre, ViewSound}
use Rattle.columns.specs.Limits.{OffsetsFit}
use Rattle.columns.specs.Heads.{Head, Role, ends_for, map_entries, free}
use Rattle.columns.specs.Sent.{Sent}
use Rattle.columns.specs.Contents.{node_from}
use Rattle.columns.specs.SoundTests.{body_size, fills, role_sound, kind_sound}

-- What a child owes its parent.
abbrev pub Owed : Role → Node → Type 0
Owed (ends_for rows) n = Climbs 0 n.values rows × (rows ≤ highest (width_of (kind n)))
Owed map_entries n = has_null n ≡ false
Owed free n = Unit {0}

-- What is asked of a node's own buffers and of its children's rows.
abbrev pub Asked : (data_buffer : ℕ → List ℕ) → Kind → Node → Columns → Type 0
Asked D (primitive w) n cs = Unit {0}
Asked D boolean n cs = Unit {0}
Asked D strings n cs = Offsets n.offsets n.rows (length n.text) × OffsetsFit n
Asked D views n cs = (i : ℕ) → i < n.rows → ViewSound D n.buffers (view_at n i)
Asked D lists n cs = Offsets n.offsets n.rows (rows_of (first cs)) × OffsetsFit n
Asked D maps n cs = Offsets n.offsets n.rows (rows_of (first cs)) × OffsetsFit n
Asked D structs n cs = RowsAre n.rows cs
Asked D run_ended n cs = rows_of (nth cs 1) ≡ rows_of (first cs)
Asked D (fixed_lists N) n cs = rows_of (first cs) ≡ n.rows * N
Asked D unknown n cs = ⊥

abbrev pub MaskExact : (rows : ℕ) → Option (List ℕ) → Type 0
MaskExact rows none = Unit {0}
MaskExact rows (some bytes) = length bytes ≡ bytes_for rows

-- Besides, mask and first buffer are exactly as long as the rows want.
pub record SentWell (shelved : List (List ℕ)) (role : Role) (K : Kind) (h : Head) (s : Sent) (cs : Columns) : Type 0 where
  pub mask_fills : MaskExact h.rows s.mask
  pub body_fills : length s.body ≡ body_size K h
  pub owed : Owed role (node_from K h s)
  pub asked : Asked (λ b. slice_index_or shelved b []) K (node_from K h s) cs

abbrev pub SoundnessTestIsExact : Type 0
SoundnessTestIsExact =
    (shelved : List (List ℕ)) (role : Role) (K : Kind) (h : Head) (s : Sent) (cs : Columns) →
    ((fills K h s && role_sound role (node_from K h s) && kind_sound shelved K (node_from K h s) cs) ≡ true) ↔ SentWell shelved role K h s cs
