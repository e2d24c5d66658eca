-- What drafted nodes say of a column: its nodes in parcel order, and the checks that wait until the parcel is read.
use Rattle.std.specs.Prelude.{◌≡◌, ℕ, ◌+◌, ◌*◌, ◌<◌, ◌≤◌, Bool, true, false, cond, ◌&&◌, List, [], ◌∷◌, ◌++◌, length, take, ◌==◌, nat_eq, nat_lt, slice_index}
use Rattle.std.specs.List.{between, AllByRecursion}
use Rattle.columns.specs.Checks.{Check, unless, first_failing, all_of}
use Rattle.columns.specs.Kinds.{Kind, primitive, boolean, strings, views, lists, maps, structs, run_ended, fixed_lists, unknown}
use Rattle.columns.specs.Format.{kind_of, offset_bytes}
use Rattle.columns.specs.Column.{Node, Column, Columns, column, end, ◌&◌, rows_of, width}
use Rattle.columns.specs.Says.{span}
use Rattle.columns.specs.Reading.{Outcome, denied, reached, each_of}
use Rattle.columns.specs.Sent.{Data, data_buffer}
use Rattle.columns.specs.Parcel.{Found, node_read, named_before}
use Rattle.columns.specs.Contents.{node_from}
use Rattle.columns.specs.SoundTests.{fills, role_sound, offsets_sound, view_sound}
use Rattle.columns.specs.Parcel as rules
use Rattle.columns.specs.Reading as rules_reading
use Rattle.columns.specs.Heads as rules_heads
use Rattle.columns.specs.Sent as rules_sent
use Rattle.parcels.specs.declared.draft.Place.{Place}
use Rattle.parcels.specs.declared.draft.Below.{Below}
use Rattle.parcels.specs.declared.draft.Draft.{Draft}
use Rattle.parcels.specs.Reads.{placed, head_of, sent_of, Inside, Within}
use Rattle.parcels.specs.Roles.{role_of}
use Rattle.columns.specs.Limits.{most_rows}
use Rattle.parcels.specs.Lent.{readable}
use Rattle.formats.specs.Kinds.{layout, offset_width}

abbrev pub below_more : Below → ℕ → ℕ → ℕ → Below
below_more b k rows own =
    record { first = cond (k == 0) rows b.first; second = cond (k == 1) rows b.second; alike = b.alike && (rows == own) }

-- what the children's rows come to, for a node of `own` rows
abbrev pub below_of : ℕ → List ℕ → Below
below_of own rs = record { first = slice_index rs 0; second = slice_index rs 1; alike = all_of (λ r. nat_eq r own) rs }

-- the data buffers of the draft with this number, read at their place, and the buffers that there are after them
abbrev pub lent_read : List ℕ → List (List ℕ) → (number : ℕ) → Draft → Outcome (List Data)
lent_read parcel bs number d =
    each_of (λ (i : ℕ). data_buffer) (span 0 d.parts.lent.len) (placed parcel (record { at = d.parts.lent.start; nodes = number + 1; brought = 0 }) bs)

abbrev pub given_in : {A : Type 0} → A → Outcome A → A
given_in a (denied d) = a
given_in a (reached x p) = x

abbrev pub buffers_in : {A : Type 0} → List (List ℕ) → Outcome A → List (List ℕ)
buffers_in bs (denied d) = bs
buffers_in bs (reached x p) = p.buffers

abbrev pub lent_of : List ℕ → List (List ℕ) → ℕ → Draft → List Data
lent_of parcel bs number d = given_in [] (lent_read parcel bs number d)

abbrev pub held_after : List ℕ → List (List ℕ) → ℕ → Draft → List (List ℕ)
held_after parcel bs number d = buffers_in bs (lent_read parcel bs number d)

abbrev pub head_in : List ℕ → Draft → rules_heads.Head
head_in parcel d = head_of parcel d.head

abbrev pub kind_in : List ℕ → Draft → Kind
kind_in parcel d = kind_of (head_in parcel d).format

abbrev pub node_in : List ℕ → Draft → List Data → Node
node_in parcel d ds = node_from (kind_in parcel d) (head_in parcel d) (sent_of parcel d.parts ds)

-- sound, by what the children come to
abbrev pub kind_sound_by : List (List ℕ) → Kind → Node → Below → Bool
kind_sound_by shelved (primitive w) n b = true
kind_sound_by shelved boolean n b = true
kind_sound_by shelved strings n b = offsets_sound (offset_bytes n.format) n.offsets (length n.text)
kind_sound_by shelved views n b = all_of (view_sound shelved n.buffers) n.views
kind_sound_by shelved lists n b = offsets_sound (offset_bytes n.format) n.offsets b.first
kind_sound_by shelved maps n b = offsets_sound (offset_bytes n.format) n.offsets b.first
kind_sound_by shelved structs n b = b.alike
kind_sound_by shelved run_ended n b = b.second == b.first
kind_sound_by shelved (fixed_lists N) n b = b.first == n.rows * N
kind_sound_by shelved unknown n b = false

abbrev pub sound_by : rules_heads.Role → Kind → rules_heads.Head → rules_sent.Sent → Node → Below → List (List ℕ) → Bool
sound_by role K h s n b shelved = fills K h s && role_sound role n && kind_sound_by shelved K n b

-- the checks of a draft, by its data buffers and the buffers that there are after them
abbrev pub checks_in : List ℕ → (before number : ℕ) → Draft → List Data → List (List ℕ) → List Check
checks_in parcel before number d ds held =
    (12, first_failing (λ b. nat_lt b before) (named_before before ds))
    ∷ (4, unless (sound_by (role_of d.role) (kind_in parcel d) (head_in parcel d) (sent_of parcel d.parts ds) (node_in parcel d ds) d.below held) number) ∷ []

-- of drafts in a row: the checks, the nodes with their child counts, the buffers after them
unfoldable pub checks_of : List ℕ → (before : ℕ) → List (List ℕ) → (number : ℕ) → List Draft → List Check
checks_of parcel before bs number [] = []
checks_of parcel before bs number (d ∷ ds) =
    checks_in parcel before number d (lent_of parcel bs number d) (held_after parcel bs number d) ++ checks_of parcel before (held_after parcel bs number d) (number + 1) ds

unfoldable pub nodes_of : List ℕ → List (List ℕ) → (number : ℕ) → List Draft → List (Node × ℕ)
nodes_of parcel bs number [] = []
nodes_of parcel bs number (d ∷ ds) = (node_in parcel d (lent_of parcel bs number d), d.head.children) ∷ nodes_of parcel (held_after parcel bs number d) (number + 1) ds

unfoldable pub held_of : List ℕ → List (List ℕ) → (number : ℕ) → List Draft → List (List ℕ)
held_of parcel bs number [] = bs
held_of parcel bs number (d ∷ ds) = held_of parcel (held_after parcel bs number d) (number + 1) ds

abbrev pub is_reached : {A : Type 0} → Outcome A → Bool
is_reached (denied d) = false
is_reached (reached x p) = true

-- each draft's data buffers can be read
unfoldable pub all_read : List ℕ → List (List ℕ) → (number : ℕ) → List Draft → Bool
all_read parcel bs number [] = true
all_read parcel bs number (d ∷ ds) = is_reached (lent_read parcel bs number d) && all_read parcel (held_after parcel bs number d) (number + 1) ds

-- a draft's parts and data buffers lie in the parcel, its kind is what its format spells, and its rows are within the limit
pub record Drafted (parcel : List ℕ) (d : Draft) : Type 0 where
  pub parts : Inside parcel d.parts
  pub head : Within parcel d.head.format
  pub name : d.head.format.len < 128
  pub rows : d.head.rows ≤ most_rows
  pub lent : readable parcel d.parts.lent.start d.parts.lent.len ≡ true
  pub layout : layout d.kind ≡ kind_in parcel d
  pub offsets : offset_width d.kind ≡ offset_bytes (head_in parcel d).format

-- a column's nodes, each before its children, with its child count
unfoldable mutual
  pub preorder : Column → List (Node × ℕ)
  preorder (column n cs) = (n, width cs) ∷ preorders cs

  pub preorders : Columns → List (Node × ℕ)
  preorders end = []
  preorders (c & cs) = preorder c ++ preorders cs

-- the drafts from a on, up to b, are what the reading found
pub record Traced (parcel : List ℕ) (before : ℕ) (bs : List (List ℕ)) (number : ℕ) (ds : List Draft) (checks : List Check) (nodes : List (Node × ℕ)) (after : List (List ℕ)) : Type 0 where
  pub checked : checks ≡ checks_of parcel before bs number ds
  pub listed : nodes ≡ nodes_of parcel bs number ds
  pub held : after ≡ held_of parcel bs number ds
  pub read : all_read parcel bs number ds ≡ true

pub record FoundAs (parcel : List ℕ) (before : ℕ) (p : Place) (bs : List (List ℕ)) (levels : ℕ) (role : rules_heads.Role) (rows : ℕ) (q : Place) (drafts : List Draft) : Type 0 where
  pub f : Found
  pub after : List (List ℕ)
  pub is : node_read before levels role (placed parcel p bs) ≡ reached f (placed parcel q after)
  pub counted : length after + p.brought ≡ length bs + q.brought
  pub same_rows : rows ≡ rows_of f.found
  pub traced : Traced parcel before bs p.nodes (between p.nodes q.nodes drafts) f.checks (preorder f.found) after

pub record FoundInside (parcel : List ℕ) (p q : Place) (old new : List Draft) : Type 0 where
  pub some : p.nodes < q.nodes
  pub few : q.nodes ≤ 256
  pub kept : take p.nodes new ≡ take p.nodes old
  pub good : AllByRecursion (Drafted parcel) (between p.nodes q.nodes new)

-- the parcel is read to its end, and the drafts are its nodes
pub record Outlined (shelved : List (List ℕ)) (parcel : List ℕ) (drafts : List Draft) : Type 0 where
  pub f : Found
  pub last : rules_reading.Place
  pub is : rules.parcel_read shelved parcel ≡ reached f last
  pub traced : Traced parcel (length shelved) shelved 0 drafts f.checks (preorder f.found) last.buffers
