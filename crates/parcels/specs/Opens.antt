-- A node's reading, split where its children begin.
use Rattle.std.specs.Prelude.{◌≡◌, ℕ, ◌+◌, ◌-◌, ◌<◌, ◌≤◌, List, length}
use Rattle.columns.specs.Format.{kind_of}
use Rattle.columns.specs.Limits.{most_rows}
use Rattle.columns.specs.Reading.{onward, Reading, give, each_of}
use Rattle.columns.specs.Sent.{Data}
use Rattle.columns.specs.Parcel.{Found, found_node, node_read}
use Rattle.columns.specs.Heads.{roles}
use Rattle.columns.specs.Heads as rules_heads
use Rattle.columns.specs.Sent as rules_sent
use Rattle.parcels.specs.declared.draft.Place.{Place}
use Rattle.parcels.specs.declared.begin.Opened.{Opened}
use Rattle.parcels.specs.Reads.{placed, within, head_of, sent_of, Listed, Inside, Within}
use Rattle.formats.specs.Spelled.{format_meant, told}

-- the children, and then the node as found
abbrev pub kids_read : (before levels : ℕ) → rules_heads.Role → rules_heads.Head → rules_sent.Sent → Reading Found
kids_read before levels role h s p =
    onward (each_of (node_read before levels) (roles (kind_of h.format) h) p) (λ kids. give (found_node before role (kind_of h.format) h s (p.nodes - 1) p.buffers kids))

pub record OpenedAs (parcel : List ℕ) (p : Place) (bs : List (List ℕ)) (levels : ℕ) (role : rules_heads.Role) (x : Opened) (q : Place) : Type 0 where
  pub ds : List Data
  pub after : List (List ℕ)
  pub is : (before : ℕ) → node_read before levels role (placed parcel p bs) ≡ kids_read before (levels - 1) role (head_of parcel x.head) (sent_of parcel x.parts ds) (placed parcel q after)
  pub listed : Listed parcel (record { at = x.parts.lent.start; nodes = q.nodes; brought = p.brought }) bs x.parts.lent.len ds q after
  pub counted : length after + p.brought ≡ length bs + q.brought

pub record OpenedInside (parcel : List ℕ) (p : Place) (levels : ℕ) (x : Opened) (q : Place) : Type 0 where
  pub parts : Inside parcel x.parts
  pub head : Within parcel x.head.format
  pub name : x.head.format.len < 128
  pub rows : x.head.rows ≤ most_rows
  pub nodes : q.nodes ≡ p.nodes + 1
  pub few : q.nodes ≤ 256
  pub deep : 0 < levels
  pub format : format_meant x.format ≡ told (within parcel x.head.format)
  pub children : x.head.children ≡ length (roles (kind_of (within parcel x.head.format)) (head_of parcel x.head))
