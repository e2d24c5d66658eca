-- The checks that a parcel meets as it is read, in the order in which they are made.
use Rattle.std.specs.Prelude.{ℕ, zero, suc, ◌+◌, ◌-◌, ◌%◌, Bool, true, false, cond, List, [], ◌∷◌, ◌++◌, length, take, drop, ◌==◌, nat_le, slice_index}
use Rattle.columns.specs.Kinds.{Kind, is_known}
use Rattle.columns.specs.Format.{kind_of}
use Rattle.columns.specs.Limits.{most_levels}
use Rattle.columns.specs.Checks.{Check, unless}
use Rattle.columns.specs.Reading.{big_endian}
use Rattle.columns.specs.Heads.{Head, head_from, Role, free, roles, allowed}
use Rattle.columns.specs.Sent.{sends, buffer_length, is_named}

-- How far a parcel has been gone through: the bytes passed, the bytes ahead and the nodes begun.
pub record Spot : Type 0 where
  pub passed : ℕ
  pub ahead : List ℕ
  pub nodes : ℕ

-- A stretch of a parcel, from some spot on: its checks, and the spot where it ends, whether they pass or not.
abbrev pub Stretch : Type 0
Stretch = Spot → List Check × Spot

infixr 20 ◌and_then◌
abbrev pub ◌and_then◌ : Stretch → Stretch → Stretch
(v and_then w) x = ((v x).0 ++ (w (v x).1).0, (w (v x).1).1)

abbrev pub no_stretch : Stretch
no_stretch x = ([], x)

-- an item of n bytes: the parcel does not end inside it
abbrev pub item_order : (n : ℕ) → Stretch
item_order n x = ((1, unless (nat_le n (length x.ahead)) x.passed) ∷ [], record { passed = x.passed + n; ahead = drop n x.ahead; nodes = x.nodes })

-- something that holds of the node begun last
abbrev pub node_check : (number : ℕ) → (Spot → Bool) → Stretch
node_check number holds x = ((number, unless (holds x) (x.nodes - 1)) ∷ [], x)

abbrev pub next_node : Stretch
next_node x = ([], record { passed = x.passed; ahead = x.ahead; nodes = suc x.nodes })

-- buffers with their lengths, if there are such; a count, and so many data buffers
abbrev pub buffer_order : Bool → Stretch
buffer_order true x = item_order (4 + buffer_length x.ahead) x
buffer_order false x = no_stretch x

abbrev pub data_buffer_order : Stretch
data_buffer_order x = item_order (cond (is_named x.ahead) 4 (4 + buffer_length x.ahead)) x

abbrev pub times : ℕ → Stretch → Stretch
times zero v = no_stretch
times (suc n) v = v and_then times n v

abbrev pub data_order : Bool → Stretch
data_order true x = (item_order 2 and_then times (big_endian (take 2 x.ahead)) data_buffer_order) x
data_order false x = no_stretch x

abbrev pub buffers_order : Kind → Head → Stretch
buffers_order K h = buffer_order h.masked and_then buffer_order (sends K).0 and_then buffer_order (sends K).1 and_then data_order (sends K).2

-- the head that stands ahead, and the length of its format string
abbrev pub format_length : Spot → ℕ
format_length x = slice_index (take 8 x.ahead) 0 % 128

abbrev pub head_at : Spot → Head
head_at x = head_from (take 8 x.ahead) (take (format_length x) (drop 8 x.ahead))

-- header and format string
abbrev pub head_order : (format_bytes : ℕ) → Stretch
head_order format_bytes = item_order 8 and_then item_order format_bytes

abbrev pub each_order : (Role → Stretch) → List Role → Stretch
each_order v [] = no_stretch
each_order v (r ∷ rs) = v r and_then each_order v rs

-- A node: header and format string (1), format known (2), node allowed (3), buffers (1), children.
abbrev pub known_order : Head → Stretch
known_order h = node_check 2 (λ x. is_known (kind_of h.format))

abbrev pub allowed_order : (levels : ℕ) → Role → Head → Stretch
allowed_order levels role h = node_check 3 (λ x. allowed levels role (kind_of h.format) h x.nodes)

unfoldable pub node_order : (levels : ℕ) → Role → Stretch
node_order zero role x = (next_node and_then head_order (format_length x) and_then known_order (head_at x) and_then allowed_order zero role (head_at x)) x
node_order (suc levels) role x =
    (next_node and_then head_order (format_length x) and_then known_order (head_at x) and_then allowed_order (suc levels) role (head_at x)
    and_then buffers_order (kind_of (head_at x).format) (head_at x) and_then each_order (node_order levels) (roles (kind_of (head_at x).format) (head_at x))) x

-- no bytes are left
abbrev pub end_order : Stretch
end_order x = ((1, unless (length x.ahead == 0) x.passed) ∷ [], x)

abbrev pub parcel_order : List ℕ → List Check
parcel_order parcel = ((node_order most_levels free and_then end_order) (record { passed = 0; ahead = parcel; nodes = 0 })).0
