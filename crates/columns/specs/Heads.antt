-- A node's head, and which nodes are allowed where.
use Rattle.std.specs.Prelude.{ℕ, ◌%◌, Bool, true, not, ◌&&◌, List, [], ◌∷◌, length, replicate, codes, ◌==◌, nat_le, nat_lt, slice_index}
use Rattle.columns.specs.Kinds.{Kind, primitive, boolean, strings, views, lists, maps, structs, run_ended, fixed_lists, unknown, is_run_ended}
use Rattle.columns.specs.Format.{ends_format, same_bytes}
use Rattle.columns.specs.Says.{slice}
use Rattle.columns.specs.Limits.{most_rows, most_nodes}
use Rattle.columns.specs.Reading.{Reading, ◌>>=◌, give, must, item, big_endian}

-- A node's head: 64 bits, most significant first, and the format string.
pub record Head : Type 0 where
  pub masked : Bool
  pub format : List ℕ
  pub label : ℕ
  pub child_count : ℕ
  pub rows : ℕ

abbrev pub head_from : List ℕ → List ℕ → Head
head_from bits f =
    record { masked = nat_le 128 (slice_index bits 0); format = f; label = big_endian (slice bits 1 2); child_count = slice_index bits 3; rows = big_endian (slice bits 4 4) }

abbrev pub head : Reading Head
head = item (λ bytes. 8) >>= λ bits. item (λ bytes. slice_index bits 0 % 128) >>= λ f. give (head_from bits f)

-- What a node is to its parent: the run ends of a node of so many rows, the entries of a map, or anything else.
pub data Role : Type 0 where
  ends_for : (rows : ℕ) → Role
  map_entries : Role
  free : Role

abbrev pub roles : Kind → Head → List Role
roles (primitive w) h = []
roles boolean h = []
roles strings h = []
roles views h = []
roles lists h = free ∷ []
roles maps h = map_entries ∷ []
roles structs h = replicate h.child_count free
roles run_ended h = ends_for h.rows ∷ free ∷ []
roles (fixed_lists N) h = free ∷ []
roles unknown h = []

-- `+r` and its run ends have no mask, and these are `s`, `i` or `l`; a map's child is `+s` with two children.
abbrev pub role_allowed : Role → Head → Bool
role_allowed (ends_for rows) h = ends_format h.format && not h.masked
role_allowed map_entries h = same_bytes (codes "+s") h.format && h.child_count == 2
role_allowed free h = true

abbrev pub mask_allowed : Kind → Head → Bool
mask_allowed K h = not (is_run_ended K && h.masked)

-- the node that is begun last is one of 256 at most, and `levels` are left for it
abbrev pub allowed : (levels : ℕ) → Role → Kind → Head → (nodes : ℕ) → Bool
allowed levels role K h nodes =
    (h.child_count == length (roles K h)) && mask_allowed K h && role_allowed role h && nat_le h.rows most_rows && nat_le nodes most_nodes && nat_lt 0 levels

abbrev pub must_be_allowed : (levels : ℕ) → Role → Kind → Head → Reading Unit
must_be_allowed levels role K h p = must (allowed levels role K h p.nodes) 3 p
