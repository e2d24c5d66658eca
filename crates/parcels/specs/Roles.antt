-- What a node is to its parent, and what is asked of it, by what its format means.
use Rattle.std.specs.Prelude.{ℕ, Bool, true, false, not, ◌&&◌, [], length, ◌==◌, nat_le, nat_lt}
use Rattle.columns.specs.Kinds.{is_run_ended}
use Rattle.columns.specs.Heads.{roles, ends_for, map_entries, free}
use Rattle.columns.specs.Heads as rules
use Rattle.formats.specs.Spelled.{Meaning}
use Rattle.parcels.specs.declared.draft.Role.{Role}
use Rattle.parcels.specs.declared.draft.Role.TheVariants.{Ends, Entries, Free}

abbrev pub role_of : Role → rules.Role
role_of (Ends rows) = ends_for rows
role_of Entries = map_entries
role_of Free = free

abbrev pub free_role : rules.Role
free_role = free

-- the roles of a node's children go by its child count and rows
abbrev pub head_with : ℕ → ℕ → rules.Head
head_with children rows = record { masked = false; format = []; label = 0; child_count = children; rows = rows }

abbrev pub role_meant : rules.Role → Meaning → Bool → ℕ → Bool
role_meant (ends_for rows) m masked children = m.ends && not masked
role_meant map_entries m masked children = m.struct && children == 2
role_meant free m masked children = true

abbrev pub allowed_meant : (levels : ℕ) → rules.Role → Meaning → Bool → ℕ → ℕ → (nodes : ℕ) → Bool
allowed_meant levels role m masked children rows nodes =
    (children == length (roles m.kind (head_with children rows))) && not (is_run_ended m.kind && masked) && role_meant role m masked children
    && nat_le rows 1048576 && nat_le nodes 256 && nat_lt 0 levels
