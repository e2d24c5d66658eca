-- The bytes of a kind's first buffer, by the width of its offsets and its rows.
use Rattle.std.specs.Prelude.{◌≡◌, ℕ, ◌+◌, ◌*◌, Bool, false, List, Some, None, Option}
use Rattle.columns.specs.Kinds.{Kind, primitive, boolean, strings, views, lists, maps, structs, run_ended, fixed_lists, unknown}
use Rattle.columns.specs.Column.{bytes_for}
use Rattle.std.proofs.Math.Option as math
use Rattle.columns.specs.Masks.{some_null}
use Rattle.columns.specs.Contents.{bits_in}
use Rattle.pools.specs.declared.records.Part.{Part}
use Rattle.formats.specs.Kinds.{layout, offset_width}
use Rattle.parcels.specs.declared.draft.Draft.{Draft}

abbrev pub body_by : Kind → (offset rows : ℕ) → ℕ
body_by (primitive w) o rows = w * rows
body_by boolean o rows = bytes_for rows
body_by strings o rows = o * (rows + 1)
body_by views o rows = 16 * rows
body_by lists o rows = o * (rows + 1)
body_by maps o rows = o * (rows + 1)
body_by structs o rows = 0
body_by run_ended o rows = 0
body_by (fixed_lists N) o rows = 0
body_by unknown o rows = 0

-- the mask, if there is one, has a bit for each row
abbrev pub MaskFilled : (rows : ℕ) → Option Part → Type 0
MaskFilled rows None = Unit {0}
MaskFilled rows (Some p) = p.len ≡ bytes_for rows

-- the mask and the first buffer have exactly the bytes that the rows take
pub record Filled (d : Draft) : Type 0 where
  pub mask : MaskFilled d.head.rows d.parts.mask
  pub body : d.parts.body.len ≡ body_by (layout d.kind) (offset_width d.kind) d.head.rows

-- a row is null by its mask
abbrev pub null_in : (rows : ℕ) → math.Option (List ℕ) → Bool
null_in rows math.none = false
null_in rows (math.some bytes) = some_null (bits_in rows bytes)
