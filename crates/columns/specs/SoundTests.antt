-- The tests of whether a node of a parcel is sound.
use Rattle.std.specs.Prelude.{ℕ, ◌+◌, ◌-◌, ◌*◌, ◌^◌, Bool, true, false, not, ◌&&◌, List, [], ◌∷◌, length, ◌==◌, nat_le, nat_lt, slice_index, slice_index_or}
use Rattle.std.proofs.Math.Option.{Option, some, none}
use Rattle.columns.specs.Kinds.{Kind, primitive, boolean, strings, views, lists, maps, structs, run_ended, fixed_lists, unknown, width_of}
use Rattle.columns.specs.Format.{offset_bytes, highest}
use Rattle.columns.specs.Column.{View, short, long, bytes_for, Node, Columns, end, ◌&◌, first, nth, rows_of, kind}
use Rattle.columns.specs.Masks.{has_null}
use Rattle.columns.specs.Says.{slice}
use Rattle.columns.specs.Sound.{little_endian}
use Rattle.columns.specs.Checks.{all_of}
use Rattle.columns.specs.Heads.{Head, Role, ends_for, map_entries, free}
use Rattle.columns.specs.Sent.{Sent}

-- Masks, booleans, values, views and rows + 1 offsets fill their buffers exactly.
abbrev pub mask_fills : ℕ → Option (List ℕ) → Bool
mask_fills n none = true
mask_fills n (some bytes) = length bytes == bytes_for n

abbrev pub body_size : Kind → Head → ℕ
body_size (primitive w) h = w * h.rows
body_size boolean h = bytes_for h.rows
body_size strings h = offset_bytes h.format * (h.rows + 1)
body_size views h = 16 * h.rows
body_size lists h = offset_bytes h.format * (h.rows + 1)
body_size maps h = offset_bytes h.format * (h.rows + 1)
body_size structs h = 0
body_size run_ended h = 0
body_size (fixed_lists N) h = 0
body_size unknown h = 0

abbrev pub never_fall : ℕ → List ℕ → Bool
never_fall low [] = true
never_fall low (o ∷ os) = nat_le low o && never_fall o os

abbrev pub last_of : ℕ → List ℕ → ℕ
last_of x [] = x
last_of x (y ∷ ys) = last_of y ys

-- Offsets are signed, so that one of 2 ^ 31, or of 2 ^ 63, is below 0.
abbrev pub offsets_sound : (w : ℕ) → List ℕ → ℕ → Bool
offsets_sound w os bound = never_fall 0 os && nat_le (last_of 0 os) bound && nat_lt (last_of 0 os) (2 ^ (8 * w - 1))

-- strictly upwards from above `low`, the last being `top`
abbrev pub climbs : ℕ → List ℕ → ℕ → Bool
climbs low [] top = low == top
climbs low (e ∷ es) top = nat_lt low e && climbs e es top

-- What a child owes its parent: run ends climb to the parent's rows and fit their signed width; a map's child has no null.
abbrev pub role_sound : Role → Node → Bool
role_sound (ends_for rows) n = climbs 0 n.values rows && nat_le rows (highest (width_of (kind n)))
role_sound map_entries n = not (has_null n)
role_sound free n = true

abbrev pub rows_are : ℕ → Columns → Bool
rows_are r end = true
rows_are r (c & cs) = rows_of c == r && rows_are r cs

abbrev pub view_sound : List (List ℕ) → List ℕ → View → Bool
view_sound shelved buffers (short len inline) = true
view_sound shelved buffers (long len prefix position offset) =
    let bytes : List ℕ = slice_index_or shelved (slice_index buffers position) [] in
    nat_lt position (length buffers) && nat_le (offset + len) (length bytes) && prefix == little_endian (slice bytes offset 4)

abbrev pub kind_sound : List (List ℕ) → Kind → Node → Columns → Bool
kind_sound shelved (primitive w) n cs = true
kind_sound shelved boolean n cs = true
kind_sound shelved strings n cs = offsets_sound (offset_bytes n.format) n.offsets (length n.text)
kind_sound shelved views n cs = all_of (view_sound shelved n.buffers) n.views
kind_sound shelved lists n cs = offsets_sound (offset_bytes n.format) n.offsets (rows_of (first cs))
kind_sound shelved maps n cs = offsets_sound (offset_bytes n.format) n.offsets (rows_of (first cs))
kind_sound shelved structs n cs = rows_are n.rows cs
kind_sound shelved run_ended n cs = rows_of (nth cs 1) == rows_of (first cs)
kind_sound shelved (fixed_lists N) n cs = rows_of (first cs) == n.rows * N
kind_sound shelved unknown n cs = false

abbrev pub fills : Kind → Head → Sent → Bool
fills K h s = mask_fills h.rows s.mask && length s.body == body_size K h
