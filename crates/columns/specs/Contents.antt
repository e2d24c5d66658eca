-- What the sent bytes hold: bits, numbers and views.
use Rattle.std.specs.Prelude.{ℕ, ◌+◌, ◌*◌, ◌/◌, ◌%◌, ◌^◌, Bool, List, [], map, length, drop, ◌==◌, slice_index}
use Rattle.std.proofs.Math.Option.{Option, some, none}
use Rattle.columns.specs.Kinds.{Kind, primitive, boolean, strings, views, lists, maps, structs, run_ended, fixed_lists, unknown}
use Rattle.columns.specs.Format.{offset_bytes}
use Rattle.columns.specs.Column.{View, view_of, Buffers, only_values, only_bits, only_offsets, offsets_into, views_into, no_buffers, Node, node_with}
use Rattle.columns.specs.Says.{span, slice}
use Rattle.columns.specs.Sound.{little_endian}
use Rattle.columns.specs.Heads.{Head}
use Rattle.columns.specs.Sent.{Sent, number_of}

-- Bit i is bit i mod 8 of byte i / 8, the lowest first; value i is w bytes from w * i on, the lowest first.
abbrev pub bit_at : List ℕ → ℕ → Bool
bit_at bytes i = slice_index bytes (i / 8) / 2 ^ (i % 8) % 2 == 1

abbrev pub bits_in : ℕ → List ℕ → List Bool
bits_in n bytes = map (bit_at bytes) (span 0 n)

abbrev pub value_at : (w : ℕ) → List ℕ → ℕ → ℕ
value_at w bytes i = little_endian (slice bytes (w * i) w)

abbrev pub values_in : (w n : ℕ) → List ℕ → List ℕ
values_in w n bytes = map (value_at w bytes) (span 0 n)

abbrev pub view_in : List ℕ → View
view_in v = view_of (value_at 4 v 0) (value_at 4 v 1) (value_at 4 v 2) (value_at 4 v 3) (drop 4 v)

abbrev pub views_in : ℕ → List ℕ → List View
views_in n bytes = map (λ i. view_in (slice bytes (16 * i) 16)) (span 0 n)

abbrev pub mask_in : ℕ → Option (List ℕ) → Option (List Bool)
mask_in n none = none
mask_in n (some bytes) = some (bits_in n bytes)

-- the bits of the bytes past the first n
abbrev pub spare_in : ℕ → List ℕ → List Bool
spare_in n bytes = drop n (bits_in (8 * length bytes) bytes)

abbrev pub mask_spare_in : ℕ → Option (List ℕ) → List Bool
mask_spare_in n none = []
mask_spare_in n (some bytes) = spare_in n bytes

-- what the node's own buffers hold
abbrev pub contents : Kind → Head → Sent → Buffers
contents (primitive w) h s = only_values (values_in w h.rows s.body)
contents boolean h s = only_bits (bits_in h.rows s.body) (spare_in h.rows s.body)
contents strings h s = offsets_into (values_in (offset_bytes h.format) (h.rows + 1) s.body) s.text
contents views h s = views_into (views_in h.rows s.body) (map number_of s.sent)
contents lists h s = only_offsets (values_in (offset_bytes h.format) (h.rows + 1) s.body)
contents maps h s = only_offsets (values_in (offset_bytes h.format) (h.rows + 1) s.body)
contents structs h s = no_buffers
contents run_ended h s = no_buffers
contents (fixed_lists N) h s = no_buffers
contents unknown h s = no_buffers

abbrev pub node_from : Kind → Head → Sent → Node
node_from K h s = node_with h.format h.label h.rows (mask_in h.rows s.mask) (mask_spare_in h.rows s.mask) (contents K h s)
