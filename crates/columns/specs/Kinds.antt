-- The kinds of nodes, and what each kind has.
use Rattle.std.specs.Prelude.{ℕ, Bool, true, false}

pub data Kind : Type 0 where
  primitive : (width : ℕ) → Kind
  boolean : Kind
  strings : Kind
  views : Kind
  lists : Kind
  maps : Kind
  structs : Kind
  run_ended : Kind
  fixed_lists : (size : ℕ) → Kind
  unknown : Kind

abbrev pub is_known : Kind → Bool
is_known (primitive w) = true
is_known boolean = true
is_known strings = true
is_known views = true
is_known lists = true
is_known maps = true
is_known structs = true
is_known run_ended = true
is_known (fixed_lists N) = true
is_known unknown = false

-- the width of a value, in bytes
abbrev pub width_of : Kind → ℕ
width_of (primitive w) = w
width_of boolean = 0
width_of strings = 0
width_of views = 0
width_of lists = 0
width_of maps = 0
width_of structs = 0
width_of run_ended = 0
width_of (fixed_lists N) = 0
width_of unknown = 0

abbrev pub is_primitive : Kind → Bool
is_primitive (primitive w) = true
is_primitive boolean = false
is_primitive strings = false
is_primitive views = false
is_primitive lists = false
is_primitive maps = false
is_primitive structs = false
is_primitive run_ended = false
is_primitive (fixed_lists N) = false
is_primitive unknown = false

abbrev pub is_run_ended : Kind → Bool
is_run_ended (primitive w) = false
is_run_ended boolean = false
is_run_ended strings = false
is_run_ended views = false
is_run_ended lists = false
is_run_ended maps = false
is_run_ended structs = false
is_run_ended run_ended = true
is_run_ended (fixed_lists N) = false
is_run_ended unknown = false

-- lists and fixed-size lists, whose primitive child has a mask of its own rule
abbrev pub is_list : Kind → Bool
is_list (primitive w) = false
is_list boolean = false
is_list strings = false
is_list views = false
is_list lists = true
is_list maps = false
is_list structs = false
is_list run_ended = false
is_list (fixed_lists N) = true
is_list unknown = false

abbrev pub has_offsets : Kind → Bool
has_offsets (primitive w) = false
has_offsets boolean = false
has_offsets strings = true
has_offsets views = false
has_offsets lists = true
has_offsets maps = true
has_offsets structs = false
has_offsets run_ended = false
has_offsets (fixed_lists N) = false
has_offsets unknown = false
