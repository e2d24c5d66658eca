-- What a format string says, and the same found from the front, letter by letter.
use Rattle.std.specs.Prelude.{ℕ, ◌+◌, ◌-◌, ◌*◌, Bool, true, false, cond, List, [], ◌∷◌, drop, Some, None, codes, Option, ◌==◌, nat_le}
use Rattle.std.proofs.Math.Option as math
use Rattle.columns.specs.Kinds.{Kind, primitive, boolean, strings, views, lists, maps, structs, run_ended, fixed_lists, unknown}
use Rattle.columns.specs.Format.{kind_of, offset_bytes, ends_format, same_bytes, begins, decimal}
use Rattle.formats.specs.declared.format.Width.{Width}
use Rattle.formats.specs.declared.format.Width.TheVariants.{One, Two, Four, Eight}
use Rattle.formats.specs.declared.format.Family.{Family}
use Rattle.formats.specs.declared.format.Family.TheVariants.{Signed, Unsigned, Float, Date, Time, Duration, Interval}
use Rattle.formats.specs.declared.format.Tick.{Tick}
use Rattle.formats.specs.declared.format.Tick.TheVariants.{Second, Milli, Micro, Nano}
use Rattle.formats.specs.declared.format.Format.{Format}
use Rattle.formats.specs.declared.format.Format.TheVariants.{Primitive, Timestamp, Boolean, Text, View, Map, Struct, RunEnds, FixedList}
use Rattle.formats.specs.declared.format.Format.TheVariants.{List as ListOf}

abbrev pub digit_of : ℕ → Option ℕ
digit_of c = cond (nat_le 48 c) (cond (nat_le c 57) (Some (c - 48)) None) None

abbrev pub capped : ℕ → Option ℕ
capped n = cond (nat_le n 2147483647) (Some n) None

abbrev pub lifted : {A : Type 0} → math.Option A → Option A
lifted math.none = None
lifted (math.some x) = Some x

abbrev pub then : {A B : Type 0} → Option A → (A → Option B) → Option B
then None f = None
then (Some x) f = f x

abbrev pub digits_from : List ℕ → ℕ → Option ℕ
digits_from [] n = Some n
digits_from (c ∷ cs) n = then (digit_of c) (λ d. then (capped (10 * n + d)) (digits_from cs))

-- What a format string says: its kind, the bytes of its offsets, whether it spells run ends, whether it is a struct's,
-- and a timestamp's zone.
pub record Meaning : Type 0 where
  pub kind : Kind
  pub offset : ℕ
  pub ends : Bool
  pub struct : Bool
  pub zone : List ℕ

abbrev pub stamps : List (List ℕ)
stamps = codes "tss:" ∷ codes "tsm:" ∷ codes "tsu:" ∷ codes "tsn:" ∷ []

abbrev pub told : List ℕ → Meaning
told f = record { kind = kind_of f; offset = offset_bytes f; ends = ends_format f; struct = same_bytes (codes "+s") f; zone = cond (begins stamps f) (drop 4 f) [] }

abbrev pub simple : Kind → ℕ → Meaning
simple K w = record { kind = K; offset = w; ends = false; struct = false; zone = [] }

abbrev pub none_meant : Meaning
none_meant = simple unknown 4

abbrev pub bytes_of : Width → ℕ
bytes_of One = 1
bytes_of Two = 2
bytes_of Four = 4
bytes_of Eight = 8

abbrev pub above_one : Width → Bool
above_one One = false
above_one Two = true
above_one Four = true
above_one Eight = true

-- run ends are signed, and of 16 bits or more
abbrev pub can_end : Family → Width → Bool
can_end Signed w = above_one w
can_end Unsigned w = false
can_end Float w = false
can_end Date w = false
can_end Time w = false
can_end Duration w = false
can_end Interval w = false

abbrev pub prim_meant : Family → Width → Meaning
prim_meant f w = record { kind = primitive (bytes_of w); offset = 4; ends = can_end f w; struct = false; zone = [] }

abbrev pub stamp_meant : List ℕ → Meaning
stamp_meant z = record { kind = primitive 8; offset = 4; ends = false; struct = false; zone = z }

abbrev pub struct_meant : Meaning
struct_meant = record { kind = structs; offset = 4; ends = false; struct = true; zone = [] }

abbrev pub wide_bytes : Bool → ℕ
wide_bytes true = 8
wide_bytes false = 4

abbrev pub format_meant : Format → Meaning
format_meant (Primitive f w) = prim_meant f w
format_meant (Timestamp u z) = stamp_meant z.now
format_meant Boolean = simple boolean 4
format_meant (Text wide) = simple strings (wide_bytes wide)
format_meant View = simple views 4
format_meant (ListOf wide) = simple lists (wide_bytes wide)
format_meant Map = simple maps 4
format_meant Struct = struct_meant
format_meant RunEnds = simple run_ended 4
format_meant (FixedList n) = simple (fixed_lists n) 4

abbrev pub meant : Option Format → Meaning
meant None = none_meant
meant (Some f) = format_meant f

abbrev pub plain_of : ℕ → Option (Family × Width)
plain_of c =
    cond (c == 99) (Some (Signed, One)) (cond (c == 67) (Some (Unsigned, One))
    (cond (c == 115) (Some (Signed, Two)) (cond (c == 83) (Some (Unsigned, Two)) (cond (c == 101) (Some (Float, Two))
    (cond (c == 105) (Some (Signed, Four)) (cond (c == 73) (Some (Unsigned, Four)) (cond (c == 102) (Some (Float, Four))
    (cond (c == 108) (Some (Signed, Eight)) (cond (c == 76) (Some (Unsigned, Eight)) (cond (c == 103) (Some (Float, Eight)) None))))))))))

abbrev pub tick_of : ℕ → Option Tick
tick_of c =
    cond (c == 115) (Some Second) (cond (c == 109) (Some Milli) (cond (c == 117) (Some Micro) (cond (c == 110) (Some Nano) None)))

abbrev pub clock_of : Tick → Width
clock_of Second = Four
clock_of Milli = Four
clock_of Micro = Eight
clock_of Nano = Eight

abbrev pub timed_of : ℕ → ℕ → Option (Family × Width)
timed_of f u =
    cond (f == 100) (cond (u == 68) (Some (Date, Four)) (cond (u == 109) (Some (Date, Eight)) None))
    (cond (f == 105) (cond (u == 77) (Some (Interval, Four)) (cond (u == 68) (Some (Interval, Eight)) None))
    (cond (f == 116) (then (tick_of u) (λ t. Some (Time, clock_of t)))
    (cond (f == 68) (then (tick_of u) (λ t. Some (Duration, Eight))) None)))

abbrev pub prim_of : Option (Family × Width) → Meaning
prim_of None = none_meant
prim_of (Some p) = prim_meant p.0 p.1

abbrev pub one_char : ℕ → Meaning
one_char c =
    cond (c == 98) (simple boolean 4) (cond (c == 117) (simple strings 4) (cond (c == 122) (simple strings 4)
    (cond (c == 85) (simple strings 8) (cond (c == 90) (simple strings 8) (prim_of (plain_of c))))))

abbrev pub two_chars : ℕ → ℕ → Meaning
two_chars a b =
    cond (a == 118) (cond (b == 117) (simple views 4) (cond (b == 122) (simple views 4) none_meant))
    (cond (a == 43)
    (cond (b == 108) (simple lists 4) (cond (b == 76) (simple lists 8) (cond (b == 109) (simple maps 4)
    (cond (b == 115) struct_meant (cond (b == 114) (simple run_ended 4) none_meant)))))
    none_meant)

abbrev pub stamp_of : Option Tick → List ℕ → Meaning
stamp_of None z = none_meant
stamp_of (Some t) z = stamp_meant z

abbrev pub fixed_of : Option ℕ → Meaning
fixed_of None = none_meant
fixed_of (Some n) = simple (fixed_lists n) 4

abbrev pub sized_or : ℕ → ℕ → ℕ → List ℕ → Meaning → Meaning
sized_or a b c digits other =
    cond (a == 43) (cond (b == 119) (cond (c == 58) (fixed_of (lifted (decimal digits))) other) other) other

abbrev pub spelled : List ℕ → Meaning
spelled [] = none_meant
spelled (a ∷ []) = one_char a
spelled (a ∷ b ∷ []) = two_chars a b
spelled (a ∷ b ∷ c ∷ []) = sized_or a b c [] (cond (a == 116) (prim_of (timed_of b c)) none_meant)
spelled (a ∷ b ∷ c ∷ d ∷ rest) =
    cond (a == 116) (cond (b == 115) (cond (d == 58) (stamp_of (tick_of c) rest) none_meant) none_meant) (sized_or a b c (d ∷ rest) none_meant)
