-- The buffers that a node sends.
use Rattle.std.specs.Prelude.{ℕ, ◌+◌, ◌-◌, ◌^◌, Bool, true, false, cond, List, [], ◌∷◌, ◌++◌, length, take, drop, nat_le}
use Rattle.std.proofs.Math.Option.{Option, some, none}
use Rattle.columns.specs.Kinds.{Kind, primitive, boolean, strings, views, lists, maps, structs, run_ended, fixed_lists, unknown}
use Rattle.columns.specs.Says.{span}
use Rattle.columns.specs.Reading.{Reading, reached, ◌>>=◌, give, item, each_of, big_endian}
use Rattle.columns.specs.Heads.{Head}

-- A buffer follows its byte length, 32 bits.
abbrev pub buffer_length : List ℕ → ℕ
buffer_length bytes = big_endian (take 4 bytes)

abbrev pub buffer : Reading (List ℕ)
buffer = item (λ bytes. 4 + buffer_length bytes) >>= λ b. give (drop 4 b)

abbrev pub buffer_if : Bool → Reading (List ℕ)
buffer_if true = buffer
buffer_if false = give []

abbrev pub mask_if : Bool → Reading (Option (List ℕ))
mask_if true = buffer >>= λ b. give (some b)
mask_if false = give none

-- A data buffer is brought, and gets the next number, or is named: the length's top bit is set and its other bits are the number.
pub data Data : Type 0 where
  brought named : (number : ℕ) → Data

abbrev pub number_of : Data → ℕ
number_of (brought b) = b
number_of (named b) = b

abbrev pub is_named : List ℕ → Bool
is_named bytes = nat_le (2 ^ 31) (buffer_length bytes)

abbrev pub bring : List ℕ → Reading Data
bring bytes p = reached (brought (length p.buffers)) (record { passed = p.passed; ahead = p.ahead; nodes = p.nodes; buffers = p.buffers ++ bytes ∷ [] })

abbrev pub data_buffer_sent : List ℕ → Reading Data
data_buffer_sent b = cond (is_named b) (give (named (buffer_length b - 2 ^ 31))) (bring (drop 4 b))

abbrev pub data_buffer : Reading Data
data_buffer = item (λ bytes. cond (is_named bytes) 4 (4 + buffer_length bytes)) >>= data_buffer_sent

abbrev pub data_buffers : Bool → Reading (List Data)
data_buffers true = item (λ bytes. 2) >>= λ c. each_of (λ i. data_buffer) (span 0 (big_endian c))
data_buffers false = give []

-- The buffers of each kind, in order: mask, values or bits or offsets or views, text, data buffers.
pub record Sent : Type 0 where
  pub mask : Option (List ℕ)
  pub body : List ℕ
  pub text : List ℕ
  pub sent : List Data

-- whether a kind has a first buffer after its mask, a text buffer and data buffers
abbrev pub sends : Kind → Bool × Bool × Bool
sends (primitive w) = (true, false, false)
sends boolean = (true, false, false)
sends strings = (true, true, false)
sends views = (true, false, true)
sends lists = (true, false, false)
sends maps = (true, false, false)
sends structs = (false, false, false)
sends run_ended = (false, false, false)
sends (fixed_lists N) = (false, false, false)
sends unknown = (false, false, false)

abbrev pub buffers_of : Kind → Head → Reading Sent
buffers_of K h =
    do
      m ← mask_if h.masked
      b ← buffer_if (sends K).0
      t ← buffer_if (sends K).1
      ds ← data_buffers (sends K).2
      give (record { mask = m; body = b; text = t; sent = ds })
