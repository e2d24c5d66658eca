-- How the program's places, parts and heads are those of the rules.
use Rattle.std.specs.Prelude.{◌≡◌, ℕ, ◌+◌, ◌<◌, ◌≤◌, Bool, List, length, take, drop, Some, None, Ok, Err, Option, Result}
use Rattle.columns.specs.Reading.{Outcome, denied, reached, Reading, give, ◌>>=◌, each_of}
use Rattle.columns.specs.Sent.{Data, mask_if, buffer_if, data_buffers, data_buffer, brought, named}
use Rattle.columns.specs.Says.{span}
use Rattle.std.proofs.Math.Option as math
use Rattle.columns.specs.Heads as rules_heads
use Rattle.columns.specs.Sent as rules_sent
use Rattle.columns.specs.Reading as rules_reading
use Rattle.denials.specs.declared.Denial.{Denial}
use Rattle.denials.specs.Said.{said}
use Rattle.parcels.specs.declared.draft.Place.{Place}
use Rattle.pools.specs.declared.records.Part.{Part}
use Rattle.parcels.specs.declared.draft.Parts.{Parts}
use Rattle.parcels.specs.declared.draft.Head.{Head}

abbrev pub placed : List ℕ → Place → List (List ℕ) → rules_reading.Place
placed parcel p bs = record { passed = p.at; ahead = drop p.at parcel; nodes = p.nodes; buffers = bs }

abbrev pub within : List ℕ → Part → List ℕ
within parcel p = take p.len (drop p.start parcel)

abbrev pub stepped : Place → ℕ → Place
stepped p n = record { at = p.at + n; nodes = p.nodes; brought = p.brought }

abbrev pub outcome : {T A : Type 0} → (T → A) → (T → rules_reading.Place) → Result T Denial → Outcome A
outcome value place (Ok t) = reached (value t) (place t)
outcome value place (Err d) = denied (said d)

abbrev pub head_of : List ℕ → Head → rules_heads.Head
head_of parcel h = record { masked = h.masked; format = within parcel h.format; label = h.label; child_count = h.children; rows = h.rows }

abbrev pub mask_of : List ℕ → Option Part → math.Option (List ℕ)
mask_of parcel None = math.none
mask_of parcel (Some p) = math.some (within parcel p)

-- the reading gives something, and ends at the place q, with as many buffers more as q has
pub record Reaches {A : Type 0} (parcel : List ℕ) (p : Place) (bs : List (List ℕ)) (q : Place) (o : Outcome A) : Type 0 where
  pub given : A
  pub after : List (List ℕ)
  pub is : o ≡ reached given (placed parcel q after)
  pub counted : length after + p.brought ≡ length bs + q.brought

abbrev pub sent_of : List ℕ → Parts → List Data → rules_sent.Sent
sent_of parcel x ds = record { mask = mask_of parcel x.mask; body = within parcel x.body; text = within parcel x.text; sent = ds }

-- a node's buffers, by what is there: a mask, a first buffer, a text buffer, data buffers
abbrev pub parts_read : Bool → Bool → Bool → Bool → Reading rules_sent.Sent
parts_read m b t d =
    mask_if m >>= λ mask. buffer_if b >>= λ body. buffer_if t >>= λ text. data_buffers d >>= λ ds. give (record { mask = mask; body = body; text = text; sent = ds })

-- the data buffers that are read from the place p on are ds, and the reading of them ends at q
abbrev pub Listed : List ℕ → Place → List (List ℕ) → ℕ → List Data → Place → List (List ℕ) → Type 0
Listed parcel p bs count ds q cs = each_of (λ (i : ℕ). data_buffer) (span 0 count) (placed parcel p bs) ≡ reached ds (placed parcel q cs)

pub record SentAs (parcel : List ℕ) (p : Place) (bs : List (List ℕ)) (x : Parts) (q : Place) (o : Outcome rules_sent.Sent) : Type 0 where
  pub ds : List Data
  pub after : List (List ℕ)
  pub is : o ≡ reached (sent_of parcel x ds) (placed parcel q after)
  pub listed : Listed parcel (record { at = x.lent.start; nodes = q.nodes; brought = p.brought }) bs x.lent.len ds q after
  pub counted : length after + p.brought ≡ length bs + q.brought

pub record LentAs (parcel : List ℕ) (p : Place) (bs : List (List ℕ)) (x : Part) (q : Place) (o : Outcome (List Data)) : Type 0 where
  pub ds : List Data
  pub after : List (List ℕ)
  pub is : o ≡ reached ds (placed parcel q after)
  pub listed : Listed parcel (record { at = x.start; nodes = q.nodes; brought = p.brought }) bs x.len ds q after
  pub counted : length after + p.brought ≡ length bs + q.brought

abbrev pub Within : List ℕ → Part → Type 0
Within parcel x = x.start + x.len ≤ length parcel

abbrev pub MaskWithin : List ℕ → Option Part → Type 0
MaskWithin parcel None = Unit {0}
MaskWithin parcel (Some x) = Within parcel x

-- the part, or an empty one
abbrev pub or_empty : Option Part → Part
or_empty None = record { start = 0; len = 0 }
or_empty (Some x) = x

-- the parts lie in the parcel, and are as short as their lengths can say
pub record Inside (parcel : List ℕ) (x : Parts) : Type 0 where
  pub mask : MaskWithin parcel x.mask
  pub body : Within parcel x.body
  pub text : Within parcel x.text
  pub lent : x.lent.start ≤ length parcel
  pub brief : x.text.len < 4294967296
  pub few : x.lent.len < 65536

-- the number that a data buffer is sent by, if it is not brought
abbrev pub name_of : Data → Option ℕ
name_of (brought b) = None
name_of (named b) = Some b

abbrev pub name_in : Outcome Data → Option ℕ
name_in (denied d) = None
name_in (reached x p) = name_of x
