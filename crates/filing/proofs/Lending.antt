-- The data buffers of a node, as far as they are added.
use Rattle.std.proofs.Common.{◌≡◌, ℕ, ◌+◌, ◌<◌, ◌≤◌, true, List, ◌∷◌, map, length, drop, sym, subst, arith, length-take}
use Rattle.std.specs.List.{AllByRecursion}
use Rattle.columns.specs.Says.{slice}
use Rattle.columns.specs.Sent.{Data, number_of, buffer_length}
use Rattle.columns.specs.Widths.{Bytes}
use Rattle.columns.proofs.Reading.{big_within, bytes_slice}
use Rattle.pools.specs.declared.records.Part.{Part}
use Rattle.pools.specs.declared.pool.Pool.{Pool}
use Rattle.pools.specs.Used.{Fit, Gains}
use Rattle.soundness.specs.declared.sent.DataBuffer.{DataBuffer}
use Rattle.soundness.specs.declared.data_buffers.DataBuffers.{DataBuffers}
use Rattle.parcels.specs.declared.sent.Sent.TheVariants.{Named}
use Rattle.parcels.specs.Lent.{readable, data_from, brought_from}
use Rattle.parcels.specs.Sents.{SentAt}
use Rattle.soundness.specs.Sources.{Told}
use Rattle.soundness.specs.Buffers.{buffers_from}
use Rattle.soundness.proofs.Buffers.{length_buffers, data_is, brought_is, buffers_told, data_in, brought_in}
use Rattle.filing.specs.Lent.{flat, parts_from}

-- the number of a data buffer that is named has 32 bits
pub named_small : (parcel : List ℕ) (b : DataBuffer) (number : ℕ) → Bytes parcel → Told parcel b → b.sent ≡ Named number → number < 4294967296
named_small parcel b number small told e =
    let is : SentAt parcel b.at (Named number) = subst (SentAt parcel b.at) e told.0 in
    let fits : buffer_length (drop b.at parcel) < 4294967296 =
    big_within 4 (slice parcel b.at 4) (omega (arith, length-take 4 (drop b.at parcel))) (bytes_slice parcel b.at 4 small) in
    omega (arith, is.1, fits)

-- numbers: what is left to add, and that all are added once it is
pub record Numbering (parcel : List ℕ) (l l' : Pool ℕ) (all : List ℕ) (next : ℕ) (rest : List DataBuffer) : Type 0 where
  pub room : Fit l' (length rest)
  pub few : next + length (brought_in parcel rest) ≤ 1048576
  pub told : AllByRecursion (Told parcel) rest
  pub then : (k : Pool ℕ) → Gains l' (map number_of (data_in next rest)) k → Gains l all k

pub numbering_start : (parcel : List ℕ) (l : Pool ℕ) (first : ℕ) (lent : Part) (rest : List DataBuffer) → rest ≡ buffers_from parcel lent.start lent.len
    → readable parcel lent.start lent.len ≡ true → Fit l lent.len → first + length (brought_from parcel lent.start lent.len) ≤ 1048576
    → Numbering parcel l l (map number_of (data_from parcel lent.start first lent.len)) first rest
numbering_start parcel l first lent rest e r f few =
    let all : Numbering parcel l l (map number_of (data_from parcel lent.start first lent.len)) first (buffers_from parcel lent.start lent.len) =
    record {
      room = subst (Fit l) (sym (length_buffers parcel lent.start lent.len)) f;
      few = subst (λ (bs : List (List ℕ)). first + length bs ≤ 1048576) (brought_is parcel lent.start lent.len) few;
      told = buffers_told parcel lent.start lent.len r;
      then = λ k h. subst (λ (ds : List Data). Gains l (map number_of ds) k) (sym (data_is parcel lent.start first lent.len)) h;
    } in
    subst (λ (bs : List DataBuffer). Numbering parcel l l (map number_of (data_from parcel lent.start first lent.len)) first bs) (sym e) all

pub numbering_next : {parcel : List ℕ} {l l' : Pool ℕ} {all : List ℕ} {next : ℕ} {before rest : List DataBuffer} (b : DataBuffer) → before ≡ b ∷ rest → Numbering parcel l l' all next before → Numbering parcel l l' all next (b ∷ rest)
numbering_next {parcel} {l} {l'} {all} {next} b e s = subst (λ (bs : List DataBuffer). Numbering parcel l l' all next bs) e s

-- the bytes that are left to add, and that all are added, with their parts, once they are
pub record Adding (y y' : Pool ℕ) (p p' : Pool Part) (all left : List (List ℕ)) : Type 0 where
  pub shelved : Fit p' (length left)
  pub held : Fit y' (length (flat left))
  pub then : (z : Pool ℕ) (q : Pool Part) → Gains y' (flat left) z → Gains p' (parts_from y'.mark left) q → Gains y (flat all) z × Gains p (parts_from y.mark all) q

-- the same, of the data buffers that are left
pub record Bringing (parcel : List ℕ) (y y' : Pool ℕ) (p p' : Pool Part) (all : List (List ℕ)) (rest : List DataBuffer) : Type 0 where
  pub told : AllByRecursion (Told parcel) rest
  pub adding : Adding y y' p p' all (brought_in parcel rest)

pub bringing_start : (lent : DataBuffers) (y : Pool ℕ) (p : Pool Part) → Fit p (length (brought_from lent.parcel.now lent.at lent.left)) → Fit y (length (flat (brought_from lent.parcel.now lent.at lent.left)))
    → Bringing lent.parcel.now y y p p (brought_from lent.parcel.now lent.at lent.left) (buffers_from lent.parcel.now lent.at lent.left)
bringing_start lent y p f g =
    let all : List (List ℕ) = brought_from lent.parcel.now lent.at lent.left in
    record {
      told = buffers_told lent.parcel.now lent.at lent.left lent.listed;
      adding = subst (Adding y y p p all) (brought_is lent.parcel.now lent.at lent.left) (record { shelved = f; held = g; then = λ z q u v. (u, v) });
    }
