use Rattle.std.proofs.Common.{◌≡◌, ℕ, zero, suc, ◌+◌, ◌-◌, ◌<◌, ◌≤◌, Bool, true, cond, List, [], ◌∷◌, length, get_or, drop, sym, refl, ap, ◌∙◌, subst, inl, inr, arith}
use Rattle.std.proofs.lemmas.Bool.{cases_Bool, leb-false}
use Rattle.std.specs.List.{AllByRecursion}
use Rattle.columns.specs.Says.{slice}
use Rattle.columns.specs.Sent.{Data, brought, named, is_named, buffer_length}
use Rattle.parcels.specs.Lent.{data_size, place_of, readable, number_at, bytes_at, data_from, brought_from}
use Rattle.parcels.proofs.Lents.{readable_at, readable_part}
use Rattle.soundness.specs.declared.sent.DataBuffer.{DataBuffer}
use Rattle.parcels.specs.declared.sent.Sent.{Sent}
use Rattle.parcels.specs.declared.sent.Sent.TheVariants.{Brought, Named}
use Rattle.soundness.specs.Buffers.{sent_in, buffer_in, buffers_from}
use Rattle.parcels.specs.Sents.{SentAt}
use Rattle.soundness.specs.Sources.{Told}
use Rattle.soundness.proofs.Held.{data_named, data_brought, none_brought, one_brought}

-- the first of them, and the others
pub buffers_open : (parcel : List ℕ) (at n : ℕ) → 0 < n → buffers_from parcel at n ≡ buffer_in parcel at ∷ buffers_from parcel (at + data_size parcel at) (n - 1)
unfolding buffers_from
buffers_open parcel at zero h = absurd (omega arith)
buffers_open parcel at (suc n) h = ap (λ (k : ℕ). buffer_in parcel at ∷ buffers_from parcel (at + data_size parcel at) k) (let e : n ≡ suc n - 1 = omega arith in e)

pub buffers_none : (parcel : List ℕ) (at n : ℕ) → n ≡ 0 → buffers_from parcel at n ≡ []
unfolding buffers_from
buffers_none parcel at zero h = refl
buffers_none parcel at (suc n) h = absurd (omega arith)

pub length_buffers : (parcel : List ℕ) (at n : ℕ) → length (buffers_from parcel at n) ≡ n
unfolding buffers_from
length_buffers parcel at zero = refl
length_buffers parcel at (suc n) = ap suc (length_buffers parcel (at + data_size parcel at) n)

pub next_readable : (parcel : List ℕ) (at n : ℕ) → 0 < n → readable parcel at n ≡ true → (at + data_size parcel at ≤ length parcel) × (readable parcel (at + data_size parcel at) (n - 1) ≡ true)
unfolding place_of
next_readable parcel at n h r = (readable_at parcel at n 0 r h, readable_part parcel at n 1 (n - 1) r (omega arith))

pub sent_is : (parcel : List ℕ) (at : ℕ) (s : Sent) → SentAt parcel at s → s ≡ sent_in parcel at
sent_is parcel at (Brought len) (e, l, _) = ap Brought l ∙ ap (λ (b : Bool). cond b (Named (number_at parcel at)) (Brought (buffer_length (drop at parcel)))) (sym e)
sent_is parcel at (Named number) (e, n) = ap Named n ∙ ap (λ (b : Bool). cond b (Named (number_at parcel at)) (Brought (buffer_length (drop at parcel)))) (sym e)

pub buffers_next : (parcel : List ℕ) (at n next : ℕ) (s : Sent) → 0 < n → SentAt parcel at s → next ≡ at + data_size parcel at
    → buffers_from parcel at n ≡ record { at = at; sent = s } ∷ buffers_from parcel next (n - 1)
buffers_next parcel at n next s h e a =
    buffers_open parcel at n h
    ∙ ap (λ (k : ℕ). buffer_in parcel at ∷ buffers_from parcel k (n - 1)) (sym a)
    ∙ ap (λ (x : Sent). (let b : DataBuffer = record { at = at; sent = x } in b) ∷ buffers_from parcel next (n - 1)) (sym (sent_is parcel at s e))

abbrev by : List ℕ → (at : ℕ) → Bool → Sent
by parcel at b = cond b (Named (number_at parcel at)) (Brought (buffer_length (drop at parcel)))

pub sent_at_by : (parcel : List ℕ) (at : ℕ) → SentAt parcel at (sent_in parcel at)
sent_at_by parcel at =
    elim (cases_Bool (is_named (drop at parcel))) [
      | inl e ↦ subst (SentAt parcel at) (ap (by parcel at) (sym e)) (e, refl)
      | inr e ↦ subst (SentAt parcel at) (ap (by parcel at) (sym e)) (e, refl, leb-false 2147483648 (buffer_length (drop at parcel)) e)
    ]

pub buffers_told : (parcel : List ℕ) (at n : ℕ) → readable parcel at n ≡ true → AllByRecursion (Told parcel) (buffers_from parcel at n)
unfolding buffers_from
buffers_told parcel at zero r = tt
buffers_told parcel at (suc n) r =
    let p = next_readable parcel at (suc n) (omega arith) r in
    let r' : readable parcel (at + data_size parcel at) n ≡ true = ap (readable parcel (at + data_size parcel at)) (let e : n ≡ suc n - 1 = omega arith in e) ∙ p.1 in
    ((sent_at_by parcel at, p.0), buffers_told parcel (at + data_size parcel at) n r')

-- the rules' data buffers, by how these are sent
abbrev pub datum : (next : ℕ) → Sent → Data
datum next (Brought len) = brought next
datum next (Named number) = named number

abbrev pub following : (next : ℕ) → Sent → ℕ
following next (Brought len) = next + 1
following next (Named number) = next

abbrev pub data_in : (next : ℕ) → List DataBuffer → List Data
data_in next [] = []
data_in next (b ∷ bs) = datum next b.sent ∷ data_in (following next b.sent) bs

pub data_is : (parcel : List ℕ) (at next n : ℕ) → data_from parcel at next n ≡ data_in next (buffers_from parcel at n)
unfolding data_from buffers_from
data_is parcel at next zero = refl
data_is parcel at next (suc n) =
    let after : ℕ = at + data_size parcel at in
    let G : Sent → List Data = λ s. datum next s ∷ data_in (following next s) (buffers_from parcel after n) in
    elim (cases_Bool (is_named (drop at parcel))) [
      | inl e ↦ data_named parcel n at next e ∙ ap (λ (l : List Data). named (number_at parcel at) ∷ l) (data_is parcel after next n) ∙ ap (λ (b : Bool). G (by parcel at b)) (sym e)
      | inr e ↦ data_brought parcel n at next e ∙ ap (λ (l : List Data). brought next ∷ l) (data_is parcel after (next + 1) n) ∙ ap (λ (b : Bool). G (by parcel at b)) (sym e)
    ]

-- the bytes of those that are brought
abbrev pub bytes_then : List ℕ → (at : ℕ) → Sent → List (List ℕ) → List (List ℕ)
bytes_then parcel at (Brought len) rest = slice parcel (at + 4) len ∷ rest
bytes_then parcel at (Named number) rest = rest

abbrev pub brought_in : List ℕ → List DataBuffer → List (List ℕ)
brought_in parcel [] = []
brought_in parcel (b ∷ bs) = bytes_then parcel b.at b.sent (brought_in parcel bs)

pub brought_is : (parcel : List ℕ) (at n : ℕ) → brought_from parcel at n ≡ brought_in parcel (buffers_from parcel at n)
unfolding brought_from buffers_from
brought_is parcel at zero = refl
brought_is parcel at (suc n) =
    let after : ℕ = at + data_size parcel at in
    let G : Sent → List (List ℕ) = λ s. bytes_then parcel at s (brought_in parcel (buffers_from parcel after n)) in
    elim (cases_Bool (is_named (drop at parcel))) [
      | inl e ↦ none_brought parcel n at e ∙ brought_is parcel after n ∙ ap (λ (b : Bool). G (by parcel at b)) (sym e)
      | inr e ↦ one_brought parcel n at e ∙ ap (λ (l : List (List ℕ)). bytes_at parcel at ∷ l) (brought_is parcel after n) ∙ ap (λ (b : Bool). G (by parcel at b)) (sym e)
    ]

-- where each stands
pub get_or_buffers : (parcel : List ℕ) (at n k : ℕ) (d : DataBuffer) → k < n → get_or (buffers_from parcel at n) k d ≡ buffer_in parcel (place_of parcel at k)
unfolding buffers_from place_of
get_or_buffers parcel at zero k d h = absurd (omega arith)
get_or_buffers parcel at (suc n) zero d h = refl
get_or_buffers parcel at (suc n) (suc k) d h = get_or_buffers parcel (at + data_size parcel at) n k d (omega arith)

pub told_at : (parcel : List ℕ) (at n k : ℕ) → readable parcel at n ≡ true → k < n → Told parcel (buffer_in parcel (place_of parcel at k))
told_at parcel at n k r h = (sent_at_by parcel (place_of parcel at k), readable_at parcel at n k r h)
