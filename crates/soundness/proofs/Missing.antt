use Rattle.std.proofs.Common.{◌≡◌, ℕ, Bool, cond, ltb, List, [], ◌∷◌, Some, None, Option, sym, refl, ap, ◌∙◌, inl, inr}
use mathlib.Core.Option as math
use Rattle.std.proofs.lemmas.Bool.{cases_Bool}
use Rattle.formats.specs.Spelled.{lifted}
use Rattle.parcels.specs.Lent.{data_from}
use Rattle.columns.specs.Sent.{Data}
use Rattle.soundness.specs.declared.sent.DataBuffer.{DataBuffer}
use Rattle.parcels.specs.declared.sent.Sent.{Sent}
use Rattle.parcels.specs.declared.sent.Sent.TheVariants.{Brought, Named}
use Rattle.soundness.specs.Buffers.{buffers_from}
use Rattle.soundness.specs.Ladder.{unshelved_in, beyond_of}
use Rattle.soundness.proofs.Buffers.{datum, following, data_in, data_is}
use Rattle.soundness.proofs.Mapped.{or_else, first_made}

missing_by : (s : Sent) (before next : ℕ) (ds : List Data) (r : Option ℕ) → lifted (unshelved_in before ds) ≡ r → lifted (unshelved_in before (datum next s ∷ ds)) ≡ or_else (beyond_of s before) r
missing_by (Brought len) before next ds r e = e
missing_by (Named number) before next ds r e =
    let rest : math.Option ℕ = unshelved_in before ds in
    let T : Bool → Option ℕ = λ b. or_else (cond b None (Some number)) r in
    let U : Bool → Option ℕ = λ b. lifted (cond b rest (math.some number)) in
    elim (cases_Bool (ltb number before)) [
      | inl l ↦ ap U l ∙ e ∙ ap T (sym l)
      | inr l ↦ ap U l ∙ ap T (sym l)
    ]

missing_in : (before next : ℕ) (bs : List DataBuffer) → lifted (unshelved_in before (data_in next bs)) ≡ first_made (λ b. beyond_of b.sent before) bs
missing_in before next [] = refl
missing_in before next (b ∷ bs) =
    missing_by b.sent before next (data_in (following next b.sent) bs) (first_made (λ b. beyond_of b.sent before) bs) (missing_in before (following next b.sent) bs)

pub missing_is : (parcel : List ℕ) (before at next n : ℕ) → lifted (unshelved_in before (data_from parcel at next n)) ≡ first_made (λ b. beyond_of b.sent before) (buffers_from parcel at n)
missing_is parcel before at next n = ap (λ (l : List Data). lifted (unshelved_in before l)) (data_is parcel at next n) ∙ missing_in before next (buffers_from parcel at n)

-- at a list of them that is given by its parts
pub missing_of : (before : ℕ) (p q : List ℕ) (a b m n : ℕ) (r : Option ℕ) → p ≡ q → a ≡ b → m ≡ n → ((next : ℕ) → lifted (unshelved_in before (data_from p a next m)) ≡ r) → (next : ℕ) → lifted (unshelved_in before (data_from q b next n)) ≡ r
missing_of before p q a b m n r e f g l next = cc (l next)
