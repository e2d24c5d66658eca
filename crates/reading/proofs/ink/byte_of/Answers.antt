use Rattle.std.proofs.Common.{List, ℕ, get_or, ap, ◌∙◌, le_refl, arith}
use Rattle.std.specs.Int.{w64, to_le_bytes}
use Rattle.std.specs.Option.{unwrap_or}
use Rattle.reading.proofs.Digits.{byte_read}
use Rattle.reading.proofs.ink.byte_of.Goals as goal

pub returns : goal.returns
returns c =
    c.unwrap_or.ensures ∙ ap (λ o. unwrap_or o 0) c.copied.ensures
    ∙ c.get.ensures.lookup.4 (le_refl c.from.result) 0
    ∙ ap (λ (bs : List ℕ). get_or bs c.from.result 0) c.to_le_bytes.ensures
    ∙ ap (λ k. get_or (to_le_bytes w64 c.args.value) k 0) c.from.ensures
    ∙ byte_read c.args.value c.args.k (omega arith)
