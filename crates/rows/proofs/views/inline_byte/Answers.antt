use Rattle.std.proofs.Common.{ℕ, ◌+◌, ◌-◌, ◌*◌, ◌/◌, ◌%◌, ◌^◌, ltb, List, get_or, sym, ap, ◌∙◌, arith}
use Rattle.std.proofs.lemmas.Bool.{cond-true, cond-false, lt-ltb, le-ltb}
use Rattle.rows.proofs.Viewing.{byte_of_eight, inline_told}
use Rattle.rows.proofs.views.inline_byte.Goals as goal

pub returns-then-i-lt4 : goal.returns-then-i-lt4
returns-then-i-lt4 c =
    let i = c.args.i in let h = c.args.view in
    let is = ap (λ (bs : List ℕ). get_or bs (i + 4) 0) c.to_le_bytes.ensures ∙ byte_of_eight h.low (i + 4) (omega arith)
    ∙ sym (cond-true (ltb i 4) (h.low / 2 ^ (8 * (i + 4)) % 256) (h.high / 2 ^ (8 * (i - 4)) % 256) (lt-ltb i 4 c.if-i-lt4.true)) in
    record { is = is; told = λ len inline e. is ∙ inline_told h i c.requires len inline e }

pub returns-else-i-lt4 : goal.returns-else-i-lt4
returns-else-i-lt4 c =
    let i = c.args.i in let h = c.args.view in
    let is = ap (λ (bs : List ℕ). get_or bs (i - 4) 0) c.to_le_bytes-else-i-lt4.ensures ∙ byte_of_eight h.high (i - 4) (omega arith)
    ∙ sym (cond-false (ltb i 4) (h.low / 2 ^ (8 * (i + 4)) % 256) (h.high / 2 ^ (8 * (i - 4)) % 256) (le-ltb i 4 c.if-i-lt4.false)) in
    record { is = is; told = λ len inline e. is ∙ inline_told h i c.requires len inline e }
