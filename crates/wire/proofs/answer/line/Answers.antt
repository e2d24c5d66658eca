use Rattle.std.proofs.Common.{◌≡◌, List, ℕ, ◌++◌, IfOk, sym, ap, ◌∙◌, append_assoc, codes, decimal, rules}
use Rattle.std.proofs.lemmas.Result.{IfOk-weaker}
use Rattle.wire.specs.Lines.{line_of, newline}
use Rattle.wire.proofs.answer.line.Goals as goal

pub returns-in-No : goal.returns-in-No
returns-in-No c =
    let number : List ℕ = decimal c.in-No.number in
    let detail : List ℕ = decimal c.in-No.detail in
    let grouped : codes "no " ++ (number ++ (codes " " ++ (detail ++ newline))) ≡ codes "no " ++ (number ++ (codes " " ++ detail)) ++ newline = simp append_assoc in
    let written : IfOk c.map-in-No.result (λ v. v.items ≡ codes "no " ++ (number ++ (codes " " ++ (detail ++ newline)))) = search rules in
    IfOk-weaker c.map-in-No.result _ _ (λ v w. w ∙ grouped ∙ ap (λ answer. line_of answer c.args.text.now) (sym c.in-No.is)) written
