use Rattle.std.proofs.Common.{◌≡◌, min, true, [], ◌∷◌, ◌++◌, ap, ◌∙◌, rules}
use Rattle.reading.specs.Inked.{wrote}
use Rattle.reading.proofs.Inking.{step, last, piece, refused_byte, refused}
use Rattle.reading.proofs.Views.{low_part, high_part, short_text}
use Rattle.reading.proofs.leaves.short.Goals as goal

pub returns-in_err-put : goal.returns-in_err-put
returns-in_err-put g c =
    let room = g.I.Ink.room in let marked = g.I.Ink.marked in
    let m : min c.args.len 4 ≡ c.min-front.result = search rules in
    let x = low_part c.min-front.result c.args.view in let y = high_part c.args.len c.min-front.result c.args.view in
    refused_byte room marked (c.args.ink.now, true) c.put.new.self 34 (x ++ (y ++ 34 ∷ [])) c.from_residual.result c.from_residual.ensures.0 c.in_err-put.ensures
    ∙ ap (wrote room marked (c.args.ink.now, true)) (short_text c.args.len c.min-front.result c.args.view c.requires m)

pub returns-in_err-low_bytes : goal.returns-in_err-low_bytes
returns-in_err-low_bytes g c =
    let room = g.I.Ink.room in let marked = g.I.Ink.marked in
    let m : min c.args.len 4 ≡ c.min-front.result = search rules in
    let x = low_part c.min-front.result c.args.view in let y = high_part c.args.len c.min-front.result c.args.view in
    refused room marked (c.put.new.self, true) c.low_bytes.new.self x (y ++ 34 ∷ []) c.from_residual-in_err-low_bytes.result c.from_residual-in_err-low_bytes.ensures.0 c.in_err-low_bytes.ensures
    ∙ step room marked (c.args.ink.now, true) (c.put.new.self, true) 34 (x ++ (y ++ 34 ∷ [])) c.in_ok-put.ensures
    ∙ ap (wrote room marked (c.args.ink.now, true)) (short_text c.args.len c.min-front.result c.args.view c.requires m)

pub returns-in_err-low_bytes-2 : goal.returns-in_err-low_bytes-2
returns-in_err-low_bytes-2 g c =
    let room = g.I.Ink.room in let marked = g.I.Ink.marked in
    let m : min c.args.len 4 ≡ c.min-front.result = search rules in
    let x = low_part c.min-front.result c.args.view in let y = high_part c.args.len c.min-front.result c.args.view in
    refused room marked (c.low_bytes.new.self, true) c.low_bytes-2.new.self y (34 ∷ []) c.from_residual-in_err-low_bytes-2.result c.from_residual-in_err-low_bytes-2.ensures.0 c.in_err-low_bytes-2.ensures
    ∙ piece room marked (c.put.new.self, true) (c.low_bytes.new.self, true) x (y ++ 34 ∷ []) c.in_ok-low_bytes.ensures
    ∙ step room marked (c.args.ink.now, true) (c.put.new.self, true) 34 (x ++ (y ++ 34 ∷ [])) c.in_ok-put.ensures
    ∙ ap (wrote room marked (c.args.ink.now, true)) (short_text c.args.len c.min-front.result c.args.view c.requires m)

pub returns : goal.returns
returns g c =
    let room = g.I.Ink.room in let marked = g.I.Ink.marked in
    let m : min c.args.len 4 ≡ c.min-front.result = search rules in
    let x = low_part c.min-front.result c.args.view in let y = high_part c.args.len c.min-front.result c.args.view in
    last room marked (c.low_bytes-2.new.self, true) _ 34 c.put-2.ensures
    ∙ piece room marked (c.low_bytes.new.self, true) (c.low_bytes-2.new.self, true) y (34 ∷ []) c.in_ok-low_bytes-2.ensures
    ∙ piece room marked (c.put.new.self, true) (c.low_bytes.new.self, true) x (y ++ 34 ∷ []) c.in_ok-low_bytes.ensures
    ∙ step room marked (c.args.ink.now, true) (c.put.new.self, true) 34 (x ++ (y ++ 34 ∷ [])) c.in_ok-put.ensures
    ∙ ap (wrote room marked (c.args.ink.now, true)) (short_text c.args.len c.min-front.result c.args.view c.requires m)
