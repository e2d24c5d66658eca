use Rattle.std.proofs.Common.{◌≡◌, suc, ◌-◌, ◌/◌, ◌%◌, ◌^◌, true, sym, ap, ◌∙◌, arith}
use Rattle.columns.specs.Text.{hex_byte, hex_number}
use Rattle.reading.specs.Inked.{wrote}
use Rattle.reading.proofs.Inking.{wrote_none, piece, refused}
use Rattle.reading.proofs.Digits.{number_more}
use Rattle.reading.proofs.ink.Ink.number.Goals as goal

pub returns-in_err-byte : goal.returns-in_err-byte
returns-in_err-byte g c =
    let room = g.Self.Ink.room in let marked = g.Self.Ink.marked in let v = c.args.value in let k = c.loop-k.k - 1 in
    refused room marked (c.loop-k.self, true) c.byte.new.self (hex_byte (v / 256 ^ k % 256)) (hex_number k v) c.from_residual.result c.from_residual.ensures.0
    (c.in_err-byte.ensures ∙ ap (λ b. wrote room marked (c.loop-k.self, true) (hex_byte b)) c.byte_of.ensures)
    ∙ ap (wrote room marked (c.loop-k.self, true)) (sym (number_more k v))
    ∙ ap (λ j. wrote room marked (c.loop-k.self, true) (hex_number j v)) (let e : suc k ≡ c.loop-k.k = omega arith in e)
    ∙ c.loop-k.invariant

pub loop-k-preserved : goal.loop-k-preserved
loop-k-preserved g c =
    let room = g.Self.Ink.room in let marked = g.Self.Ink.marked in let v = c.args.value in let k = c.loop-k.k - 1 in
    piece room marked (c.loop-k.self, true) (c.byte.new.self, true) (hex_byte (v / 256 ^ k % 256)) (hex_number k v)
    (c.in_ok-byte.ensures ∙ ap (λ b. wrote room marked (c.loop-k.self, true) (hex_byte b)) c.byte_of.ensures)
    ∙ ap (wrote room marked (c.loop-k.self, true)) (sym (number_more k v))
    ∙ ap (λ j. wrote room marked (c.loop-k.self, true) (hex_number j v)) (let e : suc k ≡ c.loop-k.k = omega arith in e)
    ∙ c.loop-k.invariant

pub returns : goal.returns
returns g c =
    let room = g.Self.Ink.room in let marked = g.Self.Ink.marked in
    sym (wrote_none room marked (c.loop-k.self, true))
    ∙ ap (λ j. wrote room marked (c.loop-k.self, true) (hex_number j c.args.value)) (let e : 0 ≡ c.loop-k.k = omega arith in e)
    ∙ c.loop-k.invariant
