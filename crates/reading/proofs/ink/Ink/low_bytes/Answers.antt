use Rattle.std.proofs.Common.{◌+◌, ◌-◌, ◌/◌, ◌%◌, ◌^◌, true, sym, ap, ◌∙◌}
use Rattle.std.specs.List.{flat_map}
use Rattle.columns.specs.Text.{hex_byte}
use Rattle.columns.specs.Bytes.{le_bytes}
use Rattle.reading.specs.Inked.{wrote}
use Rattle.reading.proofs.Inking.{wrote_none, piece, refused}
use Rattle.reading.proofs.Digits.{bytes_more, bytes_none}
use Rattle.reading.proofs.ink.Ink.low_bytes.Goals as goal

pub returns-in_err-byte : goal.returns-in_err-byte
returns-in_err-byte g c =
    let room = g.Self.Ink.room in let marked = g.Self.Ink.marked in let v = c.args.value in let k = c.loop-k.k in
    refused room marked (c.loop-k.self, true) c.byte.new.self (hex_byte (v / 256 ^ k % 256)) (flat_map hex_byte (le_bytes (c.args.count - (k + 1)) (v / 256 ^ (k + 1)))) c.from_residual.result c.from_residual.ensures.0
    (c.in_err-byte.ensures ∙ ap (λ b. wrote room marked (c.loop-k.self, true) (hex_byte b)) c.byte_of.ensures)
    ∙ ap (wrote room marked (c.loop-k.self, true)) (sym (bytes_more c.args.count k v c.loop-k-test.true))
    ∙ c.loop-k.invariant

pub loop-k-preserved : goal.loop-k-preserved
loop-k-preserved g c =
    let room = g.Self.Ink.room in let marked = g.Self.Ink.marked in let v = c.args.value in let k = c.loop-k.k in
    piece room marked (c.loop-k.self, true) (c.byte.new.self, true) (hex_byte (v / 256 ^ k % 256)) (flat_map hex_byte (le_bytes (c.args.count - (k + 1)) (v / 256 ^ (k + 1))))
    (c.in_ok-byte.ensures ∙ ap (λ b. wrote room marked (c.loop-k.self, true) (hex_byte b)) c.byte_of.ensures)
    ∙ ap (wrote room marked (c.loop-k.self, true)) (sym (bytes_more c.args.count k v c.loop-k-test.true))
    ∙ c.loop-k.invariant

pub returns : goal.returns
returns g c =
    let room = g.Self.Ink.room in let marked = g.Self.Ink.marked in
    sym (wrote_none room marked (c.loop-k.self, true))
    ∙ ap (wrote room marked (c.loop-k.self, true)) (sym (bytes_none c.args.count c.loop-k.k c.args.value c.loop-k-test.false))
    ∙ c.loop-k.invariant
