use Rattle.std.proofs.Common.{ℕ, ◌+◌, true, List, ◌++◌, get_or, drop, codes, sym, ap, ◌∙◌}
use Rattle.std.specs.List.{flat_map}
use Rattle.std.proofs.lemmas.List.{drop_more, drop_all}
use Rattle.columns.specs.Text.{hex_byte}
use Rattle.reading.specs.Inked.{wrote}
use Rattle.reading.proofs.Inking.{step, last, piece, refused_byte, refused}
use Rattle.reading.proofs.ink.Ink.quoted.Goals as goal

pub returns-in_err-put : goal.returns-in_err-put
returns-in_err-put g c =
    refused_byte g.Self.Ink.room g.Self.Ink.marked (c.args.self.now, true) c.put.new.self 34 (flat_map hex_byte c.args.bytes.now ++ codes "\"") c.from_residual.result c.from_residual.ensures.0
    c.in_err-put.ensures

pub returns-in_err-byte : goal.returns-in_err-byte
returns-in_err-byte g c =
    let room = g.Self.Ink.room in let marked = g.Self.Ink.marked in let bs = c.args.bytes.now in let i = c.loop-byte.byte-index in
    refused room marked (c.loop-byte.self, true) c.byte.new.self (hex_byte (get_or bs i 0)) (flat_map hex_byte (drop (i + 1) bs) ++ codes "\"") c.from_residual-in_err-byte.result c.from_residual-in_err-byte.ensures.0
    c.in_err-byte.ensures
    ∙ ap (λ (rest : List ℕ). wrote room marked (c.loop-byte.self, true) (flat_map hex_byte rest ++ codes "\"")) (sym (drop_more bs i 0 c.loop-byte-test.true))
    ∙ c.loop-byte.invariant
    ∙ step room marked (c.args.self.now, true) (c.put.new.self, true) 34 (flat_map hex_byte bs ++ codes "\"") c.in_ok-put.ensures

pub loop-byte-preserved : goal.loop-byte-preserved
loop-byte-preserved g c =
    let room = g.Self.Ink.room in let marked = g.Self.Ink.marked in let bs = c.args.bytes.now in let i = c.loop-byte.byte-index in
    piece room marked (c.loop-byte.self, true) (c.byte.new.self, true) (hex_byte (get_or bs i 0)) (flat_map hex_byte (drop (i + 1) bs) ++ codes "\"") c.in_ok-byte.ensures
    ∙ ap (λ (rest : List ℕ). wrote room marked (c.loop-byte.self, true) (flat_map hex_byte rest ++ codes "\"")) (sym (drop_more bs i 0 c.loop-byte-test.true))
    ∙ c.loop-byte.invariant

pub returns : goal.returns
returns g c =
    let room = g.Self.Ink.room in let marked = g.Self.Ink.marked in let bs = c.args.bytes.now in
    last room marked (c.loop-byte.self, true) _ 34 c.put-2.ensures
    ∙ ap (λ (rest : List ℕ). wrote room marked (c.loop-byte.self, true) (flat_map hex_byte rest ++ codes "\"")) (sym (drop_all c.loop-byte.byte-index bs c.loop-byte-test.false))
    ∙ c.loop-byte.invariant
    ∙ step room marked (c.args.self.now, true) (c.put.new.self, true) 34 (flat_map hex_byte bs ++ codes "\"") c.in_ok-put.ensures
