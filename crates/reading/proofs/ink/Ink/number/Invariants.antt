use Rattle.std.proofs.Common.{◌≡◌, true}
use Rattle.columns.specs.Text.{hex_number}
use Rattle.reading.specs.Inked.{wrote}
use Rattle.reading.proofs.ink.Ink.number.Given as goal

-- what is left gives the whole
abbrev pub invariant-loop-k : goal.invariant-loop-k
invariant-loop-k g l =
    wrote g.Self.Ink.room g.Self.Ink.marked (l.self, true) (hex_number l.k l.value)
    ≡ wrote g.Self.Ink.room g.Self.Ink.marked (l.initial.self, true) (hex_number l.width l.value)
