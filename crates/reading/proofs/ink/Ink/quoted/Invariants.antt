use Rattle.std.proofs.Common.{◌≡◌, ◌++◌, true, drop, codes}
use Rattle.std.specs.List.{flat_map}
use Rattle.columns.specs.Text.{hex_byte}
use Rattle.reading.specs.Inked.{wrote}
use Rattle.reading.proofs.ink.Ink.quoted.Given as goal

-- what is left gives the whole
abbrev pub invariant-loop-byte : goal.invariant-loop-byte
invariant-loop-byte g l =
    wrote g.Self.Ink.room g.Self.Ink.marked (l.self, true) (flat_map hex_byte (drop l.byte-index l.bytes) ++ codes "\"")
    ≡ wrote g.Self.Ink.room g.Self.Ink.marked (l.initial.self, true) (flat_map hex_byte l.bytes ++ codes "\"")
