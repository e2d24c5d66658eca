use Rattle.std.proofs.Common.{◌≡◌, ◌-◌, ◌/◌, ◌^◌, true}
use Rattle.std.specs.List.{flat_map}
use Rattle.columns.specs.Text.{hex_byte}
use Rattle.columns.specs.Bytes.{le_bytes}
use Rattle.reading.specs.Inked.{wrote}
use Rattle.reading.proofs.ink.Ink.low_bytes.Given as goal

-- what is left gives the whole
abbrev pub invariant-loop-k : goal.invariant-loop-k
invariant-loop-k g l =
    wrote g.Self.Ink.room g.Self.Ink.marked (l.self, true) (flat_map hex_byte (le_bytes (l.count - l.k) (l.value / 256 ^ l.k)))
    ≡ wrote g.Self.Ink.room g.Self.Ink.marked (l.initial.self, true) (flat_map hex_byte (le_bytes l.count l.value))
