-- Denials in plain words.
use Rattle.std.specs.Prelude.{ℕ, List, ◌++◌, codes, decimal}
use Rattle.denials.specs.declared.Denial.{Denial}
use Rattle.denials.specs.declared.Denial.TheVariants.{Ends, Unknown, Misplaced, Unsound, Count, Unlike, Outside, Total, Rows, Text, NoColumn, Missing, Full}
use Rattle.denials.specs.Said.{said, detail_of}

-- what is wrong
abbrev pub words : Denial → List ℕ
words (Ends x) = codes "the parcel ends inside an item, or has bytes left, from byte "
words (Unknown x) = codes "the format is unknown, of node "
words (Misplaced x) = codes "the child count, kind or mask is wrong, or a limit is passed, at node "
words (Unsound x) = codes "the column is unsound, at node "
words (Count x) = codes "no source, or too many sources or pairs: "
words (Unlike x) = codes "a source has another type than source 0, at position "
words (Outside x) = codes "outside is the pair or row "
words (Total x) = codes "an offset of 32 bits cannot hold the total "
words (Rows x) = codes "the run ends cannot count so many rows: "
words (Text x) = codes "the text is longer than its buffer, of bytes "
words (NoColumn x) = codes "there is no column "
words (Missing x) = codes "there is no data buffer "
words (Full x) = codes "too few entries are left in pool "

-- and then the detail
abbrev pub sentence : Denial → List ℕ
sentence d = words d ++ decimal (detail_of (said d))
