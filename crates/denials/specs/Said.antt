-- The number and detail of each denial.
use Rattle.std.specs.Prelude.{ℕ}
use Rattle.columns.specs.Checks as rules
use Rattle.denials.specs.declared.Denial.{Denial}
use Rattle.denials.specs.declared.Denial.TheVariants.{Ends, Unknown, Misplaced, Unsound, Count, Unlike, Outside, Total, Rows, Text, NoColumn, Missing, Full}

abbrev pub said : Denial → rules.Denial
said (Ends byte) = rules.denial 1 byte
said (Unknown node) = rules.denial 2 node
said (Misplaced node) = rules.denial 3 node
said (Unsound node) = rules.denial 4 node
said (Count count) = rules.denial 5 count
said (Unlike position) = rules.denial 6 position
said (Outside place) = rules.denial 7 place
said (Total total) = rules.denial 8 total
said (Rows rows) = rules.denial 9 rows
said (Text room) = rules.denial 10 room
said (NoColumn column) = rules.denial 11 column
said (Missing buffer) = rules.denial 12 buffer
said (Full pool) = rules.denial 13 pool

abbrev pub number_of : rules.Denial → ℕ
number_of (rules.denial number detail) = number

abbrev pub detail_of : rules.Denial → ℕ
detail_of (rules.denial number detail) = detail
