-- Answers as lines.
use Rattle.std.specs.Prelude.{ℕ, List, [], ◌∷◌, ◌++◌, take, codes, decimal}
use Rattle.wire.specs.declared.answer.Answer.{Answer}
use Rattle.wire.specs.declared.answer.Answer.TheVariants.{Filed, Made, Row, No, Halt}

abbrev pub newline : List ℕ
newline = 10 ∷ []

-- The line of an answer; a row's text is the front of the text buffer.
abbrev pub line_of : Answer → (text : List ℕ) → List ℕ
line_of (Filed column) text = codes "filed " ++ decimal column ++ newline
line_of (Made column) text = codes "made " ++ decimal column ++ newline
line_of (Row length) text = codes "row " ++ take length text ++ newline
line_of (No number detail) text = codes "no " ++ (decimal number ++ (codes " " ++ decimal detail)) ++ newline
line_of Halt text = codes "halt" ++ newline
