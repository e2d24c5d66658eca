use Rattle.std.proofs.Common.{sym, ap}
use Rattle.denials.specs.Worded.{words}
use Rattle.denials.proofs.Denial.words.Goals as goal

pub returns-in-Ends : goal.returns-in-Ends
returns-in-Ends c = ap words (sym c.in-Ends.is)

pub returns-in-Unknown : goal.returns-in-Unknown
returns-in-Unknown c = ap words (sym c.in-Unknown.is)

pub returns-in-Misplaced : goal.returns-in-Misplaced
returns-in-Misplaced c = ap words (sym c.in-Misplaced.is)

pub returns-in-Unsound : goal.returns-in-Unsound
returns-in-Unsound c = ap words (sym c.in-Unsound.is)

pub returns-in-Count : goal.returns-in-Count
returns-in-Count c = ap words (sym c.in-Count.is)

pub returns-in-Unlike : goal.returns-in-Unlike
returns-in-Unlike c = ap words (sym c.in-Unlike.is)

pub returns-in-Outside : goal.returns-in-Outside
returns-in-Outside c = ap words (sym c.in-Outside.is)

pub returns-in-Total : goal.returns-in-Total
returns-in-Total c = ap words (sym c.in-Total.is)

pub returns-in-Rows : goal.returns-in-Rows
returns-in-Rows c = ap words (sym c.in-Rows.is)

pub returns-in-Text : goal.returns-in-Text
returns-in-Text c = ap words (sym c.in-Text.is)

pub returns-in-NoColumn : goal.returns-in-NoColumn
returns-in-NoColumn c = ap words (sym c.in-NoColumn.is)

pub returns-in-Missing : goal.returns-in-Missing
returns-in-Missing c = ap words (sym c.in-Missing.is)

pub returns-in-Full : goal.returns-in-Full
returns-in-Full c = ap words (sym c.in-Full.is)
