-- The answer that tells a denial.
use Rattle.denials.specs.declared.Denial.{Denial}
use Rattle.denials.specs.Said.{said, number_of, detail_of}
use Rattle.wire.specs.declared.answer.Answer.{Answer}
use Rattle.wire.specs.declared.answer.Answer.TheVariants.{No}

abbrev pub told : Denial → Answer
told d = No (number_of (said d)) (detail_of (said d))
