use Rattle.std.proofs.Common.{◌∙◌, rules}
use Rattle.formats.proofs.Decimals.{decimal_is}
use Rattle.formats.proofs.decimal.number.Goals as goal

pub returns-in_default : goal.returns-in_default
returns-in_default c = c.value-in_default.ensures ∙ decimal_is c.args.digits.now (search rules) (search rules)
