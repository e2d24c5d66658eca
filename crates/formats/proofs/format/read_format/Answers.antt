use Rattle.std.proofs.Common.{sym, ap, ◌∙◌, rules}
use Rattle.formats.specs.Spelled.{one_char}
use Rattle.formats.proofs.Spellings.{spelled_one, spelled_two, spelled_none, told_is}
use Rattle.formats.proofs.format.read_format.Goals as goal

pub returns-in-empty : goal.returns-in-empty
returns-in-empty c = spelled_none c.args.format.now (search rules) ∙ sym (told_is c.args.format.now)

pub returns-in-len1 : goal.returns-in-len1
returns-in-len1 c =
    c.one.ensures ∙ ap one_char c.from.ensures ∙ spelled_one c.args.format.now (search rules) ∙ sym (told_is c.args.format.now)

pub returns-in-len2 : goal.returns-in-len2
returns-in-len2 c =
    c.two.ensures
    ∙ spelled_two c.args.format.now _ _ (search rules) c.from-in-len2.ensures c.from-in-len2-2.ensures
    ∙ sym (told_is c.args.format.now)

pub returns-in_default : goal.returns-in_default
returns-in_default c = c.long.ensures ∙ sym (told_is c.args.format.now)
