use Rattle.std.proofs.Common.{subst, ap, ◌∙◌, rules}
use Rattle.std.proofs.lemmas.List.{take_rest}
use Rattle.wire.specs.Calls.{Tells, front}
use Rattle.wire.proofs.Encoding.{decoding_gives_back}
use Rattle.wire.proofs.decode.decode.Goals as goal

pub returns-in_err-kind-clause-front : goal.returns-in_err-kind-clause-front
returns-in_err-kind-clause-front c = search rules

pub returns-in_err-kind-clause-inverts : goal.returns-in_err-kind-clause-inverts
returns-in_err-kind-clause-inverts c call rest small begins =
    subst (Tells c.from_residual.result) (ap front begins ∙ decoding_gives_back call rest small) (returns-in_err-kind-clause-front c)

pub returns-clause-front : goal.returns-clause-front
returns-clause-front c = search (rules, take_rest)

pub returns-clause-inverts : goal.returns-clause-inverts
returns-clause-inverts c call rest small begins =
    returns-clause-front c ∙ ap front begins ∙ decoding_gives_back call rest small
