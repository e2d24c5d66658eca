-- Why an input was not decoded, in words.
use Rattle.std.specs.Prelude.{ℕ, List, ◌++◌, codes, decimal}
use Rattle.wire.specs.declared.call.Unread.{Unread}
use Rattle.wire.specs.declared.call.Unread.TheVariants.{CutOff, Unknown, TooLong}
use Rattle.wire.specs.declared.call.DecodeError.{DecodeError}
use Rattle.wire.specs.declared.call.DecodeError.TheVariants as error

abbrev pub reason : Unread → List ℕ
reason (CutOff lacks) = codes "the call lacks " ++ (decimal lacks ++ codes " bytes or more")
reason Unknown = codes "no call has this letter"
reason TooLong = codes "the call is too long"

abbrev pub failure : DecodeError → List ℕ
failure (error.Unread why) = reason why
failure (error.Memory e) = codes "out of memory"
