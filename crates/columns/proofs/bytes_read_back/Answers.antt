use Rattle.columns.proofs.bytes_read_back.Goals as goal
use Rattle.columns.proofs.Bits.{bits_read_back}
use Rattle.columns.proofs.Bytes.{numbers_read_back, views_read_back, byte_examples}

pub returns : goal.returns
returns c = record { bits = bits_read_back; numbers = numbers_read_back; views = views_read_back; examples = byte_examples }
