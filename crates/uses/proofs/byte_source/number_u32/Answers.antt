-- Bytes that are a number are its bytes.
use Rattle.std.proofs.Common.{rules}
use Rattle.std.proofs.lemmas.Nat.{be_bytes_4}
use Rattle.uses.proofs.byte_source.number_u32.Goals as goal

pub returns : goal.returns
returns c = be_bytes_4 c.args.bytes.now c.from_be_bytes.result (search rules) c.fits-bytes c.from_be_bytes.ensures
