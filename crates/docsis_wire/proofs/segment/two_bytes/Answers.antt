use Rattle.std.proofs.Common.{◌∙◌, arith}
use Rattle.docsis_wire.proofs.HeaderWords.{two_bytes-written}
use Rattle.docsis_wire.proofs.segment.two_bytes.Goals as goal

pub returns : goal.returns
returns c = c.to_be_bytes.ensures ∙ two_bytes-written c.args.word (omega arith)
