use Rattle.docsis_wire.proofs.Remainders.{header_by_table}
use Rattle.docsis_wire.proofs.header_sequence.next_remainder.Goals as goal

pub returns : goal.returns
returns c = header_by_table c.args.remainder c.args.byte c.from.result c.from-2.result c.from.ensures c.from-2.ensures
