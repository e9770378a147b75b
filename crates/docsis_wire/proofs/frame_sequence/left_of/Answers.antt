use Rattle.docsis_wire.proofs.Remainders.{frame_table_at}
use Rattle.docsis_wire.proofs.frame_sequence.left_of.Goals as goal

pub returns : goal.returns
returns c = frame_table_at c.args.behind c.args.dividend c.requires
