use Rattle.std.proofs.Common.{get_or, ◌∙◌}
use Rattle.docsis_wire.proofs.TakenAway.{by_pair}
use Rattle.docsis_wire.proofs.frame_sequence.after_pair.Goals as goal

pub returns : goal.returns
returns c = c.after_words.ensures ∙ by_pair c.args.remainder (get_or c.args.pair 0 0) (get_or c.args.pair 1 0)
