-- Each flow's set has the channels of the rows so far that give the flow an identifier.
use Rattle.bonded_flows.proofs.ChannelSets.{AreMarked}
use Rattle.bonded_flows.proofs.channel_sets.channel_sets.Given as goal

abbrev pub invariant-loop-row : goal.invariant-loop-row
invariant-loop-row l = AreMarked l.sets.items l.flow_count l.rows l.row-index
