use Rattle.flow_core.proofs.Turns.{leads-split, leads-in_turn}
use Rattle.flow_core.proofs.laws.events_lead_on_in_turn.Goals as goal

pub returns : goal.returns
returns c = λ first width events more answers fates after. (leads-split first width events more answers fates after, leads-in_turn first width events more answers fates after)
