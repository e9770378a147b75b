use Rattle.std.proofs.Common.{replicate}
use Rattle.flow_core.specs.Events.{gap}
use Rattle.flow_core.proofs.Turns.{near-behind, gaps-no_arrival}
use Rattle.flow_core.proofs.laws.gaps_after_keep_events_near.Goals as goal

pub returns-clause-gaps : goal.returns-clause-gaps
returns-clause-gaps c = λ first width n segments events near. near-behind first width segments events (replicate n gap) near (gaps-no_arrival n)

pub returns-clause-others : goal.returns-clause-others
returns-clause-others c = near-behind
