use Rattle.std.proofs.Common.{◌++◌, replicate}
use Rattle.flow_core.specs.Events.{gap}
use Rattle.flow_core.proofs.laws.closed_flow_gives_the_frames_that_were_all_kept.Goals as goal

pub returns : goal.returns
returns c = λ check frames chunks fill n segments flow_record events given counts cut near outcome closed.
    let still = c.gaps_after_keep_events_near.ensures.gaps flow_record.first flow_record.window n segments events near in
    let sequence =
    c.outcome_of_near_events_is_the_delivery_sequence.ensures check frames chunks fill segments flow_record (events ++ replicate n gap) outcome.answers given counts outcome.fates cut still outcome outcome.after in
    (c.closed_flow_has_come_past_all_kept.ensures.sequence frames chunks given outcome.fates closed).0 sequence
