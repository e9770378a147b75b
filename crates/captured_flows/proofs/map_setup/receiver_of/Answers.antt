use Rattle.captured_flows.proofs.map_setup.receiver_of.Goals as goal

pub returns-in-Ok-new-clause-at_hand : goal.returns-in-Ok-new-clause-at_hand
returns-in-Ok-new-clause-at_hand g c =
    c.new-in-Ok-new.ensures.at_hand _ _ c.in-Ok-new.ensures.stands c.in-Ok-new.ensures.settled
