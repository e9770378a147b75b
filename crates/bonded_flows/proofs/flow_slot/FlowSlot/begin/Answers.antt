-- A new flow stands for what was decided of one to which no segment came.
use Rattle.bonded_flows.proofs.SlotStates.{slot-begins}
use Rattle.bonded_flows.proofs.flow_slot.FlowSlot.begin.Goals as goal

pub returns-clause-stands : goal.returns-clause-stands
returns-clause-stands c = λ check setup comings given stands.
    slot-begins check setup c.args.self.now c.in_ok-flow.flow comings given (c.in_ok-flow.ensures.stands check) c.in_ok-flow.ensures.settled c.requires.none stands
