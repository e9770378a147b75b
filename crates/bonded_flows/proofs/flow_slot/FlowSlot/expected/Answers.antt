-- A flow that wasn't begun expects its first number.
use Rattle.std.proofs.Common.{ap, ◌∙◌}
use Rattle.flow_records.specs.declared.record.FlowRecord.{FlowRecord}
use Rattle.bonded_flows.proofs.SlotStates.{not-begun, first-expected}
use Rattle.bonded_flows.proofs.flow_slot.FlowSlot.expected.Goals as goal

pub returns-in-None-clause-number : goal.returns-in-None-clause-number
returns-in-None-clause-number c = λ check setup comings given events lasts fates x stands rests ruled expected.
    ap (λ (r : FlowRecord). r.first) stands.record_is
    ∙ first-expected setup comings given (not-begun check setup c.args.self.now comings given stands c.in-None.is) events lasts fates x stands.in_range.first ruled expected
