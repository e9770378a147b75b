use Rattle.std.proofs.Common.{◌<◌, subst, sym}
use Rattle.flow_records.specs.declared.record.FlowRecord.{FlowRecord}
use Rattle.bonded_flows.proofs.TableTurns.{slot-here, slot-in_use}
use Rattle.bonded_flows.proofs.flow_table.FlowTable.expected.Goals as goal

pub expected-requires : goal.expected-requires
expected-requires g c =
    let in_use = slot-in_use g.C.HeaderCheck.accepts c.args.self.now c.args.flow c.index.result.now
    (slot-here c.args.self.now.slots.items c.args.flow c.index.result.now c.requires.exists c.index.ensures) c.requires.in_use in
    record { in_range = subst (λ (r : FlowRecord). r.first < 8192) (sym in_use.stands.record_is) in_use.stands.in_range.first }

pub returns-clause-number : goal.returns-clause-number
returns-clause-number g c = λ setup comings given events lasts fates x stands rests ruled expected.
    let here = (slot-here c.args.self.now.slots.items c.args.flow c.index.result.now c.requires.exists c.index.ensures) in
    c.expected.ensures.number (g.C.HeaderCheck.accepts c.args.self.now.check) setup comings given events lasts fates x (stands c.index.result.now here) (rests c.index.result.now here) ruled expected
