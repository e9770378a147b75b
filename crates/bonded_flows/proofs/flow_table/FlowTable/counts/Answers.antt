use Rattle.bonded_flows.proofs.TableTurns.{slot-here}
use Rattle.bonded_flows.proofs.flow_table.FlowTable.counts.Goals as goal

pub returns : goal.returns
returns g c = λ setup comings given stands rests.
    let here = (slot-here c.args.self.now.slots.items c.args.flow c.index.result.now c.requires.exists c.index.ensures) in
    c.counts.ensures (g.C.HeaderCheck.accepts c.args.self.now.check) setup comings given (stands c.index.result.now here) (rests c.index.result.now here)
