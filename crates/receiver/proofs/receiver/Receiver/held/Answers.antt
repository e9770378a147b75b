-- A flow holds what was kept from its expected index on.
use Rattle.std.proofs.Common.{length}
use Rattle.receiver.specs.HandedIn.{flow_inputs}
use Rattle.receiver.proofs.HeldSegments.{table-holds}
use Rattle.receiver.proofs.receiver.Receiver.held.Goals as goal

pub returns-clause-count : goal.returns-clause-count
returns-clause-count g c check made handed given flow_record stands of_record settled =
    table-holds g.C.HeaderCheck.accepts c.args.self.now.flows check made (flow_inputs (length made.records) handed) given c.args.flow flow_record c.held.result
    stands.flows of_record settled c.held.ensures
