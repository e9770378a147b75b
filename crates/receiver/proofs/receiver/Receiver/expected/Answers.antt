-- The flow knows what it expects.
use Rattle.receiver.specs.HandedIn.{flow_inputs, begun_with, came_since}
use Rattle.std.proofs.Common.{length}
use Rattle.receiver.proofs.InputsTaken.{part-at}
use Rattle.receiver.proofs.receiver.Receiver.expected.Goals as goal

pub returns-clause-number : goal.returns-clause-number
returns-clause-number g c check made handed given flow_record stands of_record settled events lasts fates x ruled is_expected =
    let history = flow_inputs (length made.records) handed in
    let part = part-at g.C.HeaderCheck.accepts c.args.self.now.flows check made history given c.args.flow flow_record stands.flows of_record in
    c.expected.ensures.number (begun_with made c.args.flow flow_record history) (came_since made c.args.flow flow_record history) part.own events lasts fates x part.is_so settled ruled is_expected
