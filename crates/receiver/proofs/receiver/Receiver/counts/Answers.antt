-- The flow's counts are those of what it gave.
use Rattle.std.proofs.Common.{Bool, List, ℕ, length, subst}
use Rattle.consumer.specs.Given.{frames_of}
use Rattle.bonded_flows.specs.ByRule.{HasGivenByRule}
use Rattle.receiver.specs.HandedIn.{flow_inputs, begun_with, came_since}
use Rattle.receiver.proofs.InputsTaken.{part-at, since-so}
use Rattle.receiver.proofs.receiver.Receiver.counts.Goals as goal

pub returns-clause-counts : goal.returns-clause-counts
returns-clause-counts g c check made handed given flow_record stands of_record settled =
    let history = flow_inputs (length made.records) handed in
    since-so (frames_of c.args.flow given)
    (λ own part.
    subst (λ (accepted : List ℕ → Bool). HasGivenByRule accepted (begun_with made c.args.flow flow_record history) (came_since made c.args.flow flow_record history) own c.counts.result) stands.flows.check_is
    (c.counts.ensures (begun_with made c.args.flow flow_record history) (came_since made c.args.flow flow_record history) own part settled))
    (part-at g.C.HeaderCheck.accepts c.args.self.now.flows check made history given c.args.flow flow_record stands.flows of_record)
