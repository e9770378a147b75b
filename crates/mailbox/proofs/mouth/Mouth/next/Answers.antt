use Rattle.std.proofs.Common.{ap, ◌∙◌, rules}
use Rattle.crossbeam_queue.specs.Passes.{view}
use Rattle.mailbox.proofs.Steps.{takes, finds_nothing}
use Rattle.mailbox.proofs.MouthTaking.{took_item, took_end, still_takes}
use Rattle.mailbox.proofs.Marking.{marks_stay, marks_one}
use Rattle.mailbox.proofs.mouth.Mouth.next.Goals as goal

pub pop_as-requires-clause-rule : goal.pop_as-requires-clause-rule
pop_as-requires-clause-rule g c =
    let may = ap (λ v. v.takes) c.args.self.now.knows in
    (takes _ _ may, finds_nothing _ _ may)

pub returns-in-Item-clause-takes : goal.returns-in-Item-clause-takes
returns-in-Item-clause-takes g c =
    let t = took_item (view c.args.self.now.pass) (view c.pop_as.new.pass) c.in-Some.stamped c.in-Some.ensures.rule c.in-Item.item c.in-Item.is in
    record { five = c.in-Some.stamped.below; taken_is = t.0; ended_is = t.1; ends_are = t.2 }

pub returns-in-End-clause-takes : goal.returns-in-End-clause-takes
returns-in-End-clause-takes g c =
    let t = took_end (view c.args.self.now.pass) (view c.pop_as.new.pass) c.in-Some.stamped c.in-Some.ensures.rule c.in-End.is in
    record { five = c.in-Some.stamped.below; taken_is = t.0; ended_is = t.1; ends_are = t.2 }

pub invariant_of-self-in-Item-1 : goal.invariant_of-self-in-Item-1
invariant_of-self-in-Item-1 g c =
    let t = took_item (view c.args.self.now.pass) (view c.pop_as.new.pass) c.in-Some.stamped c.in-Some.ensures.rule c.in-Item.item c.in-Item.is in
    record {
      of_queue = search rules;
      knows = still_takes _ _ _ c.in-Some.ensures.rule c.args.self.now.knows;
      marks = c.args.self.now.marks ∙ marks_stay _ _ t.1;
    }

pub invariant_of-self-in-End : goal.invariant_of-self-in-End
invariant_of-self-in-End g c =
    let t = took_end (view c.args.self.now.pass) (view c.pop_as.new.pass) c.in-Some.stamped c.in-Some.ensures.rule c.in-End.is in
    record {
      of_queue = search rules;
      knows = still_takes _ _ _ c.in-Some.ensures.rule c.args.self.now.knows;
      marks = marks_one _ _ _ _ _ c.in-Some.stamped.below c.args.self.now.marks (search rules) t.1;
    }
