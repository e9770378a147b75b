-- A flow of the whole begins anew.
use Rattle.std.proofs.Common.{[], refl, ◌∙◌, rules}
use Rattle.selected_receiver.proofs.Settled.{rest-of_others}
use Rattle.selected_receiver.proofs.WholeTaken.{hands-nothing, takes-nothing, takes-restart, same-handed, some-restarted, receiving-then}
use Rattle.selected_receiver.proofs.selected_receiver.SelectedReceiver.restart.Goals as goal

pub returns-in-Ok-clause-restarts : goal.returns-in-Ok-clause-restarts
returns-in-Ok-clause-restarts g c =
    let after = g.O.Consumer.after in
    let hands = c.in-Ok.ensures.restarts.was_given c.new-told.result [] (hands-nothing after c.new-told.result) in
    let name = hands.same ∙ c.new-told.ensures.same_reference in
    let restarts = takes-restart g.C.HeaderCheck.accepts after c.args.self.now (record { receiver = c.restart.new.self; selected = c.args.self.now.selected }) c.new-told.result c.restart.new.out refl
    c.new-told.ensures.selected c.args.flow c.args.first c.in-Ok.counts c.in-Ok.ensures.restarts in
    search (rules, c.new-told.ensures.same)

pub returns-in-Ok-clause-receiving : goal.returns-in-Ok-clause-receiving
returns-in-Ok-clause-receiving g c =
    let accepts = g.C.HeaderCheck.accepts in
    let after = g.O.Consumer.after in
    let old = c.args.self.now in
    receiving-then accepts after old (record { receiver = c.restart.new.self; selected = old.selected }) c.new-told.result.out.now c.restart.new.out.out.now
    (some-restarted accepts after old (record { receiver = c.restart.new.self; selected = old.selected }) c.new-told.result c.restart.new.out refl c.new-told.ensures.selected c.args.flow
    c.args.first c.in-Ok.counts
    (takes-restart accepts after old (record { receiver = c.restart.new.self; selected = old.selected }) c.new-told.result c.restart.new.out refl c.new-told.ensures.selected c.args.flow
    c.args.first c.in-Ok.counts c.in-Ok.ensures.restarts))
    c.requires.at_hand.receiving

pub returns-in-Ok-clause-at_hand : goal.returns-in-Ok-clause-at_hand
returns-in-Ok-clause-at_hand g c = record {
  receiving = returns-in-Ok-clause-receiving g c;
  settled = rest-of_others c.args.self.now.receiver.flows c.restart.new.self.flows c.args.flow c.restart.ensures.others c.in-Ok.ensures.settled c.requires.at_hand.settled;
}

pub returns-in-Err-OutOfMemory-clause-fails : goal.returns-in-Err-OutOfMemory-clause-fails
returns-in-Err-OutOfMemory-clause-fails g c =
    let after = g.O.Consumer.after in
    let takes = takes-nothing g.C.HeaderCheck.accepts after c.args.self.now (record { receiver = c.restart.new.self; selected = c.args.self.now.selected }) c.new-told.result c.restart.new.out refl
    c.new-told.ensures.selected c.in-Err-OutOfMemory.ensures.not_taken in
    let hands = same-handed g.C.HeaderCheck.accepts after c.args.self.now (record { receiver = c.restart.new.self; selected = c.args.self.now.selected }) c.new-told.result c.restart.new.out refl
    c.new-told.ensures.selected [] c.in-Err-OutOfMemory.ensures.not_taken in
    let name = hands ∙ c.new-told.ensures.same_reference in
    search (rules, c.new-told.ensures.same)

pub returns-in-Err-OutOfMemory-clause-receiving : goal.returns-in-Err-OutOfMemory-clause-receiving
returns-in-Err-OutOfMemory-clause-receiving g c =
    let accepts = g.C.HeaderCheck.accepts in
    let after = g.O.Consumer.after in
    let old = c.args.self.now in
    receiving-then accepts after old (record { receiver = c.restart.new.self; selected = old.selected }) c.new-told.result.out.now c.restart.new.out.out.now
    (takes-nothing accepts after old (record { receiver = c.restart.new.self; selected = old.selected }) c.new-told.result c.restart.new.out refl c.new-told.ensures.selected
    c.in-Err-OutOfMemory.ensures.not_taken)
    c.requires.at_hand.receiving

pub returns-in-Err-clause-fails : goal.returns-in-Err-clause-fails
returns-in-Err-clause-fails g c =
    let after = g.O.Consumer.after in
    let takes = takes-nothing g.C.HeaderCheck.accepts after c.args.self.now (record { receiver = c.restart.new.self; selected = c.args.self.now.selected }) c.new-told.result c.restart.new.out refl
    c.new-told.ensures.selected c.in-Err.ensures.not_taken in
    let hands = same-handed g.C.HeaderCheck.accepts after c.args.self.now (record { receiver = c.restart.new.self; selected = c.args.self.now.selected }) c.new-told.result c.restart.new.out refl
    c.new-told.ensures.selected [] c.in-Err.ensures.not_taken in
    let name = hands ∙ c.new-told.ensures.same_reference in
    search (rules, c.new-told.ensures.same)

pub returns-in-Err-clause-receiving : goal.returns-in-Err-clause-receiving
returns-in-Err-clause-receiving g c =
    let accepts = g.C.HeaderCheck.accepts in
    let after = g.O.Consumer.after in
    let old = c.args.self.now in
    receiving-then accepts after old (record { receiver = c.restart.new.self; selected = old.selected }) c.new-told.result.out.now c.restart.new.out.out.now
    (takes-nothing accepts after old (record { receiver = c.restart.new.self; selected = old.selected }) c.new-told.result c.restart.new.out refl c.new-told.ensures.selected
    c.in-Err.ensures.not_taken)
    c.requires.at_hand.receiving
