-- A flow of the whole skips.
use Rattle.std.proofs.Common.{Ok, [], ◌∷◌, refl, ap, ◌∙◌, rules}
use Rattle.bonded_flows.specs.declared.decision.FlowDecision.TheVariants.{SkipTo}
use Rattle.receiver.specs.HandedIn.{decided}
use Rattle.selected_receiver.proofs.Settled.{rest-decided}
use Rattle.selected_receiver.proofs.WholeTaken.{hands-nothing, takes-decided, some-of, some-decided, some-handed, receiving-then}
use Rattle.selected_receiver.proofs.selected_receiver.SelectedReceiver.skip.Goals as goal

pub returns-in-Ok-clause-takes : goal.returns-in-Ok-clause-takes
returns-in-Ok-clause-takes g c =
    let after = g.O.Consumer.after in
    let hands = c.in-Ok.ensures.takes.was_given c.new-told.result [] (hands-nothing after c.new-told.result) in
    let name = hands.same ∙ c.new-told.ensures.same_reference in
    let takes = takes-decided g.C.HeaderCheck.accepts after c.args.self.now (record { receiver = c.decide.new.self; selected = c.args.self.now.selected }) c.new-told.result c.decide.new.out refl
    c.new-told.ensures.selected c.args.flow (SkipTo c.args.number) c.in-Ok.ensures.takes in
    search (rules, c.new-told.ensures.same)

pub returns-in-Ok-clause-receiving : goal.returns-in-Ok-clause-receiving
returns-in-Ok-clause-receiving g c =
    let accepts = g.C.HeaderCheck.accepts in
    let after = g.O.Consumer.after in
    let old = c.args.self.now in
    receiving-then accepts after old (record { receiver = c.decide.new.self; selected = old.selected }) c.new-told.result.out.now c.decide.new.out.out.now
    (some-of accepts after old (record { receiver = c.decide.new.self; selected = old.selected }) c.new-told.result c.decide.new.out refl c.new-told.ensures.selected
    (decided c.args.flow (SkipTo c.args.number) ∷ [])
    (takes-decided accepts after old (record { receiver = c.decide.new.self; selected = old.selected }) c.new-told.result c.decide.new.out refl c.new-told.ensures.selected c.args.flow
    (SkipTo c.args.number) c.in-Ok.ensures.takes))
    c.requires.at_hand.receiving

pub returns-in-Ok-clause-at_hand : goal.returns-in-Ok-clause-at_hand
returns-in-Ok-clause-at_hand g c = record {
  receiving = returns-in-Ok-clause-receiving g c;
  settled = rest-decided c.args.self.now.receiver c.decide.new.self c.args.flow c.in-Ok.field-0 c.decide.ensures.others c.in-Ok.ensures.settled
      (λ same. (c.decide.ensures.unchanged (c.in-Ok.is ∙ ap Ok same)).0) c.requires.at_hand.settled;
}

pub returns-in-Err-clause-fails : goal.returns-in-Err-clause-fails
returns-in-Err-clause-fails g c =
    let after = g.O.Consumer.after in
    let takes = some-decided g.C.HeaderCheck.accepts after c.args.self.now (record { receiver = c.decide.new.self; selected = c.args.self.now.selected }) c.new-told.result c.decide.new.out refl
    c.new-told.ensures.selected c.args.flow (SkipTo c.args.number) c.in-Err.field-0 c.in-Err.ensures.not_taken in
    let hands = some-handed g.C.HeaderCheck.accepts after c.args.self.now (record { receiver = c.decide.new.self; selected = c.args.self.now.selected }) c.new-told.result c.decide.new.out refl
    c.new-told.ensures.selected (decided c.args.flow (SkipTo c.args.number)) c.in-Err.field-0 c.in-Err.ensures.not_taken in
    let name = hands ∙ c.new-told.ensures.same_reference in
    search (rules, c.new-told.ensures.same)

pub returns-in-Err-clause-receiving : goal.returns-in-Err-clause-receiving
returns-in-Err-clause-receiving g c =
    let accepts = g.C.HeaderCheck.accepts in
    let after = g.O.Consumer.after in
    let old = c.args.self.now in
    receiving-then accepts after old (record { receiver = c.decide.new.self; selected = old.selected }) c.new-told.result.out.now c.decide.new.out.out.now
    (some-decided accepts after old (record { receiver = c.decide.new.self; selected = old.selected }) c.new-told.result c.decide.new.out refl c.new-told.ensures.selected c.args.flow
    (SkipTo c.args.number) c.in-Err.field-0 c.in-Err.ensures.not_taken)
    c.requires.at_hand.receiving
