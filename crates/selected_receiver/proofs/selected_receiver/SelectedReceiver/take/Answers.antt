-- The whole takes an input.
use Rattle.std.proofs.Common.{refl, ◌∙◌, rules}
use Rattle.selected_receiver.proofs.Settled.{rest-replied}
use Rattle.selected_receiver.proofs.WholeTaken.{same-handed, takes-input, some-replied, some-failed, failed-handed, receiving-then}
use Rattle.selected_receiver.proofs.selected_receiver.SelectedReceiver.take.Goals as goal

pub returns-in-Ok-clause-replies : goal.returns-in-Ok-clause-replies
returns-in-Ok-clause-replies g c =
    let after = g.O.Consumer.after in
    let hands = same-handed g.C.HeaderCheck.accepts after c.args.self.now (record { receiver = c.take.new.self; selected = c.args.self.now.selected }) c.new-told.result c.take.new.out refl
    c.new-told.ensures.selected _ c.in-Ok.ensures.replies.takes in
    let name = hands ∙ c.new-told.ensures.same_reference in
    let replies = takes-input g.C.HeaderCheck.accepts after c.args.self.now (record { receiver = c.take.new.self; selected = c.args.self.now.selected }) c.new-told.result c.take.new.out refl
    c.new-told.ensures.selected c.args.channel c.args.input c.stand_in-input.result c.stand_in-input.ensures c.has_bytes.ensures c.in-Ok.reply c.in-Ok.ensures.replies in
    search (rules, c.new-told.ensures.same)

pub returns-in-Ok-clause-receiving : goal.returns-in-Ok-clause-receiving
returns-in-Ok-clause-receiving g c =
    let accepts = g.C.HeaderCheck.accepts in
    let after = g.O.Consumer.after in
    let old = c.args.self.now in
    receiving-then accepts after old (record { receiver = c.take.new.self; selected = old.selected }) c.new-told.result.out.now c.take.new.out.out.now
    (some-replied accepts after old (record { receiver = c.take.new.self; selected = old.selected }) c.new-told.result c.take.new.out refl c.new-told.ensures.selected c.args.channel
    c.args.input c.in-Ok.reply
    (takes-input accepts after old (record { receiver = c.take.new.self; selected = old.selected }) c.new-told.result c.take.new.out refl c.new-told.ensures.selected c.args.channel
    c.args.input c.stand_in-input.result c.stand_in-input.ensures c.has_bytes.ensures c.in-Ok.reply c.in-Ok.ensures.replies))
    c.requires.at_hand.receiving

pub returns-in-Ok-clause-at_hand : goal.returns-in-Ok-clause-at_hand
returns-in-Ok-clause-at_hand g c = record {
  receiving = returns-in-Ok-clause-receiving g c;
  settled = rest-replied c.args.self.now.receiver c.take.new.self c.in-Ok.reply c.in-Ok.ensures.others c.in-Ok.ensures.settled c.requires.at_hand.settled;
}

pub returns-in-Err-clause-fails : goal.returns-in-Err-clause-fails
returns-in-Err-clause-fails g c =
    let after = g.O.Consumer.after in
    let hands = failed-handed g.C.HeaderCheck.accepts after c.args.self.now (record { receiver = c.take.new.self; selected = c.args.self.now.selected }) c.new-told.result c.take.new.out refl
    c.new-told.ensures.selected c.args.channel c.stand_in-input.result c.in-Err.error c.in-Err.ensures.fails in
    let name = hands ∙ c.new-told.ensures.same_reference in
    let takes = some-failed g.C.HeaderCheck.accepts after c.args.self.now (record { receiver = c.take.new.self; selected = c.args.self.now.selected }) c.new-told.result c.take.new.out refl
    c.new-told.ensures.selected c.args.channel c.args.input c.stand_in-input.result c.stand_in-input.ensures c.has_bytes.ensures c.in-Err.error c.in-Err.ensures.fails in
    search (rules, c.new-told.ensures.same)

pub returns-in-Err-clause-receiving : goal.returns-in-Err-clause-receiving
returns-in-Err-clause-receiving g c =
    let accepts = g.C.HeaderCheck.accepts in
    let after = g.O.Consumer.after in
    let old = c.args.self.now in
    receiving-then accepts after old (record { receiver = c.take.new.self; selected = old.selected }) c.new-told.result.out.now c.take.new.out.out.now
    (some-failed accepts after old (record { receiver = c.take.new.self; selected = old.selected }) c.new-told.result c.take.new.out refl c.new-told.ensures.selected c.args.channel
    c.args.input c.stand_in-input.result c.stand_in-input.ensures c.has_bytes.ensures c.in-Err.error c.in-Err.ensures.fails)
    c.requires.at_hand.receiving
