-- The whole is closed.
use Rattle.std.proofs.Common.{[], refl, ◌∙◌, rules}
use Rattle.selected_receiver.proofs.WholeTaken.{hands-nothing, closes-whole}
use Rattle.selected_receiver.proofs.selected_receiver.SelectedReceiver.close.Goals as goal

pub returns-in-Ok-clause-closes : goal.returns-in-Ok-clause-closes
returns-in-Ok-clause-closes g c =
    let after = g.O.Consumer.after in
    let hands = c.in-Ok.ensures.closes.was_given c.new-told.result [] (hands-nothing after c.new-told.result) in
    let name = hands.same ∙ c.new-told.ensures.same_reference in
    let closes = closes-whole g.C.HeaderCheck.accepts after c.args.self c.args.self c.new-told.result c.close.new.out refl c.new-told.ensures.selected c.in-Ok.closed c.in-Ok.ensures.closes in
    search (rules, c.new-told.ensures.same)
