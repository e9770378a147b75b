-- What the stand-ins' flow expects the flow of the whole expects.
use Rattle.flow_selection.specs.Selection.{is_selected}
use Rattle.selected_receiver.proofs.AlikeWhole.{expected-of_whole}
use Rattle.selected_receiver.proofs.selected_receiver.SelectedReceiver.expected.Goals as goal

pub returns-in-Some-clause-expects : goal.returns-in-Some-clause-expects
returns-in-Some-clause-expects g c = λ check made handed given flow_record was there.
    expected-of_whole (is_selected c.args.self.now.selected) was.others handed was.whole.stand_ins made c.args.flow flow_record c.in-Some.number
    (c.in-Some.ensures.number check made was.others was.also flow_record was.stands there (c.requires.settled c.args.flow))
