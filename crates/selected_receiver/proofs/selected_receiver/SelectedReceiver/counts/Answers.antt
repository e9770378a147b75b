-- What was counted of a selected flow was counted of that of the whole.
use Rattle.std.proofs.Common.{ℕ, List, length, sym, subst}
use Rattle.std.proofs.lemmas.Option.{IfSome_then}
use Rattle.consumer.specs.Given.{frames_of}
use Rattle.bonded_flows.specs.ByRule.{HasGivenByRule}
use Rattle.bonded_flows.specs.Parts.{FlowInput, last_part, begun_at}
use Rattle.bonded_flows.specs.Table.{flow_setup, inputs_at}
use Rattle.flow_selection.specs.Selection.{is_selected}
use Rattle.receiver.specs.HandedIn.{flow_inputs}
use Rattle.receiver.specs.Receiving.{GaveSince}
use Rattle.selected_receiver.proofs.InTheirPlace.{inputs-for}
use Rattle.selected_receiver.proofs.selected_receiver.SelectedReceiver.counts.Goals as goal

pub returns-clause-counts : goal.returns-clause-counts
returns-clause-counts g c = IfSome_then c.counts.result c.counts.ensures.counts (λ counts is. λ check made handed given flow_record was there settled chosen.
    let flow = c.args.flow in
    let setup = flow_setup made flow flow_record in
    let n = length made.records in
    let theirs = is check made was.others was.also flow_record was.stands there settled in
    let came = inputs-for (is_selected c.args.self.now.selected) flow chosen n was.others handed was.whole.stand_ins in
    subst
    (λ (frames : List (List ℕ)). GaveSince (λ own. HasGivenByRule check (begun_at setup (last_part setup (inputs_at flow (flow_inputs n handed))).first)
    (last_part setup (inputs_at flow (flow_inputs n handed))).comings own counts) frames)
    (sym (was.whole.of_selected flow chosen))
    (subst
    (λ (inputs : List FlowInput). GaveSince (λ own. HasGivenByRule check (begun_at setup (last_part setup inputs).first) (last_part setup inputs).comings own counts) (frames_of flow was.also))
    (sym came) theirs))
