-- A burst is stood in for, and any other line is taken.
use Rattle.std.proofs.Common.{◌≡◌, ℕ, ◌∷◌, Option, sym, subst, ◌∙◌, rules}
use Rattle.std.specs.Prelude.{IfSome}
use Rattle.flow_selection.specs.declared.selection.Selection.{Selection}
use Rattle.flow_selection.specs.Selection.{is_selected}
use Rattle.lane.specs.declared.input.Input.{Input}
use Rattle.text_lines.specs.Capacities.{default_capacity}
use Rattle.text_lines.specs.Lines.{words_of}
use Rattle.texts.specs.declared.trace.trace_line.TraceLine.TheVariants as line
use Rattle.texts.specs.Trace.Line.{TraceShape, word_of, burst_line, Carries}
use Rattle.texts.specs.Inside.InPlace.{IsInPlaceOf, other_lines}
use Rattle.texts.specs.Inside.Replayed.{would_be_replayed}
use Rattle.texts.specs.Inside.StandIn.{StandsInForLine}
use Rattle.texts.proofs.ReplayedInPart.{in_its_place, taken_in_part, refused_in_part, burst_taken, burst_not_taken}
use Rattle.texts.proofs.replay.selected_replay.SelectedReplayTakeLine.take_line.Goals as goal

pub returns-in-Some-clause-taken : goal.returns-in-Some-clause-taken
returns-in-Some-clause-taken c = λ before has.
    let burst : c.args.field.now ≡ word_of burst_line = search rules in
    let replay = c.args.self.now in
    let words = words_of c.args.rest.now in
    let fields = word_of burst_line ∷ words in
    let channel = c.in-Some.channel in
    let stands = subst
    (λ (found : Option (ℕ × Input)). IfSome found
    (λ one. StandsInForLine would_be_replayed (is_selected replay.selected.now) replay.input.width replay.input.taker fields one.0 one.1))
    c.in-Some.is c.in_ok-channel.ensures.in_place in
    let carries = subst (λ (shape : TraceShape). Carries shape fields (line.Input channel stands.came)) (sym replay.input.shape ∙ has.replayed.setup.shape) (stands.carries default_capacity) in
    let state = other_lines before has.others in
    let in_place = subst (λ (flows : Selection). IsInPlaceOf (is_selected flows) state.said channel stands.came c.in-Some.input) has.selected_is
    (in_its_place (is_selected replay.selected.now) state _ _ _ _ has.replayed channel stands.came c.in-Some.input stands.may) in
    rw burst (burst_taken before _ _ _ _ _ has _ _ _ _ words channel stands.came c.in-Some.input carries in_place c.add_input.result (c.add_input.ensures state state.said has.replayed))

pub returns-in-Some-clause-fault : goal.returns-in-Some-clause-fault
returns-in-Some-clause-fault c = λ before has.
    let state = other_lines before has.others in
    burst_not_taken before.said (c.args.field.now ∷ words_of c.args.rest.now) state.said c.in-Some.channel c.in-Some.input _ c.add_input.result
    (c.add_input.ensures state state.said has.replayed)

pub returns-clause-taken : goal.returns-clause-taken
returns-clause-taken c = λ before has.
    taken_in_part before _ _ _ _ _ _ _ _ _ (c.args.field.now ∷ words_of c.args.rest.now) c.take_line.result c.take_line.ensures.taken has

pub returns-clause-fault : goal.returns-clause-fault
returns-clause-fault c = λ before has.
    refused_in_part before _ _ _ _ _ (c.args.field.now ∷ words_of c.args.rest.now) c.take_line.result c.take_line.ensures.fault has
