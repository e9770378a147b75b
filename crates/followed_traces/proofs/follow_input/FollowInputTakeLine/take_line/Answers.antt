-- A burst is stood in for, and any other line is taken.
use Rattle.std.proofs.Common.{◌≡◌, ℕ, ◌∷◌, Option, refl, sym, subst, ◌∙◌, rules}
use Rattle.std.specs.Prelude.{IfSome}
use Rattle.flow_selection.specs.Selection.{is_selected}
use Rattle.lane.specs.declared.input.Input.{Input}
use Rattle.text_lines.specs.Capacities.{default_capacity}
use Rattle.text_lines.specs.Lines.{words_of}
use Rattle.texts.specs.declared.follow.settings.FollowSettings.{FollowSettings}
use Rattle.texts.specs.declared.trace.trace_line.TraceLine.TheVariants as line
use Rattle.texts.specs.Trace.Line.{TraceShape, word_of, burst_line, Carries}
use Rattle.texts.specs.Inside.StandIn.{StandsInForLine, MayStandFor}
use Rattle.texts.proofs.HandedLines.{taken_with}
use Rattle.texts.proofs.ReplayedInPart.{burst_early}
use Rattle.texts.proofs.TraceSoFar.{taken_in_place, refused_in_place}
use Rattle.followed_traces.specs.Inside.Watched.{would_be_followed}
use Rattle.followed_traces.proofs.LinesOfWhole.{line_taken}
use Rattle.followed_traces.proofs.follow_input.FollowInputTakeLine.take_line.Goals as goal

pub returns-in-Some-clause-taken : goal.returns-in-Some-clause-taken
returns-in-Some-clause-taken c = λ before has.
    let burst : c.args.field.now ≡ word_of burst_line = search rules in
    let follow = c.args.self.now in
    let words = words_of c.args.rest.now in
    let fields = word_of burst_line ∷ words in
    let channel = c.in-Some.channel in
    let stands = subst
    (λ (found : Option (ℕ × Input)). IfSome found
    (λ one. StandsInForLine would_be_followed (is_selected follow.settings.selected) follow.input.width follow.input.taker fields one.0 one.1))
    c.in-Some.is c.in_ok-channel.ensures.in_place in
    let carries = subst (λ (shape : TraceShape). Carries shape fields (line.Input channel stands.came)) (sym follow.input.shape ∙ has.lines.setup.shape) (stands.carries default_capacity) in
    let may = subst (λ (settings : FollowSettings). MayStandFor would_be_followed (is_selected settings.selected) follow.input.taker channel stands.came c.in-Some.input) has.settings stands.may in
    rw burst (line_taken before follow c.add_in_place.new.self fields c.add_in_place.result has c.add_in_place.ensures.settings
    (taken_with before _ _ c.add_in_place.result
    (taken_in_place before.said fields (burst_early before.said words) (line.Input channel stands.came) carries _ c.add_in_place.result
    (c.add_in_place.ensures.lines before stands.came may before.said has.lines))))

pub returns-in-Some-clause-fault : goal.returns-in-Some-clause-fault
returns-in-Some-clause-fault c = λ before has.
    let burst : c.args.field.now ≡ word_of burst_line = search rules in
    let follow = c.args.self.now in
    let words = words_of c.args.rest.now in
    let fields = word_of burst_line ∷ words in
    let channel = c.in-Some.channel in
    let stands = subst
    (λ (found : Option (ℕ × Input)). IfSome found
    (λ one. StandsInForLine would_be_followed (is_selected follow.settings.selected) follow.input.width follow.input.taker fields one.0 one.1))
    c.in-Some.is c.in_ok-channel.ensures.in_place in
    let carries = subst (λ (shape : TraceShape). Carries shape fields (line.Input channel stands.came)) (sym follow.input.shape ∙ has.lines.setup.shape) (stands.carries default_capacity) in
    let may = subst (λ (settings : FollowSettings). MayStandFor would_be_followed (is_selected settings.selected) follow.input.taker channel stands.came c.in-Some.input) has.settings stands.may in
    rw burst (refused_in_place before.said fields (burst_early before.said words) (line.Input channel stands.came) carries _ c.add_in_place.result
    (c.add_in_place.ensures.lines before stands.came may before.said has.lines))

pub returns-clause-taken : goal.returns-clause-taken
returns-clause-taken c = λ before has.
    line_taken before c.args.self.now _ (c.args.field.now ∷ words_of c.args.rest.now) c.take_line.result has refl (c.take_line.ensures.taken before has.lines)

pub returns-clause-fault : goal.returns-clause-fault
returns-clause-fault c = λ before has. c.take_line.ensures.fault before has.lines
