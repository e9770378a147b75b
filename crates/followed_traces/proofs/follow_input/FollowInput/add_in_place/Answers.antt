-- An input was handed in that may stand in for what the line says.
use Rattle.std.proofs.Common.{ℕ, ◌<◌, refl, subst}
use Rattle.flow_selection.specs.Selection.{is_selected}
use Rattle.receiver.specs.Entries.{came}
use Rattle.receiver.specs.declared.width.Width.{Width}
use Rattle.texts.proofs.HandedLines.{entry_handed}
use Rattle.texts.proofs.TraceSoFar.{input_without_fault}
use Rattle.followed_traces.specs.Inside.Watched.{starts_watched, HasFollowed}
use Rattle.followed_traces.proofs.LinesOfWhole.{may_stand}
use Rattle.followed_traces.proofs.follow_input.FollowInput.add_in_place.Goals as goal

pub returns-clause-lines : goal.returns-clause-lines
returns-clause-lines c = λ given came_in may said has.
    let state = record given { said = said } in
    let was = c.in_ok-taker.ensures.taker state has in
    let within = subst (λ (width : Width). c.args.channel < width.channels) has.width_is c.requires in
    let stands = may_stand (is_selected given.state.settings.selected) c.args.self.now.input.taker c.in_ok-taker.taker c.in_ok-taker.ensures.same c.args.channel came_in c.args.input may in
    record {
      faultless = input_without_fault said c.args.channel came_in;
      has = entry_handed starts_watched HasFollowed state _ _ _ _ has _ _ _ _ _ (came c.args.channel came_in)
          c.take_taker.ensures.width c.take_taker.ensures.rule c.take_taker.ensures.setup refl
          (c.in_ok-take_in_place.ensures given.state given.rule given.width c.args.self.now.input.setup.setup said.entries came_in within stands was);
    }
