-- An input was handed in, in the place of one that came.
use Rattle.std.proofs.Common.{ℕ, ◌<◌, ◌++◌, ◌∷◌, [], Option, Some, sym, ap, subst, ◌∙◌}
use Rattle.std.specs.Box.{box_value}
use Rattle.docsis_wire.specs.declared.header_check.NoCheck.{NoCheck}
use Rattle.receiver.specs.declared.receiver.Receiver.{Receiver}
use Rattle.flow_selection.specs.Selection.{is_selected}
use Rattle.lane.specs.Inputs.{AnsweredInput}
use Rattle.receiver.specs.Entries.{came}
use Rattle.receiver.specs.HandedIn as handed_in
use Rattle.receiver.specs.HandedIn.{HandedIn, made_of}
use Rattle.texts.specs.declared.follow.happening.Happening.TheVariants.{Took}
use Rattle.texts.specs.declared.follow.happening.InputName.{InputName}
use Rattle.texts.specs.AnyHeader.{any_header}
use Rattle.texts.specs.Happening.{name_of_input}
use Rattle.texts.specs.Happened.{flow_admitted}
use Rattle.texts.specs.Inside.StandIn.{MayStandFor}
use Rattle.followed_traces.specs.Inside.Watched.{TellsStandingIfAny, ReceiverUnderWay, HasFollowed, would_be_followed}
use Rattle.followed_traces.proofs.FollowedTrace.{under_way, followed_more, settled_by_input, stands_in_for, tells_after, settled_after}
use Rattle.followed_traces.proofs.following.Following.take_in_place.Goals as goal

pub returns-in-Ok : goal.returns-in-Ok
returns-in-Ok c = λ state rule width setup entries came_in within may was.
    let now_is = under_way c.deref_mut.result.now (box_value c.self.inside.receiver) c.self.inside.happened c.args.self c.deref_mut.ensures.value c.self.view_is in
    let has = subst (λ (now : ReceiverUnderWay). HasFollowed state rule width setup entries now) now_is was in
    let gives = c.what_came_to_a_flow_has_one_answer.ensures.given in
    let replies = c.in-Ok.ensures.replies in
    let place = c.from.result in
    let within_place = subst (λ (channel : ℕ). channel < width.channels) (sym c.from.ensures) within in
    let answered : AnsweredInput = record { input = c.args.input; answer = replies.answer } in
    let one : HandedIn = handed_in.came place answered in
    let made = made_of rule width.channels setup in
    let stands = replies.takes.stands any_header made has.others has.also has.stands in
    let added = c.add_reply.ensures in
    let may_stand = subst (λ (now : ReceiverUnderWay). MayStandFor would_be_followed (is_selected state.settings.selected) (Some now) place came_in c.args.input) now_is
    (subst (λ (on : ℕ). MayStandFor would_be_followed (is_selected state.settings.selected) (Some c.args.self) on came_in c.args.input) (sym c.from.ensures) may) in
    followed_more state rule width setup entries _ has gives c.take.new.self c.take.new.out one (came c.args.channel came_in) _ c.add_reply.new.happened
    within_place replies.takes
    (λ so_far. stands_in_for state rule width setup entries _ has gives place c.args.channel came_in c.args.input replies.answer _ (sym c.from.ensures) within_place may_stand so_far)
    (settled_by_input state rule width setup entries _ has c.take.new.self c.take.result c.in-Ok.reply c.in-Ok.is c.take.ensures.others c.in-Ok.ensures.settled)
    (record {
      reply = c.in-Ok.reply;
      says = replies.says;
      rightly = replies.told any_header made has.others has.also has.stands;
      standing = added.0;
      stands = tells_after c.take.new.self made (has.others ++ one ∷ []) (has.also ++ replies.takes.given_more) stands (flow_admitted c.in-Ok.reply) added.0
          (settled_after c.take.new.self c.in-Ok.reply c.in-Ok.ensures.settled)
          (subst (λ (receiver : Receiver NoCheck). TellsStandingIfAny receiver (flow_admitted c.in-Ok.reply) added.0) c.deref.ensures
          (subst (λ (flow : Option ℕ). TellsStandingIfAny c.deref.result.now flow added.0) c.flow_admitted-flow.ensures added.1));
      are =
          ap (λ (name : InputName). Took name c.in-Ok.reply ∷ added.0)
          (c.of-name.ensures ∙ ap (λ (channel : ℕ). name_of_input channel c.args.input) (sym c.from.ensures));
    })
    added.2
