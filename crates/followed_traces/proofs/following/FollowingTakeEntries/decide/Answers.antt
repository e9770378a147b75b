-- A decision was handed in.
use Rattle.std.proofs.Common.{◌≡◌, ℕ, ◌++◌, ◌∷◌, [], Option, Some, refl, sym, ap, subst, ◌∙◌}
use Rattle.std.specs.Prelude.{Ok}
use Rattle.std.specs.Box.{box_value}
use Rattle.docsis_wire.specs.declared.header_check.NoCheck.{NoCheck}
use Rattle.receiver.specs.declared.receiver.Receiver.{Receiver}
use Rattle.bonded_flows.specs.declared.decision.FlowDecision.{FlowDecision}
use Rattle.receiver.specs.Entries.{decided}
use Rattle.receiver.specs.HandedIn as handed_in
use Rattle.receiver.specs.HandedIn.{made_of}
use Rattle.receiver.specs.Replaying.{entry_of, IsGapDecision}
use Rattle.receiver.proofs.ReplayedEntries.{decision-recorded, decision-entry}
use Rattle.texts.specs.AnyHeader.{any_header}
use Rattle.texts.specs.Happened.{flow_decided}
use Rattle.followed_traces.specs.Inside.Watched.{TellsStandingIfAny, ReceiverUnderWay, HasFollowed}
use Rattle.followed_traces.proofs.FollowedTrace.{under_way, followed_more, all_settled_decided, tells_after, settled_decided, passed_over}
use Rattle.followed_traces.proofs.following.FollowingTakeEntries.decide.Goals as goal

pub returns-in-Ok : goal.returns-in-Ok
returns-in-Ok c = λ state rule setup entries was.
    let gives = c.what_came_to_a_flow_has_one_answer.ensures.given in
    let now_is = under_way c.deref_mut.result.now (box_value c.self.inside.receiver) c.self.inside.happened c.args.self c.deref_mut.ensures.value c.self.view_is in
    let has = subst (λ (now : ReceiverUnderWay). HasFollowed state rule c.args._width setup entries now) now_is was in
    let decision = c.args.decision in
    let takes = c.in-Ok.ensures.takes in
    let one = handed_in.decided decision.flow c.decided_by.result in
    let made = made_of rule c.args._width.channels setup in
    let added = c.add_reply.ensures in
    followed_more state rule c.args._width setup entries _ has gives c.decide.new.self c.decide.new.out one (decided decision) _ c.add_reply.new.happened
    (subst IsGapDecision (sym c.decided_by.ensures) (decision-recorded decision))
    takes
    (λ so_far. subst (λ (what : FlowDecision). entry_of (handed_in.decided decision.flow what) ≡ Some (decided decision)) (sym c.decided_by.ensures) (decision-entry decision))
    (all_settled_decided _ c.decide.new.self decision.flow c.in-Ok.reply has.settled
    (λ passed. (c.decide.ensures.unchanged (c.in-Ok.is ∙ ap Ok passed)).0) c.decide.ensures.others c.in-Ok.ensures.settled)
    (record {
      reply = c.in-Ok.reply;
      passed_over = passed_over c.decide.result c.in-Ok.reply decision.flow _ _ c.decided_by.result c.in-Ok.is has.stands.flows.flow_count c.decide.ensures.passed_over;
      rightly = c.in-Ok.ensures.told any_header made has.others has.also has.stands;
      standing = added.0;
      stands =
          tells_after c.decide.new.self made (has.others ++ one ∷ []) (has.also ++ takes.given_more)
          (takes.stands any_header made has.others has.also has.stands) (flow_decided decision.flow c.in-Ok.reply) added.0
          (settled_decided c.decide.new.self decision.flow c.in-Ok.reply c.in-Ok.ensures.settled)
          (subst (λ (receiver : Receiver NoCheck). TellsStandingIfAny receiver (flow_decided decision.flow c.in-Ok.reply) added.0) c.deref.ensures
          (subst (λ (flow : Option ℕ). TellsStandingIfAny c.deref.result.now flow added.0) c.flow_decided-taken_of.ensures added.1));
      are = refl;
    })
    added.2
