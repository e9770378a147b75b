use Rattle.std.proofs.Common.{Bool, subst}
use Rattle.capture_rules.specs.Held.{held_by, wait_of}
use Rattle.captured_flows.specs.Flow.{Holds}
use Rattle.captured_flows.proofs.HandedIn.{holds-if, hands-in}
use Rattle.captured_flows.proofs.Taken.{takes-as, takes-then, takes-expected, takes-told}
use Rattle.captured_flows.proofs.Broken.{on-any_err, breaks-told, breaks-behind, breaks-after, some-then}
use Rattle.captured_flows.proofs.flow_bursts.hand_in.Goals as goal

pub returns-clause-takes : goal.returns-clause-takes
returns-clause-takes g c =
    let r0 = c.args.receiver.now in
    let o0 = c.args.out.now in
    let k = c.args.flow in
    let w = wait_of c.args.held.now in
    let between = held_by c.let_go.new.held in
    let holding = held_by c.keep_if.new.held in
    takes-as g.C.HeaderCheck.accepts g.O.Consumer.after g.O.CaptureConsumer.saw _ _ r0 c.take_of.new.receiver o0 c.replied.new.self
    (takes-expected g.C.HeaderCheck.accepts g.O.Consumer.after g.O.CaptureConsumer.saw _ r0 c.take_of.new.receiver o0 c.replied.new.self k c.in_ok-number.number
    (takes-then g.C.HeaderCheck.accepts g.O.Consumer.after g.O.CaptureConsumer.saw _ _ r0 c.let_go.new.receiver c.take_of.new.receiver o0 c.let_go.new.out c.replied.new.self c.in_ok-let_go.ensures.takes
    (takes-told g.C.HeaderCheck.accepts g.O.Consumer.after g.O.CaptureConsumer.saw g.met.O.CaptureConsumer.begins g.met.O.CaptureConsumer.sees c.let_go.new.receiver c.take_grant.new.receiver c.take_of.new.receiver
    c.let_go.new.out c.hand_in.new.self c.take_grant.new.out c.take_of.new.out c.replied.new.self k c.args.one c.in_ok-take_grant.field-0 c.in_ok-reply.reply c.hand_in.ensures
    c.in_ok-take_grant.ensures.replies c.in_ok-take_grant.ensures.admits c.in_ok-take_grant.ensures.at_hand c.in_ok-reply.ensures.replies c.in_ok-reply.ensures.admits c.in_ok-reply.ensures.at_hand c.replied.ensures))
    c.in_ok-number.ensures.expects)
    (λ made handed more spelled.
    hands-in made w k c.args.one (held_by c.args.held.now) between holding (held_by c.pass.new.self) handed more c.in_ok-take_grant.field-0 c.in_ok-reply.reply c.in_ok-number.number spelled.0 spelled.1
    (subst (λ (b : Bool). Holds made w k c.args.one between b holding) c.says_kept.ensures
    (holds-if made w k c.args.one c.of-entry.result between holding c.says_kept.result c.of-entry.ensures.number c.of-entry.ensures.time c.in_ok-keep_if.ensures.kept c.keep_if.ensures.not_kept))
    c.pass.ensures.ahead)

pub returns-in_err-take_grant-clause-breaks : goal.returns-in_err-take_grant-clause-breaks
returns-in_err-take_grant-clause-breaks g c =
    on-any_err c.from_residual-in_err-take_grant.result
    (breaks-behind g.C.HeaderCheck.accepts g.O.Consumer.after g.O.CaptureConsumer.saw _ c.args.receiver.now c.let_go.new.receiver c.take_grant.new.receiver c.args.out.now c.let_go.new.out c.take_grant.new.out c.in_ok-let_go.ensures.takes
    (breaks-told g.C.HeaderCheck.accepts g.O.Consumer.after g.O.CaptureConsumer.saw g.met.O.CaptureConsumer.begins g.met.O.CaptureConsumer.sees c.let_go.new.receiver c.take_grant.new.receiver c.let_go.new.out c.hand_in.new.self c.take_grant.new.out c.args.flow c.args.one c.hand_in.ensures c.in_err-take_grant.ensures.fails))

pub returns-in_err-reply-clause-breaks : goal.returns-in_err-reply-clause-breaks
returns-in_err-reply-clause-breaks g c =
    on-any_err c.from_residual-in_err-reply.result
    (breaks-behind g.C.HeaderCheck.accepts g.O.Consumer.after g.O.CaptureConsumer.saw _ c.args.receiver.now c.let_go.new.receiver c.take_of.new.receiver c.args.out.now c.let_go.new.out c.take_of.new.out c.in_ok-let_go.ensures.takes
    (breaks-told g.C.HeaderCheck.accepts g.O.Consumer.after g.O.CaptureConsumer.saw g.met.O.CaptureConsumer.begins g.met.O.CaptureConsumer.sees c.let_go.new.receiver c.take_of.new.receiver c.let_go.new.out c.hand_in.new.self c.take_of.new.out c.args.flow c.args.one c.hand_in.ensures
    (some-then g.C.HeaderCheck.accepts g.O.Consumer.after g.O.CaptureConsumer.saw c.let_go.new.receiver c.take_grant.new.receiver c.take_of.new.receiver c.hand_in.new.self c.take_grant.new.out c.take_of.new.out _ _ _ c.in_ok-take_grant.ensures.replies c.in_err-reply.ensures.fails)))

pub returns-in_err-keep_if-clause-breaks : goal.returns-in_err-keep_if-clause-breaks
returns-in_err-keep_if-clause-breaks g c =
    on-any_err c.from_residual-in_err-keep_if.result
    (breaks-after g.C.HeaderCheck.accepts g.O.Consumer.after g.O.CaptureConsumer.saw _ c.args.receiver.now c.take_of.new.receiver c.args.out.now c.replied.new.self
    (takes-then g.C.HeaderCheck.accepts g.O.Consumer.after g.O.CaptureConsumer.saw _ _ c.args.receiver.now c.let_go.new.receiver c.take_of.new.receiver c.args.out.now c.let_go.new.out c.replied.new.self c.in_ok-let_go.ensures.takes
    (takes-told g.C.HeaderCheck.accepts g.O.Consumer.after g.O.CaptureConsumer.saw g.met.O.CaptureConsumer.begins g.met.O.CaptureConsumer.sees c.let_go.new.receiver c.take_grant.new.receiver c.take_of.new.receiver
    c.let_go.new.out c.hand_in.new.self c.take_grant.new.out c.take_of.new.out c.replied.new.self c.args.flow c.args.one c.in_ok-take_grant.field-0 c.in_ok-reply.reply c.hand_in.ensures
    c.in_ok-take_grant.ensures.replies c.in_ok-take_grant.ensures.admits c.in_ok-take_grant.ensures.at_hand c.in_ok-reply.ensures.replies c.in_ok-reply.ensures.admits c.in_ok-reply.ensures.at_hand c.replied.ensures)))

pub returns-in_err-number-clause-breaks : goal.returns-in_err-number-clause-breaks
returns-in_err-number-clause-breaks g c =
    on-any_err c.from_residual-in_err-number.result
    (breaks-after g.C.HeaderCheck.accepts g.O.Consumer.after g.O.CaptureConsumer.saw _ c.args.receiver.now c.take_of.new.receiver c.args.out.now c.replied.new.self
    (takes-then g.C.HeaderCheck.accepts g.O.Consumer.after g.O.CaptureConsumer.saw _ _ c.args.receiver.now c.let_go.new.receiver c.take_of.new.receiver c.args.out.now c.let_go.new.out c.replied.new.self c.in_ok-let_go.ensures.takes
    (takes-told g.C.HeaderCheck.accepts g.O.Consumer.after g.O.CaptureConsumer.saw g.met.O.CaptureConsumer.begins g.met.O.CaptureConsumer.sees c.let_go.new.receiver c.take_grant.new.receiver c.take_of.new.receiver
    c.let_go.new.out c.hand_in.new.self c.take_grant.new.out c.take_of.new.out c.replied.new.self c.args.flow c.args.one c.in_ok-take_grant.field-0 c.in_ok-reply.reply c.hand_in.ensures
    c.in_ok-take_grant.ensures.replies c.in_ok-take_grant.ensures.admits c.in_ok-take_grant.ensures.at_hand c.in_ok-reply.ensures.replies c.in_ok-reply.ensures.admits c.in_ok-reply.ensures.at_hand c.replied.ensures)))

pub returns-in_err-let_go-clause-breaks : goal.returns-in_err-let_go-clause-breaks
returns-in_err-let_go-clause-breaks g c = on-any_err c.from_residual.result c.in_err-let_go.ensures.breaks
