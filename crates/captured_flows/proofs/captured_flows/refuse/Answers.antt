use Rattle.std.proofs.Common.{ℕ, subst}
use Rattle.lane.specs.declared.input.Input.TheVariants.{Grant}
use Rattle.selected_receiver.specs.Taking.{RepliesOfWhole}
use Rattle.captured_flows.proofs.Taken.{takes-unsound}
use Rattle.captured_flows.proofs.Broken.{on-any_err, breaks-untold, some-then}
use Rattle.captured_flows.proofs.captured_flows.refuse.Goals as goal

pub returns-clause-takes : goal.returns-clause-takes
returns-clause-takes g c =
    let replies = subst (λ (n : ℕ). RepliesOfWhole g.C.HeaderCheck.accepts g.O.Consumer.after c.args.receiver.now c.args.out.now c.args.channel (Grant 0 c.args.burst.sid n) c.in_ok-take_grant.field-0 c.take_grant.new.receiver c.take_grant.new.out)
    c.granted_to-granted.ensures c.in_ok-take_grant.ensures.replies in
    takes-unsound g.C.HeaderCheck.accepts g.O.Consumer.after g.O.CaptureConsumer.saw g.met.O.CaptureConsumer.begins g.met.O.CaptureConsumer.sees c.args.receiver.now c.take_grant.new.receiver c.take_unadmitted.new.receiver
    c.args.out.now c.take_grant.new.out c.take_unadmitted.new.out c.args.channel c.args.burst c.in_ok-take_grant.field-0 c.in_ok-reply.reply c.requires.unsound
    replies c.in_ok-take_grant.ensures.admits c.in_ok-take_grant.ensures.at_hand c.in_ok-reply.ensures.replies c.in_ok-reply.ensures.admits c.in_ok-reply.ensures.at_hand

pub returns-in_err-take_grant-clause-breaks : goal.returns-in_err-take_grant-clause-breaks
returns-in_err-take_grant-clause-breaks g c =
    on-any_err c.from_residual.result
    (breaks-untold g.C.HeaderCheck.accepts g.O.Consumer.after g.O.CaptureConsumer.saw g.met.O.CaptureConsumer.begins g.met.O.CaptureConsumer.sees c.args.receiver.now c.take_grant.new.receiver c.args.out.now c.take_grant.new.out c.in_err-take_grant.ensures.fails)

pub returns-in_err-reply-clause-breaks : goal.returns-in_err-reply-clause-breaks
returns-in_err-reply-clause-breaks g c =
    on-any_err c.from_residual-in_err-reply.result
    (breaks-untold g.C.HeaderCheck.accepts g.O.Consumer.after g.O.CaptureConsumer.saw g.met.O.CaptureConsumer.begins g.met.O.CaptureConsumer.sees c.args.receiver.now c.take_unadmitted.new.receiver c.args.out.now c.take_unadmitted.new.out
    (some-then g.C.HeaderCheck.accepts g.O.Consumer.after g.O.CaptureConsumer.saw c.args.receiver.now c.take_grant.new.receiver c.take_unadmitted.new.receiver c.args.out.now c.take_grant.new.out c.take_unadmitted.new.out _ _ _ c.in_ok-take_grant.ensures.replies c.in_err-reply.ensures.fails))
