use Rattle.std.proofs.Common.{[], ◌∷◌}
use Rattle.bonded_flows.specs.declared.decision.FlowDecision.TheVariants.{SkipTo}
use Rattle.receiver.specs.HandedIn.{decided}
use Rattle.captured_flows.specs.Acts.{alone}
use Rattle.captured_flows.proofs.Taken.{Just, takes-as, takes-expected, takes-skip}
use Rattle.captured_flows.proofs.Broken.{on-any_err, breaks-untold, breaks-after}
use Rattle.captured_flows.proofs.flow_bursts.skip_past.Goals as goal

pub returns-clause-takes : goal.returns-clause-takes
returns-clause-takes g c =
    takes-as g.C.HeaderCheck.accepts g.O.Consumer.after g.O.CaptureConsumer.saw _ _ c.args.receiver.now _ c.args.out.now _
    (takes-expected g.C.HeaderCheck.accepts g.O.Consumer.after g.O.CaptureConsumer.saw (Just (alone (decided c.args.flow (SkipTo c.args.number)) ∷ [])) c.args.receiver.now _ c.args.out.now _ c.args.flow c.in_ok-number.number
    (takes-skip g.C.HeaderCheck.accepts g.O.Consumer.after g.O.CaptureConsumer.saw g.met.O.CaptureConsumer.begins g.met.O.CaptureConsumer.sees c.args.receiver.now c.skip.new.self c.args.out.now c.skip.new.out
    c.args.flow c.args.number c.in_ok-skip.ensures.takes c.in_ok-skip.ensures.at_hand)
    c.in_ok-number.ensures.expects)
    (λ made handed more spelled. record { all = spelled.0; expected = c.in_ok-number.number; expects = spelled.1; left_is = c.pass.ensures.ahead })

pub returns-in_err-skip-clause-breaks : goal.returns-in_err-skip-clause-breaks
returns-in_err-skip-clause-breaks g c =
    on-any_err c.from_residual.result
    (breaks-untold g.C.HeaderCheck.accepts g.O.Consumer.after g.O.CaptureConsumer.saw g.met.O.CaptureConsumer.begins g.met.O.CaptureConsumer.sees c.args.receiver.now c.skip.new.self c.args.out.now c.skip.new.out c.in_err-skip.ensures.fails)

pub returns-in_err-number-clause-breaks : goal.returns-in_err-number-clause-breaks
returns-in_err-number-clause-breaks g c =
    on-any_err c.from_residual-in_err-number.result
    (breaks-after g.C.HeaderCheck.accepts g.O.Consumer.after g.O.CaptureConsumer.saw _ c.args.receiver.now c.skip.new.self c.args.out.now c.skip.new.out
    (takes-skip g.C.HeaderCheck.accepts g.O.Consumer.after g.O.CaptureConsumer.saw g.met.O.CaptureConsumer.begins g.met.O.CaptureConsumer.sees c.args.receiver.now c.skip.new.self c.args.out.now c.skip.new.out
    c.args.flow c.args.number c.in_ok-skip.ensures.takes c.in_ok-skip.ensures.at_hand))
