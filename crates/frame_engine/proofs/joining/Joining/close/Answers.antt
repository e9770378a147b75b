-- The receiver was closed.
use Rattle.std.proofs.Common.{Result, IfOk, subst, ap, ◌∙◌}
use Rattle.std.proofs.lemmas.Result.{on_ok_weaker}
use Rattle.receiver.specs.declared.closing.Closed.{Closed}
use Rattle.receiver.specs.declared.closing.Closing.{Closing}
use Rattle.selected_receiver.specs.Taking.{ClosesOfWhole}
use Rattle.selected_receiver.specs.declared.selected_receiver.SelectedReceiver.{SelectedReceiver}
use Rattle.flow_selection.specs.declared.selection.Selection.{Selection}
use Rattle.timed_frames.specs.Seen.{HasGiven}
use Rattle.frame_engine.specs.Compared.{arrivals_of_steps}
use Rattle.frame_engine.specs.Comparing.{Takes}
use Rattle.frame_engine.specs.declared.inner_check.InnerCheck.{InnerCheck}
use Rattle.frame_engine.specs.Settings.{inner_accepts}
use Rattle.frame_engine.proofs.Taken.{ended-closed}
use Rattle.frame_engine.proofs.Beside.{three-ok, closed-beside}
use Rattle.frame_engine.proofs.joining.Joining.close.Goals as goal

pub returns-in-Ok-clause-closed : goal.returns-in-Ok-clause-closed
returns-in-Ok-clause-closed c =
    let closes = subst (λ (receiver : SelectedReceiver InnerCheck). ClosesOfWhole inner_accepts HasGiven receiver c.args.self.timed c.in-Ok.closed c.close-selected.new.out) c.into_receiver.ensures
    (subst (λ (closed : Result Closed (Closing InnerCheck)). IfOk closed (λ closed. ClosesOfWhole inner_accepts HasGiven c.into_receiver.result c.args.self.timed closed c.close-selected.new.out)) c.in-Ok.is
    c.close-selected.ensures.closes) in
    on_ok_weaker c.put_came-put.result
    (λ puts. λ settings capture_map bursts written has.
    ended-closed settings capture_map bursts written c.args.self c.close-selected.new.out c.put_came-put.new.timed c.put_came-put.new.file c.in-Ok.closed has closes puts)
    c.put_came-put.ensures.put

pub returns-in-Ok-clause-compared : goal.returns-in-Ok-clause-compared
returns-in-Ok-clause-compared c =
    let closes = subst (λ (receiver : SelectedReceiver InnerCheck). ClosesOfWhole inner_accepts HasGiven receiver c.args.self.timed c.in-Ok.closed c.close-selected.new.out) c.into_receiver.ensures
    (subst (λ (closed : Result Closed (Closing InnerCheck)). IfOk closed (λ closed. ClosesOfWhole inner_accepts HasGiven c.into_receiver.result c.args.self.timed closed c.close-selected.new.out)) c.in-Ok.is
    c.close-selected.ensures.closes) in
    three-ok c.put_came-put.result
    (λ puts takes explains. λ settings capture_map records bursts written has.
    closed-beside settings capture_map records bursts written c.args.self c.close-selected.new.out c.put_came-put.new.timed c.put_came-put.new.file c.in-Ok.closed c.args.comparing.now
    c.put_came-put.new.comparing has closes puts
    (subst (λ (selected : Selection). Takes (arrivals_of_steps selected c.close-selected.new.out.waiting.items) c.args.comparing.now c.put_came-put.new.comparing)
    (c.close-selected.ensures.selected ∙ ap (λ (receiver : SelectedReceiver InnerCheck). receiver.selected) c.into_receiver.ensures) takes) explains)
    c.put_came-put.ensures.put c.put_came-put.ensures.compared c.put_came-put.ensures.explained
