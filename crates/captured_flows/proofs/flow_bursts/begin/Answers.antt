use Rattle.std.proofs.Common.{ℕ, List, ◌∷◌, ◌++◌, [], ap, subst, ◌∙◌}
use Rattle.receiver.specs.HandedIn.{restarted}
use Rattle.captured_flows.specs.Acts.{Act, alone}
use Rattle.capture_rules.specs.declared.held_time.HeldTime.{HeldTime}
use Rattle.capture_rules.specs.Held.{held_by, wait_of}
use Rattle.captured_flows.specs.Flow.{HandsInAll}
use Rattle.captured_flows.specs.Taking.{TakesBy}
use Rattle.captured_flows.specs.Shown.{begun_if}
use Rattle.captured_flows.specs.Steps.{CaptureStep}
use Rattle.flow_selection.specs.declared.selection.Selection.{Selection}
use Rattle.captured_flows.proofs.Taken.{Just, takes-as, takes-then, takes-restart}
use Rattle.captured_flows.proofs.Broken.{on-any_err, breaks-untold, breaks-behind}
use Rattle.captured_flows.proofs.flow_bursts.begin.Goals as goal

pub returns-clause-takes : goal.returns-clause-takes
returns-clause-takes g c =
    let k = c.args.flow in
    let kept = c.args.begun.kept.items in
    let left = held_by c.hand_in_all.new.held in
    let from = alone (restarted k c.args.begun.first) ∷ [] in
    let empty = subst (λ (h : List HeldTime). TakesBy g.C.HeaderCheck.accepts g.O.CaptureConsumer.saw (λ made handed more. HandsInAll made (wait_of c.clear.new.self) k kept h handed more left)
    c.restart.new.self c.tell_begun.new.out c.hand_in_all.new.receiver c.hand_in_all.new.out) c.clear.ensures.none c.in_ok-hand_in_all.ensures.takes in
    let all = subst (λ (n : ℕ). TakesBy g.C.HeaderCheck.accepts g.O.CaptureConsumer.saw (λ made handed more. HandsInAll made n k kept [] handed more left)
    c.restart.new.self c.tell_begun.new.out c.hand_in_all.new.receiver c.hand_in_all.new.out) c.clear.ensures.wait empty in
    takes-as g.C.HeaderCheck.accepts g.O.Consumer.after g.O.CaptureConsumer.saw _ _ c.args.receiver.now c.hand_in_all.new.receiver c.args.out.now c.hand_in_all.new.out
    (takes-then g.C.HeaderCheck.accepts g.O.Consumer.after g.O.CaptureConsumer.saw (Just from) _ c.args.receiver.now c.restart.new.self c.hand_in_all.new.receiver c.args.out.now c.tell_begun.new.out c.hand_in_all.new.out
    (takes-restart g.C.HeaderCheck.accepts g.O.Consumer.after g.O.CaptureConsumer.saw g.met.O.CaptureConsumer.begins g.met.O.CaptureConsumer.sees c.args.receiver.now c.restart.new.self
    c.args.out.now c.restart.new.out c.tell_begun.new.out k c.args.begun.first c.in_ok-counts.counts c.in_ok-counts.ensures.restarts c.in_ok-counts.ensures.at_hand (subst (λ (s : Selection). (start : g.row.O.Denot) (steps : List CaptureStep) → g.O.CaptureConsumer.saw start steps c.restart.new.out → g.O.CaptureConsumer.saw start (steps ++ begun_if s c.args.flow c.in_ok-counts.counts) c.tell_begun.new.out) c.selected.ensures c.tell_begun.ensures))
    all)
    (λ made handed more spelled. record {
      later = spelled.1;
      hands_in = subst (λ (m : List Act). HandsInAll made (wait_of c.args.held.now) k kept [] (handed ++ m) spelled.1 left) spelled.2 spelled.3;
      all = spelled.4 ∙ ap (λ (m : List Act). m ++ spelled.1) spelled.2;
    })

pub returns-in_err-counts-clause-breaks : goal.returns-in_err-counts-clause-breaks
returns-in_err-counts-clause-breaks g c =
    on-any_err c.from_residual.result
    (breaks-untold g.C.HeaderCheck.accepts g.O.Consumer.after g.O.CaptureConsumer.saw g.met.O.CaptureConsumer.begins g.met.O.CaptureConsumer.sees c.args.receiver.now c.restart.new.self c.args.out.now c.restart.new.out c.in_err-counts.ensures.fails)

pub returns-in_err-hand_in_all-clause-breaks : goal.returns-in_err-hand_in_all-clause-breaks
returns-in_err-hand_in_all-clause-breaks g c =
    on-any_err c.from_residual-in_err-hand_in_all.result
    (breaks-behind g.C.HeaderCheck.accepts g.O.Consumer.after g.O.CaptureConsumer.saw _ c.args.receiver.now c.restart.new.self c.hand_in_all.new.receiver c.args.out.now c.tell_begun.new.out c.hand_in_all.new.out
    (takes-restart g.C.HeaderCheck.accepts g.O.Consumer.after g.O.CaptureConsumer.saw g.met.O.CaptureConsumer.begins g.met.O.CaptureConsumer.sees c.args.receiver.now c.restart.new.self
    c.args.out.now c.restart.new.out c.tell_begun.new.out c.args.flow c.args.begun.first c.in_ok-counts.counts c.in_ok-counts.ensures.restarts c.in_ok-counts.ensures.at_hand (subst (λ (s : Selection). (start : g.row.O.Denot) (steps : List CaptureStep) → g.O.CaptureConsumer.saw start steps c.restart.new.out → g.O.CaptureConsumer.saw start (steps ++ begun_if s c.args.flow c.in_ok-counts.counts) c.tell_begun.new.out) c.selected.ensures c.tell_begun.ensures))
    c.in_err-hand_in_all.ensures.breaks)
