use Rattle.std.proofs.Common.{ℕ, List, ◌∷◌, ◌++◌, [], refl, sym, subst, ◌∙◌}
use Rattle.std.proofs.lemmas.List.{map-id}
use Rattle.std.proofs.lemmas.Iterator.Adapters.{YieldsList-from_vec}
use Rattle.std.proofs.lemmas.Iterator.Consumers.{YieldsList-end}
use Rattle.captured_flows.specs.Acts.{Act}
use Rattle.capture_rules.specs.Held.{held_by, wait_of}
use Rattle.captured_flows.specs.Flow.{Next, HandsIn, HandsInAll, none, one_more}
use Rattle.captured_flows.specs.Taking.{TakesBy}
use Rattle.captured_flows.proofs.Taken.{Nothing, takes-none, takes-as, takes-then}
use Rattle.captured_flows.proofs.Broken.{on-any_err, breaks-behind}
use Rattle.captured_flows.proofs.flow_bursts.hand_in_all.Goals as goal

pub loop-one-init : goal.loop-one-init
loop-one-init g c = record {
  takes = takes-as g.C.HeaderCheck.accepts g.O.Consumer.after g.O.CaptureConsumer.saw Nothing _ c.args.receiver.now c.args.receiver.now c.args.out.now c.args.out.now (takes-none g.C.HeaderCheck.accepts g.O.Consumer.after g.O.CaptureConsumer.saw c.args.receiver.now c.args.out.now)
      (λ made handed more empty. subst (λ (m : List Act). HandsInAll made (wait_of c.args.held.now) c.args.flow [] (held_by c.args.held.now) handed m (held_by c.args.held.now)) (sym empty) none);
  at_hand = c.requires.at_hand;
  wait = refl;
}

pub loop-one-preserved : goal.loop-one-preserved
loop-one-preserved g c =
    let so_far = c.loop-one.invariant in
    let w = wait_of c.args.held.now in
    let k = c.args.flow in
    let one = c.in-Some.one in
    let between = held_by c.loop-one.held in
    let left = held_by c.hand_in.new.held in
    let next = subst (λ (n : ℕ). TakesBy g.C.HeaderCheck.accepts g.O.CaptureConsumer.saw (λ made handed more. HandsIn made n k one between handed more left) c.loop-one.receiver c.loop-one.out c.hand_in.new.receiver c.hand_in.new.out) so_far.wait
    c.in_ok-hand_in.ensures.takes in
    record {
      takes = takes-as g.C.HeaderCheck.accepts g.O.Consumer.after g.O.CaptureConsumer.saw _ _ c.args.receiver.now c.hand_in.new.receiver c.args.out.now c.hand_in.new.out
          (takes-then g.C.HeaderCheck.accepts g.O.Consumer.after g.O.CaptureConsumer.saw _ _ c.args.receiver.now c.loop-one.receiver c.hand_in.new.receiver c.args.out.now c.loop-one.out c.hand_in.new.out so_far.takes next)
          (λ made handed more spelled. subst (λ (m : List Act). HandsInAll made w k (c.loop-one.yielded ++ one ∷ []) (held_by c.args.held.now) handed m left) (sym spelled.4) (one_more spelled.2 spelled.3));
      at_hand = c.in_ok-hand_in.ensures.at_hand;
      wait = c.hand_in.ensures.wait ∙ so_far.wait;
    }

pub returns-clause-takes : goal.returns-clause-takes
returns-clause-takes g c =
    let gives = c.into_iter-one-iterator.ensures.into_iter_gives in
    let all = YieldsList-end (YieldsList-from_vec c.args.kept.items gives.0 (gives.1 ∙ c.args.kept.ok.0)) c.loop-one.yielded c.loop-one.one-iterator c.loop-one.yielded_by c.next.result c.next.new.self c.in-None.is c.next.ensures.steps in
    subst (λ (kept : List Next). TakesBy g.C.HeaderCheck.accepts g.O.CaptureConsumer.saw (λ made handed more. HandsInAll made (wait_of c.args.held.now) c.args.flow kept (held_by c.args.held.now) handed more (held_by c.loop-one.held))
    c.args.receiver.now c.args.out.now c.loop-one.receiver c.loop-one.out) (sym (map-id c.loop-one.yielded) ∙ all.0) c.loop-one.invariant.takes

pub returns-in_err-hand_in-clause-breaks : goal.returns-in_err-hand_in-clause-breaks
returns-in_err-hand_in-clause-breaks g c =
    on-any_err c.from_residual.result
    (breaks-behind g.C.HeaderCheck.accepts g.O.Consumer.after g.O.CaptureConsumer.saw _ c.args.receiver.now c.loop-one.receiver c.hand_in.new.receiver c.args.out.now c.loop-one.out c.hand_in.new.out c.loop-one.invariant.takes c.in_err-hand_in.ensures.breaks)
