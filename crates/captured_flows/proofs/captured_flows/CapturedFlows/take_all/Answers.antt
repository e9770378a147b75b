use Rattle.std.proofs.Common.{List, ◌∷◌, ◌++◌, [], refl, sym, subst, ◌∙◌}
use Rattle.std.proofs.lemmas.List.{map-id}
use Rattle.std.proofs.lemmas.Iterator.Adapters.{YieldsList-from_vec}
use Rattle.std.proofs.lemmas.Iterator.Consumers.{YieldsList-end}
use Rattle.captured_flows.specs.Acts.{Act}
use Rattle.capture_map.specs.declared.map.CaptureMap.{CaptureMap}
use Rattle.captured_flows.specs.declared.captured_burst.CapturedBurst.{CapturedBurst}
use Rattle.captured_flows.specs.declared.waits.Waits.{Waits}
use Rattle.captured_flows.specs.Captures.{SpellsBurst, SpellsBursts, none_comes, one_more_comes}
use Rattle.captured_flows.specs.Capturing.{views_in}
use Rattle.captured_flows.specs.Taking.{TakesBy}
use Rattle.captured_flows.proofs.Taken.{Nothing, takes-none, takes-as, takes-then}
use Rattle.captured_flows.proofs.Broken.{on-any_err, breaks-behind}
use Rattle.captured_flows.proofs.captured_flows.CapturedFlows.take_all.Goals as goal

pub loop-burst-init : goal.loop-burst-init
loop-burst-init g c =
    let old = c.args.self.now in
    let views = views_in old in
    record {
      takes = takes-as g.C.HeaderCheck.accepts g.O.Consumer.after g.O.CaptureConsumer.saw Nothing _ old.receiver old.receiver c.args.out.now c.args.out.now (takes-none g.C.HeaderCheck.accepts g.O.Consumer.after g.O.CaptureConsumer.saw old.receiver c.args.out.now)
          (λ made handed more none. subst (λ (m : List Act). SpellsBursts old.map made old.waits.wait views handed [] m views) (sym none) none_comes);
      capturing = c.requires.capturing;
      map = refl;
      waits = refl;
      selected = refl;
    }

pub loop-burst-preserved : goal.loop-burst-preserved
loop-burst-preserved g c =
    let old = c.args.self.now in
    let before = c.loop-burst.self in
    let after = c.take.new.self in
    let burst = c.in-Some.burst in
    let told = c.in_ok-take.field-0 in
    let so_far = c.loop-burst.invariant in
    let of_map = subst (λ (m : CaptureMap). TakesBy g.C.HeaderCheck.accepts g.O.CaptureConsumer.saw (λ made handed more. SpellsBurst m made before.waits.wait (views_in before) burst handed told more (views_in after))
    before.receiver c.loop-burst.out after.receiver c.take.new.out) so_far.map c.in_ok-take.ensures.takes in
    let next = subst (λ (w : Waits). TakesBy g.C.HeaderCheck.accepts g.O.CaptureConsumer.saw (λ made handed more. SpellsBurst old.map made w.wait (views_in before) burst handed told more (views_in after))
    before.receiver c.loop-burst.out after.receiver c.take.new.out) so_far.waits of_map in
    record {
      takes = takes-as g.C.HeaderCheck.accepts g.O.Consumer.after g.O.CaptureConsumer.saw _ _ old.receiver after.receiver c.args.out.now c.take.new.out
          (takes-then g.C.HeaderCheck.accepts g.O.Consumer.after g.O.CaptureConsumer.saw _ _ old.receiver before.receiver after.receiver c.args.out.now c.loop-burst.out c.take.new.out so_far.takes next)
          (λ made handed more spelled. subst (λ (m : List Act). SpellsBursts old.map made old.waits.wait (views_in old) handed (c.loop-burst.yielded ++ burst ∷ []) m (views_in after))
          (sym spelled.4) (one_more_comes spelled.2 spelled.3));
      capturing = c.in_ok-take.ensures.capturing;
      map = c.take.ensures.map ∙ so_far.map;
      waits = c.take.ensures.waits ∙ so_far.waits;
      selected = c.take.ensures.selected ∙ so_far.selected;
    }

pub returns-clause-takes : goal.returns-clause-takes
returns-clause-takes g c =
    let old = c.args.self.now in
    let gives = c.into_iter-burst-iterator.ensures.into_iter_gives in
    let all = YieldsList-end (YieldsList-from_vec c.args.bursts.items gives.0 (gives.1 ∙ c.args.bursts.ok.0)) c.loop-burst.yielded c.loop-burst.burst-iterator c.loop-burst.yielded_by c.next.result c.next.new.self c.in-None.is c.next.ensures.steps in
    subst (λ (bursts : List CapturedBurst). TakesBy g.C.HeaderCheck.accepts g.O.CaptureConsumer.saw (λ made handed more. SpellsBursts old.map made old.waits.wait (views_in old) handed bursts more (views_in c.loop-burst.self))
    old.receiver c.args.out.now c.loop-burst.self.receiver c.loop-burst.out) (sym (map-id c.loop-burst.yielded) ∙ all.0) c.loop-burst.invariant.takes

pub returns-in_err-take-clause-breaks : goal.returns-in_err-take-clause-breaks
returns-in_err-take-clause-breaks g c =
    on-any_err c.from_residual.result
    (breaks-behind g.C.HeaderCheck.accepts g.O.Consumer.after g.O.CaptureConsumer.saw _ c.args.self.now.receiver c.loop-burst.self.receiver c.take.new.self.receiver c.args.out.now c.loop-burst.out c.take.new.out c.loop-burst.invariant.takes c.in_err-take.ensures.breaks)
