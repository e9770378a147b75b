use Rattle.std.proofs.Common.{◌≡◌, List, length, sym, subst, ap, arith}
use Rattle.std.specs.Vec.{with_items}
use Rattle.std.proofs.lemmas.List.{with_items_is}
use Rattle.captured_flows.specs.declared.flow_bursts.CapturedFlow.{CapturedFlow}
use Rattle.captured_flows.specs.Captures.{EndsAll}
use Rattle.captured_flows.specs.Together.{HaveWaits, views_of}
use Rattle.captured_flows.proofs.Taken.{takes-as}
use Rattle.captured_flows.proofs.Broken.{on-any_err}
use Rattle.captured_flows.proofs.captured_flows.CapturedFlows.end_waiting.Goals as goal

pub returns-clause-takes : goal.returns-clause-takes
returns-clause-takes g c =
    let captured = c.args.self.now in
    let items = captured.flows.items in
    let new = c.end_all.new.flows in
    let are : (with_items captured.flows new).items ≡ new =
    with_items_is captured.flows new (let whole = captured.flows.ok.0 in let sizes = ap length c.deref_mut.ensures.value in let same = c.end_all.auto.flows in omega arith) in
    takes-as g.C.HeaderCheck.accepts g.O.Consumer.after g.O.CaptureConsumer.saw _ _ captured.receiver c.end_all.new.receiver c.args.out.now c.end_all.new.out c.in_ok-end_all.ensures.takes
    (λ made handed more spelled.
    subst (λ (fs : List CapturedFlow). EndsAll made captured.waits.wait (views_of items) handed (length items) more (views_of fs)) (sym are)
    (subst (λ (fs : List CapturedFlow). EndsAll made captured.waits.wait (views_of fs) handed (length fs) more (views_of new)) c.deref_mut.ensures.value spelled))

pub returns-clause-capturing : goal.returns-clause-capturing
returns-clause-capturing g c =
    let captured = c.args.self.now in
    let new = c.end_all.new.flows in
    let are : (with_items captured.flows new).items ≡ new =
    with_items_is captured.flows new (let whole = captured.flows.ok.0 in let sizes = ap length c.deref_mut.ensures.value in let same = c.end_all.auto.flows in omega arith) in
    record {
      at_hand = c.in_ok-end_all.ensures.at_hand;
      waits = subst (HaveWaits captured.waits) (sym are) c.end_all.ensures.waits;
      sids = c.requires.capturing.sids;
    }

pub returns-in_err-end_all-clause-breaks : goal.returns-in_err-end_all-clause-breaks
returns-in_err-end_all-clause-breaks g c = on-any_err c.from_residual.result c.in_err-end_all.ensures.breaks
