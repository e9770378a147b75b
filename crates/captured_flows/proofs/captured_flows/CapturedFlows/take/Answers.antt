use Rattle.std.proofs.Common.{◌≡◌, ℕ, Some, List, length, sym, subst, ap, ◌∙◌, arith}
use Rattle.captured_flows.specs.Acts.{Act}
use Rattle.capture_map.specs.declared.map.MapChannel.{MapChannel}
use Rattle.std.specs.Vec.{with_items}
use Rattle.std.proofs.lemmas.List.{with_items_is}
use Rattle.captured_flows.specs.declared.flow_bursts.CapturedFlow.{CapturedFlow}
use Rattle.captured_flows.specs.declared.captured_burst.CapturedBurst.{CapturedBurst}
use Rattle.captured_flows.specs.Together.{HaveWaits, ComesAt, views_of}
use Rattle.captured_flows.specs.declared.burst_taken.BurstTaken.TheVariants as taken
use Rattle.captured_flows.specs.Flow.{FlowView}
use Rattle.captured_flows.specs.Sids.{channel_of, flow_of}
use Rattle.captured_flows.specs.Captures.{IsRefused, SpellsBurst, of_no_channel, of_no_flow, is_refused, comes}
use Rattle.captured_flows.specs.Capturing.{views_in}
use Rattle.captured_flows.proofs.Taken.{Nothing, takes-none, takes-as}
use Rattle.captured_flows.proofs.Broken.{on-any_err}
use Rattle.captured_flows.proofs.captured_flows.CapturedFlows.take.Goals as goal

pub returns-in_default-clause-takes : goal.returns-in_default-clause-takes
returns-in_default-clause-takes g c =
    let captured = c.args.self.now in
    let views = views_in captured in
    takes-as g.C.HeaderCheck.accepts g.O.Consumer.after g.O.CaptureConsumer.saw Nothing _ captured.receiver captured.receiver c.args.out.now c.args.out.now (takes-none g.C.HeaderCheck.accepts g.O.Consumer.after g.O.CaptureConsumer.saw captured.receiver c.args.out.now)
    (λ made handed more none. subst (λ (m : List Act). SpellsBurst captured.map made captured.waits.wait views c.args.burst handed taken.UnknownChannel m views) (sym none)
    (of_no_channel (ap (λ (cs : List MapChannel). channel_of cs c.args.burst.channel) (sym c.deref.ensures.value) ∙ sym c.in_default.ensures)))

pub returns-in_default-flow_of-clause-takes : goal.returns-in_default-flow_of-clause-takes
returns-in_default-flow_of-clause-takes g c =
    let captured = c.args.self.now in
    let views = views_in captured in
    takes-as g.C.HeaderCheck.accepts g.O.Consumer.after g.O.CaptureConsumer.saw Nothing _ captured.receiver captured.receiver c.args.out.now c.args.out.now (takes-none g.C.HeaderCheck.accepts g.O.Consumer.after g.O.CaptureConsumer.saw captured.receiver c.args.out.now)
    (λ made handed more none. subst (λ (m : List Act). SpellsBurst captured.map made captured.waits.wait views c.args.burst handed taken.UnknownSid m views) (sym none)
    (of_no_flow c.in-Some.channel (ap (λ (cs : List MapChannel). channel_of cs c.args.burst.channel) (sym c.deref.ensures.value) ∙ sym c.in-Some.ensures) (sym (c.in_default-flow_of.ensures captured.map.sids.items c.requires.capturing.sids))))

pub returns-in_ok-come_to-in-Ok-clause-takes : goal.returns-in_ok-come_to-in-Ok-clause-takes
returns-in_ok-come_to-in-Ok-clause-takes g c =
    let captured = c.args.self.now in
    let items = captured.flows.items in
    let burst = c.args.burst in
    let one = c.in-Ok.one in
    let channel = c.from-channel.result in
    let k = c.from-flow.result in
    let new = c.come_to.new.flows in
    let are : (with_items captured.flows new).items ≡ new =
    with_items_is captured.flows new (let whole = captured.flows.ok.0 in let sizes = ap length c.deref_mut.ensures.value in let same = c.come_to.auto.flows in omega arith) in
    let of_channel : channel_of captured.map.channels.items burst.channel ≡ Some channel =
    ap (λ (cs : List MapChannel). channel_of cs burst.channel) (sym c.deref.ensures.value) ∙ sym c.in-Some.ensures ∙ ap (λ (n : ℕ). Some n) (sym c.from-channel.ensures) in
    let of_flow : flow_of captured.map.sids.items channel burst.sid ≡ Some k =
    subst (λ n. flow_of captured.map.sids.items n burst.sid ≡ Some k) (sym c.from-channel.ensures)
    (sym (c.in-Some-flow_of.ensures captured.map.sids.items c.requires.capturing.sids) ∙ ap (λ (n : ℕ). Some n) (sym c.from-flow.ensures)) in
    takes-as g.C.HeaderCheck.accepts g.O.Consumer.after g.O.CaptureConsumer.saw _ _ captured.receiver c.come_to.new.receiver c.args.out.now c.come_to.new.out c.in_ok-come_to-in-Ok.ensures.takes
    (λ made handed more spelled.
    let at = subst (λ (fs : List CapturedFlow). ComesAt captured.waits k one (views_of fs) made handed more (views_of new)) c.deref_mut.ensures.value spelled in
    subst (λ (fs : List CapturedFlow). SpellsBurst captured.map made captured.waits.wait (views_of items) burst handed (taken.Waits k) more (views_of fs)) (sym are)
    (subst (λ (vs : List FlowView). SpellsBurst captured.map made captured.waits.wait (views_of items) burst handed (taken.Waits k) more vs) (sym at.others)
    (comes channel k one at.flow at.flow' of_channel of_flow c.in-Ok.ensures.sound at.stands at.comes)))

pub returns-in_ok-come_to-in-Ok-clause-capturing : goal.returns-in_ok-come_to-in-Ok-clause-capturing
returns-in_ok-come_to-in-Ok-clause-capturing g c =
    let captured = c.args.self.now in
    let new = c.come_to.new.flows in
    let are : (with_items captured.flows new).items ≡ new =
    with_items_is captured.flows new (let whole = captured.flows.ok.0 in let sizes = ap length c.deref_mut.ensures.value in let same = c.come_to.auto.flows in omega arith) in
    record {
      at_hand = c.in_ok-come_to-in-Ok.ensures.at_hand;
      waits = subst (HaveWaits captured.waits) (sym are) c.come_to.ensures.waits;
      sids = c.requires.capturing.sids;
    }

pub returns-in_ok-reply-in-Err-clause-takes : goal.returns-in_ok-reply-in-Err-clause-takes
returns-in_ok-reply-in-Err-clause-takes g c =
    let captured = c.args.self.now in
    let burst = c.args.burst in
    let channel = c.from-channel.result in
    let reply = c.in_ok-reply-in-Err.reply in
    let of_channel : channel_of captured.map.channels.items burst.channel ≡ Some channel =
    ap (λ (cs : List MapChannel). channel_of cs burst.channel) (sym c.deref.ensures.value) ∙ sym c.in-Some.ensures ∙ ap (λ (n : ℕ). Some n) (sym c.from-channel.ensures) in
    let of_flow : flow_of captured.map.sids.items channel burst.sid ≡ Some c.in-Some-flow_of.flow =
    subst (λ n. flow_of captured.map.sids.items n burst.sid ≡ Some c.in-Some-flow_of.flow) (sym c.from-channel.ensures)
    (sym (c.in-Some-flow_of.ensures captured.map.sids.items c.requires.capturing.sids)) in
    takes-as g.C.HeaderCheck.accepts g.O.Consumer.after g.O.CaptureConsumer.saw _ _ captured.receiver c.refuse.new.receiver c.args.out.now c.refuse.new.out c.in_ok-reply-in-Err.ensures.takes
    (λ made handed more spelled. is_refused channel c.in-Some-flow_of.flow reply of_channel of_flow c.in-Err.ensures.why
    (subst (λ (b : CapturedBurst). IsRefused channel b reply made handed more) c.in-Err.ensures.unsound spelled))

pub returns-in_err-come_to-in-Ok-clause-breaks : goal.returns-in_err-come_to-in-Ok-clause-breaks
returns-in_err-come_to-in-Ok-clause-breaks g c = on-any_err c.from_residual.result c.in_err-come_to-in-Ok.ensures.breaks

pub returns-in_err-reply-in-Err-clause-breaks : goal.returns-in_err-reply-in-Err-clause-breaks
returns-in_err-reply-in-Err-clause-breaks g c = on-any_err c.from_residual-in_err-reply-in-Err.result c.in_err-reply-in-Err.ensures.breaks
