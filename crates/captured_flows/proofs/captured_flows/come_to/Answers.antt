use Rattle.std.proofs.Common.{◌≡◌, ℕ, Some, slice_get, get_or, subst}
use Rattle.std.proofs.lemmas.Option.{slice_get-get_or}
use Rattle.captured_flows.specs.Seen.{flow_seen}
use Rattle.captured_flows.specs.Flow.{Comes}
use Rattle.captured_flows.specs.Taking.{TakesBy}
use Rattle.captured_flows.proofs.Together.{waits-kept, waits-set, view-at, views-set}
use Rattle.captured_flows.proofs.Taken.{takes-as}
use Rattle.captured_flows.proofs.Broken.{on-any_err, breaks-none}
use Rattle.captured_flows.proofs.captured_flows.come_to.Goals as goal

pub returns-in_err-come-clause-waits : goal.returns-in_err-come-clause-waits
returns-in_err-come-clause-waits g c =
    let flows = c.args.flows.now in
    let flow = get_or flows c.args.k c.index-flows-k.result in
    let stands : slice_get flows c.args.k ≡ Some flow = slice_get-get_or flows c.args.k c.index-flows-k.result c.if-k-flows.false in
    waits-set c.args.waits flows c.args.k c.come.new.self c.requires.waits (waits-kept c.args.waits flow c.come.new.self c.come.ensures.waits (c.requires.waits c.args.k flow stands))

pub returns-clause-waits : goal.returns-clause-waits
returns-clause-waits g c =
    let flows = c.args.flows.now in
    let flow = get_or flows c.args.k c.index-flows-k.result in
    let stands : slice_get flows c.args.k ≡ Some flow = slice_get-get_or flows c.args.k c.index-flows-k.result c.if-k-flows.false in
    waits-set c.args.waits flows c.args.k c.come.new.self c.requires.waits (waits-kept c.args.waits flow c.come.new.self c.come.ensures.waits (c.requires.waits c.args.k flow stands))

pub returns-clause-takes : goal.returns-clause-takes
returns-clause-takes g c =
    let flows = c.args.flows.now in
    let flow = get_or flows c.args.k c.index-flows-k.result in
    let new = c.come.new.self in
    let k = c.args.k in
    let stands : slice_get flows k ≡ Some flow = slice_get-get_or flows k c.index-flows-k.result c.if-k-flows.false in
    let has = c.requires.waits k flow stands in
    let takes = subst (λ (n : ℕ). TakesBy g.C.HeaderCheck.accepts g.O.CaptureConsumer.saw (λ made handed more. Comes made n k c.args.one (flow_seen flow) handed more (flow_seen new))
    c.args.receiver.now c.args.out.now c.come.new.receiver c.come.new.out) has.wait c.in_ok-come.ensures.takes in
    takes-as g.C.HeaderCheck.accepts g.O.Consumer.after g.O.CaptureConsumer.saw _ _ c.args.receiver.now c.come.new.receiver c.args.out.now c.come.new.out takes
    (λ made handed more spelled. record {
      flow = flow_seen flow;
      stands = view-at flows k flow stands;
      flow' = flow_seen new;
      comes = spelled;
      others = views-set flows k new;
    })

pub returns-then-k-flows-clause-breaks : goal.returns-then-k-flows-clause-breaks
returns-then-k-flows-clause-breaks g c =
    breaks-none g.C.HeaderCheck.accepts g.O.Consumer.after g.O.CaptureConsumer.saw c.args.receiver.now c.args.out.now

pub returns-in_err-come-clause-breaks : goal.returns-in_err-come-clause-breaks
returns-in_err-come-clause-breaks g c = on-any_err c.from_residual.result c.in_err-come.ensures.breaks
