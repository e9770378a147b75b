use Rattle.std.proofs.Common.{◌≡◌, ℕ, Some, slice_get, get_or, subst}
use Rattle.std.proofs.lemmas.Option.{slice_get-get_or}
use Rattle.captured_flows.specs.Seen.{flow_seen}
use Rattle.captured_flows.specs.Flow.{EndsWaiting}
use Rattle.captured_flows.specs.Taking.{TakesBy}
use Rattle.captured_flows.proofs.Together.{waits-kept, waits-set, view-at, views-set}
use Rattle.captured_flows.proofs.Taken.{takes-as}
use Rattle.captured_flows.proofs.Broken.{on-any_err, breaks-none}
use Rattle.captured_flows.proofs.captured_flows.end_at.Goals as goal

pub returns-in_err-end_waiting-clause-waits : goal.returns-in_err-end_waiting-clause-waits
returns-in_err-end_waiting-clause-waits g c =
    let flows = c.args.flows.now in
    let flow = get_or flows c.args.k c.index-flows-k.result in
    let stands : slice_get flows c.args.k ≡ Some flow = slice_get-get_or flows c.args.k c.index-flows-k.result c.if-k-flows.false in
    waits-set c.args.waits flows c.args.k c.end_waiting.new.self c.requires.waits (waits-kept c.args.waits flow c.end_waiting.new.self c.end_waiting.ensures.waits (c.requires.waits c.args.k flow stands))

pub returns-clause-waits : goal.returns-clause-waits
returns-clause-waits g c =
    let flows = c.args.flows.now in
    let flow = get_or flows c.args.k c.index-flows-k.result in
    let stands : slice_get flows c.args.k ≡ Some flow = slice_get-get_or flows c.args.k c.index-flows-k.result c.if-k-flows.false in
    waits-set c.args.waits flows c.args.k c.end_waiting.new.self c.requires.waits (waits-kept c.args.waits flow c.end_waiting.new.self c.end_waiting.ensures.waits (c.requires.waits c.args.k flow stands))

pub returns-clause-takes : goal.returns-clause-takes
returns-clause-takes g c =
    let flows = c.args.flows.now in
    let flow = get_or flows c.args.k c.index-flows-k.result in
    let new = c.end_waiting.new.self in
    let k = c.args.k in
    let stands : slice_get flows k ≡ Some flow = slice_get-get_or flows k c.index-flows-k.result c.if-k-flows.false in
    let has = c.requires.waits k flow stands in
    let takes = subst (λ (n : ℕ). TakesBy g.C.HeaderCheck.accepts g.O.CaptureConsumer.saw (λ made handed more. EndsWaiting made n k (flow_seen flow) handed more (flow_seen new))
    c.args.receiver.now c.args.out.now c.end_waiting.new.receiver c.end_waiting.new.out) has.wait c.in_ok-end_waiting.ensures.takes in
    takes-as g.C.HeaderCheck.accepts g.O.Consumer.after g.O.CaptureConsumer.saw _ _ c.args.receiver.now c.end_waiting.new.receiver c.args.out.now c.end_waiting.new.out takes
    (λ made handed more spelled. record {
      flow = flow_seen flow;
      stands = view-at flows k flow stands;
      flow' = flow_seen new;
      ends = spelled;
      others = views-set flows k new;
    })

pub returns-then-k-flows-clause-breaks : goal.returns-then-k-flows-clause-breaks
returns-then-k-flows-clause-breaks g c =
    breaks-none g.C.HeaderCheck.accepts g.O.Consumer.after g.O.CaptureConsumer.saw c.args.receiver.now c.args.out.now

pub returns-in_err-end_waiting-clause-breaks : goal.returns-in_err-end_waiting-clause-breaks
returns-in_err-end_waiting-clause-breaks g c = on-any_err c.from_residual.result c.in_err-end_waiting.ensures.breaks
