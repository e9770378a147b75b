use Rattle.std.proofs.Common.{ℕ, Bool, Option, subst, ◌∙◌}
use Rattle.capture_rules.specs.Begin.{beginning_seen, is_over, is_silent, to_hand_in}
use Rattle.capture_rules.specs.Held.{held_by, wait_of}
use Rattle.captured_flows.specs.Flow.{Next, LetsGoIf, HandsInIf}
use Rattle.captured_flows.specs.Taking.{TakesBy}
use Rattle.captured_flows.proofs.HandedOnTo.{ends-if, handed_on-is}
use Rattle.captured_flows.proofs.Taken.{takes-as, takes-then, takes-expecting}
use Rattle.captured_flows.proofs.Broken.{on-any_err, breaks-behind, breaks-after}
use Rattle.captured_flows.proofs.flow_bursts.CapturedFlow.hand_on.Goals as goal

pub returns-clause-takes : goal.returns-clause-takes
returns-clause-takes g c =
    let flow = c.args.self.now in
    let one = c.args.one in
    let k = c.args.flow in
    let w = wait_of flow.held in
    let beginning = beginning_seen flow.beginning in
    let ended = beginning_seen c.end_at-begun.new.self in
    let held = c.begin_if.new.held in
    let between = c.let_go_if.new.held in
    let left = held_by c.hand_in_if.new.held in
    let r0 = c.args.receiver.now in
    let o0 = c.args.out.now in
    let r1 = c.begin_if.new.receiver in
    let o1 = c.begin_if.new.out in
    let r2 = c.let_go_if.new.receiver in
    let o2 = c.let_go_if.new.out in
    let r3 = c.hand_in_if.new.receiver in
    let o3 = c.hand_in_if.new.out in
    let silent = subst (λ (b : Bool). TakesBy g.C.HeaderCheck.accepts g.O.CaptureConsumer.saw (λ made handed more. LetsGoIf made (wait_of held) k b one.time (held_by held) handed more (held_by between)) r1 o1 r2 o2)
    c.is_silent-is_silent.ensures c.in_ok-let_go_if.ensures.takes in
    let lets_go = subst (λ (n : ℕ). TakesBy g.C.HeaderCheck.accepts g.O.CaptureConsumer.saw (λ made handed more. LetsGoIf made n k (is_silent ended one.time) one.time (held_by held) handed more (held_by between)) r1 o1 r2 o2)
    c.begin_if.ensures.wait silent in
    let next = subst (λ (n : Option Next). TakesBy g.C.HeaderCheck.accepts g.O.CaptureConsumer.saw (λ made handed more. HandsInIf made (wait_of between) k (held_by between) handed n more left) r2 o2 r3 o3)
    c.in_ok-next.ensures.given c.in_ok-hand_in_if.ensures.takes in
    let hands_in = subst (λ (n : ℕ). TakesBy g.C.HeaderCheck.accepts g.O.CaptureConsumer.saw (λ made handed more. HandsInIf made n k (held_by between) handed (to_hand_in ended c.in_ok-number.number flow.window one) more left) r2 o2 r3 o3)
    (c.let_go_if.ensures.wait ∙ c.begin_if.ensures.wait) next in
    takes-as g.C.HeaderCheck.accepts g.O.Consumer.after g.O.CaptureConsumer.saw _ _ r0 r3 o0 o3
    (takes-then g.C.HeaderCheck.accepts g.O.Consumer.after g.O.CaptureConsumer.saw _ _ r0 r2 r3 o0 o2 o3
    (takes-then g.C.HeaderCheck.accepts g.O.Consumer.after g.O.CaptureConsumer.saw _ _ r0 r1 r2 o0 o1 o2 c.in_ok-begin_if.ensures.takes lets_go)
    (takes-expecting g.C.HeaderCheck.accepts g.O.Consumer.after g.O.CaptureConsumer.saw _ r2 r3 o2 o3 k c.in_ok-number.number c.in_ok-number.ensures.expects hands_in))
    (λ made handed more spelled.
    handed_on-is made w k flow.window one beginning ended (beginning_seen c.hand_on.new.self) (held_by flow.held) (held_by held) (held_by between) left c.end_at-begun.result handed more c.in_ok-number.number
    (ends-if (is_over beginning.kept one.time) beginning ended c.end_at-begun.result c.end_at-begun.ensures.over c.end_at-begun.ensures.ended c.end_at-begun.ensures.after c.end_at-begun.ensures.unchanged)
    spelled c.in_ok-next.ensures.after)

pub returns-in_err-let_go_if-clause-breaks : goal.returns-in_err-let_go_if-clause-breaks
returns-in_err-let_go_if-clause-breaks g c =
    on-any_err c.from_residual-in_err-let_go_if.result
    (breaks-behind g.C.HeaderCheck.accepts g.O.Consumer.after g.O.CaptureConsumer.saw _ c.args.receiver.now c.begin_if.new.receiver c.let_go_if.new.receiver c.args.out.now c.begin_if.new.out c.let_go_if.new.out c.in_ok-begin_if.ensures.takes c.in_err-let_go_if.ensures.breaks)

pub returns-in_err-number-clause-breaks : goal.returns-in_err-number-clause-breaks
returns-in_err-number-clause-breaks g c =
    on-any_err c.from_residual-in_err-number.result
    (breaks-after g.C.HeaderCheck.accepts g.O.Consumer.after g.O.CaptureConsumer.saw _ c.args.receiver.now c.let_go_if.new.receiver c.args.out.now c.let_go_if.new.out
    (takes-then g.C.HeaderCheck.accepts g.O.Consumer.after g.O.CaptureConsumer.saw _ _ c.args.receiver.now c.begin_if.new.receiver c.let_go_if.new.receiver c.args.out.now c.begin_if.new.out c.let_go_if.new.out c.in_ok-begin_if.ensures.takes c.in_ok-let_go_if.ensures.takes))

pub returns-in_err-next-clause-breaks : goal.returns-in_err-next-clause-breaks
returns-in_err-next-clause-breaks g c =
    on-any_err c.from_residual-in_err-next.result
    (breaks-after g.C.HeaderCheck.accepts g.O.Consumer.after g.O.CaptureConsumer.saw _ c.args.receiver.now c.let_go_if.new.receiver c.args.out.now c.let_go_if.new.out
    (takes-then g.C.HeaderCheck.accepts g.O.Consumer.after g.O.CaptureConsumer.saw _ _ c.args.receiver.now c.begin_if.new.receiver c.let_go_if.new.receiver c.args.out.now c.begin_if.new.out c.let_go_if.new.out c.in_ok-begin_if.ensures.takes c.in_ok-let_go_if.ensures.takes))

pub returns-in_err-hand_in_if-clause-breaks : goal.returns-in_err-hand_in_if-clause-breaks
returns-in_err-hand_in_if-clause-breaks g c =
    on-any_err c.from_residual-in_err-hand_in_if.result
    (breaks-behind g.C.HeaderCheck.accepts g.O.Consumer.after g.O.CaptureConsumer.saw _ c.args.receiver.now c.let_go_if.new.receiver c.hand_in_if.new.receiver c.args.out.now c.let_go_if.new.out c.hand_in_if.new.out
    (takes-then g.C.HeaderCheck.accepts g.O.Consumer.after g.O.CaptureConsumer.saw _ _ c.args.receiver.now c.begin_if.new.receiver c.let_go_if.new.receiver c.args.out.now c.begin_if.new.out c.let_go_if.new.out c.in_ok-begin_if.ensures.takes c.in_ok-let_go_if.ensures.takes) c.in_err-hand_in_if.ensures.breaks)

pub returns-in_err-begin_if-clause-breaks : goal.returns-in_err-begin_if-clause-breaks
returns-in_err-begin_if-clause-breaks g c = on-any_err c.from_residual.result c.in_err-begin_if.ensures.breaks
