use Rattle.std.proofs.Common.{◌≡◌, ℕ, List, length, sym, subst, arith}
use Rattle.captured_flows.specs.Acts.{Act}
use Rattle.captured_flows.specs.Captures.{EndsAll, none_ends}
use Rattle.captured_flows.specs.Together.{views_of}
use Rattle.captured_flows.specs.Taking.{TakesBy}
use Rattle.captured_flows.proofs.Together.{ends-more}
use Rattle.captured_flows.proofs.Taken.{Nothing, takes-none, takes-as, takes-then}
use Rattle.captured_flows.proofs.Broken.{on-any_err, breaks-behind}
use Rattle.captured_flows.proofs.captured_flows.end_all.Goals as goal

pub loop-k-init : goal.loop-k-init
loop-k-init g c =
    let views = views_of c.args.flows.now in
    record {
      takes = takes-as g.C.HeaderCheck.accepts g.O.Consumer.after g.O.CaptureConsumer.saw Nothing _ c.args.receiver.now c.args.receiver.now c.args.out.now c.args.out.now (takes-none g.C.HeaderCheck.accepts g.O.Consumer.after g.O.CaptureConsumer.saw c.args.receiver.now c.args.out.now)
          (λ made handed more none. subst (λ (m : List Act). EndsAll made c.args.waits.wait views handed 0 m views) (sym none) none_ends);
      at_hand = c.requires.at_hand;
      waits = c.requires.waits;
    }

pub loop-k-preserved : goal.loop-k-preserved
loop-k-preserved g c =
    let so_far = c.loop-k.invariant in
    record {
      takes = takes-as g.C.HeaderCheck.accepts g.O.Consumer.after g.O.CaptureConsumer.saw _ _ c.args.receiver.now c.end_at.new.receiver c.args.out.now c.end_at.new.out
          (takes-then g.C.HeaderCheck.accepts g.O.Consumer.after g.O.CaptureConsumer.saw _ _ c.args.receiver.now c.loop-k.receiver c.end_at.new.receiver c.args.out.now c.loop-k.out c.end_at.new.out so_far.takes c.in_ok-end_at.ensures.takes)
          (λ made handed more spelled. ends-more c.args.waits made (views_of c.args.flows.now) (views_of c.loop-k.flows) (views_of c.end_at.new.flows) handed spelled.0 spelled.1 more c.loop-k.k spelled.2 spelled.3 spelled.4);
      at_hand = c.in_ok-end_at.ensures.at_hand;
      waits = c.end_at.ensures.waits;
    }

pub returns-clause-takes : goal.returns-clause-takes
returns-clause-takes g c =
    let all : c.loop-k.k ≡ length c.args.flows.now = (let ends = c.loop-k-test.false in let auto = c.loop-k.auto.k-end in omega arith) in
    subst (λ (n : ℕ). TakesBy g.C.HeaderCheck.accepts g.O.CaptureConsumer.saw (λ made handed more. EndsAll made c.args.waits.wait (views_of c.args.flows.now) handed n more (views_of c.loop-k.flows))
    c.args.receiver.now c.args.out.now c.loop-k.receiver c.loop-k.out) all c.loop-k.invariant.takes

pub returns-in_err-end_at-clause-breaks : goal.returns-in_err-end_at-clause-breaks
returns-in_err-end_at-clause-breaks g c =
    on-any_err c.from_residual.result
    (breaks-behind g.C.HeaderCheck.accepts g.O.Consumer.after g.O.CaptureConsumer.saw _ c.args.receiver.now c.loop-k.receiver c.end_at.new.receiver c.args.out.now c.loop-k.out c.end_at.new.out c.loop-k.invariant.takes c.in_err-end_at.ensures.breaks)
