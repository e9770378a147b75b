-- One flow after another is closed.
use Rattle.std.proofs.Common.{◌+◌, ◌<◌, ◌∷◌, [], ◌++◌, List, length, ap, sym, subst, ◌∙◌, arith}
use Rattle.std.proofs.lemmas.List.{length_push}
use Rattle.flow_core.specs.declared.counts.FlowCounts.{FlowCounts}
use Rattle.bonded_flows.specs.Table.{TakesMore, BeginsAnewAt}
use Rattle.uplink.specs.Inside.Feeding.{HasOffered}
use Rattle.uplink.proofs.FramesOffered.{rings-stay}
use Rattle.uplink.proofs.FlowsClosed.{ClosesSoFar, none-closed, as-many, next-closed, closing-offered, all-closed, some-closed, closed-in-part}
use Rattle.uplink.proofs.assembler.close_all.Goals as goal

pub loop-flow-init : goal.loop-flow-init
loop-flow-init g c =
    let accepts = g.C.HeaderCheck.accepts in
    let flows = c.args.flows.now in
    let feeding = c.args.feeding.now in
    record {
      room = c.in_ok-counts.ensures.capacity;
      few = omega arith;
      next = ap length c.in_ok-counts.ensures.items;
      many = sym c.flow_count-flow_count.ensures;
      in_use = c.requires;
      so_far = subst (λ (counts : List FlowCounts). ClosesSoFar accepts HasOffered flows feeding flows feeding counts) (sym c.in_ok-counts.ensures.items) (none-closed accepts HasOffered flows feeding);
    }

pub restart-requires-clause-in_use : goal.restart-requires-clause-in_use
restart-requires-clause-in_use g c = c.loop-flow.invariant.in_use

pub restart-requires-clause-exists : goal.restart-requires-clause-exists
restart-requires-clause-exists g c = omega (arith, c.loop-flow-test.true, c.loop-flow.invariant.many)

pub returns-in_err-counted-clause-rings : goal.returns-in_err-counted-clause-rings
returns-in_err-counted-clause-rings g c =
    let loop = c.loop-flow in
    rings-stay g.C.HeaderCheck.accepts loop.flows c.restart.new.self loop.feeding c.restart.new.out loop.flow [] c.in_err-counted.ensures.not_taken
    ∙ (closing-offered g.C.HeaderCheck.accepts c.args.flows.now loop.flows c.args.feeding.now loop.feeding loop.counts.items loop.invariant.so_far).rings

pub push_reserved-requires : goal.push_reserved-requires
push_reserved-requires g c =
    let loop = c.loop-flow in
    omega (arith, loop.counts.ok.0, loop.invariant.next, loop.invariant.room, c.loop-flow-test.true)

pub loop-flow-preserved : goal.loop-flow-preserved
loop-flow-preserved g c =
    let accepts = g.C.HeaderCheck.accepts in
    let loop = c.loop-flow in
    let counts = loop.counts.items in
    let flows = c.restart.new.self in
    let feeding = c.restart.new.out in
    let counted = c.in_ok-counted.counted in
    let pushed = c.push_reserved.ensures.items in
    let anew = subst (λ k. BeginsAnewAt HasOffered accepts loop.flows loop.feeding k 0 counted flows feeding) (sym loop.invariant.next) c.in_ok-counted.ensures.begins_anew in
    let inside : length counts < length loop.flows.slots.items = omega (arith, loop.invariant.next, loop.invariant.many, c.loop-flow-test.true) in
    let closed = next-closed accepts HasOffered c.args.flows.now c.args.feeding.now loop.flows flows loop.feeding feeding counts loop.invariant.so_far counted anew inside in
    record {
      room = omega (arith, c.push_reserved.ensures.capacity, loop.invariant.room);
      few = omega (arith, c.loop-flow-test.true);
      next = ap length pushed ∙ length_push counts counted ∙ ap (λ n. n + 1) loop.invariant.next;
      many = as-many accepts HasOffered c.args.flows.now c.args.feeding.now flows feeding (counts ++ counted ∷ []) c.requires closed ∙ sym c.flow_count-flow_count.ensures;
      in_use = c.in_ok-counted.ensures.in_use;
      so_far = subst (λ (all : List FlowCounts). ClosesSoFar accepts HasOffered c.args.flows.now c.args.feeding.now flows feeding all) (sym {A = List FlowCounts} pushed) closed;
    }

pub returns-clause-rings : goal.returns-clause-rings
returns-clause-rings g c =
    let loop = c.loop-flow in
    (closing-offered g.C.HeaderCheck.accepts c.args.flows.now loop.flows c.args.feeding.now loop.feeding loop.counts.items loop.invariant.so_far).rings

pub returns-clause-closes : goal.returns-clause-closes
returns-clause-closes g c =
    let loop = c.loop-flow in
    all-closed g.C.HeaderCheck.accepts c.args.flows.now loop.flows c.args.feeding.now loop.feeding loop.counts.items loop.invariant.so_far
    (omega (arith, loop.invariant.next, loop.invariant.few, c.loop-flow-test.false, c.flow_count-flow_count.ensures))

pub returns-in_err-counts-clause-first : goal.returns-in_err-counts-clause-first
returns-in_err-counts-clause-first g c =
    let accepts = g.C.HeaderCheck.accepts in
    let flows = c.args.flows.now in
    let feeding = c.args.feeding.now in
    some-closed accepts flows flows feeding feeding [] (none-closed accepts HasOffered flows feeding)

pub returns-in_err-counted-clause-first : goal.returns-in_err-counted-clause-first
returns-in_err-counted-clause-first g c =
    let accepts = g.C.HeaderCheck.accepts in
    let loop = c.loop-flow in
    closed-in-part accepts c.args.flows.now loop.flows c.args.feeding.now loop.feeding loop.counts.items loop.invariant.so_far c.restart.new.self c.restart.new.out
    (subst (λ k. TakesMore HasOffered accepts loop.flows loop.feeding k [] c.restart.new.self c.restart.new.out) (sym loop.invariant.next)
    c.in_err-counted.ensures.not_taken)

pub returns-clause-first : goal.returns-clause-first
returns-clause-first g c =
    let loop = c.loop-flow in
    some-closed g.C.HeaderCheck.accepts c.args.flows.now loop.flows c.args.feeding.now loop.feeding loop.counts.items loop.invariant.so_far
