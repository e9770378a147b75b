-- One flow after another is closed.
use Rattle.std.proofs.Common.{◌+◌, ◌<◌, ◌∷◌, [], ◌++◌, List, length, ap, sym, subst, ◌∙◌, arith}
use Rattle.std.proofs.lemmas.List.{length_push}
use Rattle.flow_core.specs.declared.counts.FlowCounts.{FlowCounts}
use Rattle.bonded_flows.specs.Table.{BeginsAnewAt}
use Rattle.uplink.proofs.FlowsClosed.{ClosesSoFar, none-closed, as-many, next-closed}
use Rattle.uses.proofs.TableTakes.{closes-all}
use Rattle.uses.proofs.midstream.close_all.Goals as goal

pub loop-flow-init : goal.loop-flow-init
loop-flow-init g c =
    let accepts = g.C.HeaderCheck.accepts in
    let after = g.O.Consumer.after in
    let flows = c.args.flows.now in
    let out = c.args.out.now in
    record {
      room = c.in_ok-counts.ensures.capacity;
      few = omega arith;
      next = ap length c.in_ok-counts.ensures.items;
      many = sym c.flow_count-flow_count.ensures;
      in_use = c.requires;
      so_far = subst (λ (counts : List FlowCounts). ClosesSoFar accepts after flows out flows out counts) (sym {A = List FlowCounts} c.in_ok-counts.ensures.items)
          (none-closed accepts after flows out);
    }

pub restart-requires-clause-in_use : goal.restart-requires-clause-in_use
restart-requires-clause-in_use g c = c.loop-flow.invariant.in_use

pub restart-requires-clause-exists : goal.restart-requires-clause-exists
restart-requires-clause-exists g c = omega (arith, c.loop-flow-test.true, c.loop-flow.invariant.many)

pub push_reserved-requires : goal.push_reserved-requires
push_reserved-requires g c =
    let loop = c.loop-flow in
    omega (arith, loop.counts.ok.0, loop.invariant.next, loop.invariant.room, c.loop-flow-test.true)

pub loop-flow-preserved : goal.loop-flow-preserved
loop-flow-preserved g c =
    let accepts = g.C.HeaderCheck.accepts in
    let after = g.O.Consumer.after in
    let loop = c.loop-flow in
    let counts = loop.counts.items in
    let flows = c.restart.new.self in
    let out = c.restart.new.out in
    let counted = c.in_ok-counted.counted in
    let pushed = c.push_reserved.ensures.items in
    let anew = subst (λ k. BeginsAnewAt after accepts loop.flows loop.out k 0 counted flows out) (sym loop.invariant.next) c.in_ok-counted.ensures.begins_anew in
    let inside : length counts < length loop.flows.slots.items = omega (arith, loop.invariant.next, loop.invariant.many, c.loop-flow-test.true) in
    let closed = next-closed accepts after c.args.flows.now c.args.out.now loop.flows flows loop.out out counts loop.invariant.so_far counted anew inside in
    record {
      room = omega (arith, c.push_reserved.ensures.capacity, loop.invariant.room);
      few = omega (arith, c.loop-flow-test.true);
      next = ap length pushed ∙ length_push counts counted ∙ ap (λ n. n + 1) loop.invariant.next;
      many = as-many accepts after c.args.flows.now c.args.out.now flows out (counts ++ counted ∷ []) c.requires closed ∙ sym c.flow_count-flow_count.ensures;
      in_use = c.in_ok-counted.ensures.in_use;
      so_far = subst (λ (all : List FlowCounts). ClosesSoFar accepts after c.args.flows.now c.args.out.now flows out all) (sym {A = List FlowCounts} pushed) closed;
    }

pub returns : goal.returns
returns g c =
    let loop = c.loop-flow in
    closes-all g.O.Consumer.after g.C.HeaderCheck.accepts c.args.flows.now loop.flows c.args.out.now loop.out loop.counts.items loop.invariant.so_far
    (omega (arith, loop.invariant.next, loop.invariant.few, c.loop-flow-test.false, c.flow_count-flow_count.ensures))
