-- One flow after another has its frames and its counts.
use Rattle.std.proofs.Common.{rules, arith, ◌<◌, length, subst, ◌∙◌}
use Rattle.std.specs.Vec.Iter.{into_iter_items}
use Rattle.std.proofs.lemmas.List.{length-append, nil_from_length}
use Rattle.uplink.proofs.FlowsCollected.{AreFlowsSoFar, next_flow, all_flows}
use Rattle.uses.proofs.midstream.outcomes_of.Goals as goal

pub loop-frames-preserved : goal.loop-frames-preserved
loop-frames-preserved c =
    let loop = c.loop-frames in
    let records = c.args.records.now in
    let counts = c.args.counts.now in
    let flows = loop.flows.items in
    let given = c.args.given.items in
    let came = c.in-Some.ensures.steps.0 in
    let pushed = c.push_reserved.ensures.items in
    let below : c.len-k.result < length records = search rules in
    record {
      room = search rules;
      left = search (rules, length-append, loop.invariant.left, came);
      so_far = next_flow records given counts flows c.push_reserved.new.self.items c.len-k.result _ _ c.in-Some.frames (into_iter_items c.next.new.self)
          (subst (AreFlowsSoFar records given counts flows) came loop.invariant.so_far) (c.len-k.ensures ∙ loop.flows.ok.0) below
          (omega (arith, below, c.requires.counts)) pushed;
    }

pub returns : goal.returns
returns c =
    let loop = c.loop-frames in
    let given = c.args.given.items in
    let none = nil_from_length (into_iter_items loop.frames-iterator) (search rules) in
    all_flows c.args.records.now given c.args.counts.now loop.flows.items
    (subst (AreFlowsSoFar c.args.records.now given c.args.counts.now loop.flows.items) none loop.invariant.so_far) c.requires.frames
