use Rattle.std.proofs.Common.{[], sym, subst, rules}
use Rattle.std.proofs.lemmas.List.{take_more}
use Rattle.frame_engine.specs.Progress.{AreCounted, no_flows}
use Rattle.frame_engine.proofs.Counted.{is-since, counted-more}
use Rattle.frame_engine.proofs.progress.counts_so_far.Goals as goal

pub loop-flow-init : goal.loop-flow-init
loop-flow-init c = subst (λ counts. AreCounted c.args.reading.now [] counts) (sym c.none-counts.ensures) no_flows

pub loop-flow-preserved : goal.loop-flow-preserved
loop-flow-preserved c =
    counted-more c.args.reading.now c.args.tally.now.summary.flows.items c.loop-flow.flow c.index.result.now c.counts-since.result c.has-is_selected.result c.loop-flow.counts c.with_flow-counts.result (search rules)
    (search (rules, take_more)) (is-since c.args.reading.now c.loop-flow.flow c.counts-since.result c.counts-since.ensures.none c.counts-since.ensures.counts) (search rules)
    c.with_flow-counts.ensures.selected c.with_flow-counts.ensures.other c.loop-flow.invariant
