-- A run of a trace has an outcome, or an allocation failed.
use Rattle.std.proofs.Common.{◌∷◌, []}
use Rattle.std.specs.Vec.Iter.{into_iter_items}
use Rattle.receiver.specs.Items.{Incoming, incoming_from}
use Rattle.receiver.specs.Ruled.{IsOutcomeBy}
use Rattle.texts.specs.AnyHeader.{any_header}
use Rattle.texts.specs.Run.{IsReceivedBy}
use Rattle.commands.proofs.TraceFromSources.{received, out_of_memory_alone, value_kept}
use Rattle.commands.proofs.run_trace.run_trace.Goals as goal

pub expect_outcome-requires : goal.expect_outcome-requires
expect_outcome-requires g c =
    out_of_memory_alone c.args.trace.setup c.run_by-answer.result c.rows_have_one_first_fault.ensures.none c.requires c.run_by-answer.ensures.fault

pub returns : goal.returns
returns g c =
    let setup = c.args.trace.setup in
    let lists = c.args.trace.lists in
    let made = c.sources_of-sources.ensures in
    let i0 = into_iter_items c.sources_of-sources.result.0.s0.rest in
    let i1 = into_iter_items c.sources_of-sources.result.0.s1.rest in
    let i2 = into_iter_items c.sources_of-sources.result.0.s2.rest in
    let i3 = into_iter_items c.sources_of-sources.result.0.s3.rest in
    let decisions = into_iter_items c.sources_of-sources.result.1.rest in
    let from : Incoming = incoming_from (i0 ∷ i1 ∷ i2 ∷ i3 ∷ []) decisions in
    value_kept c.run_by-answer.result c.expect_outcome.result (λ outcome. IsOutcomeBy c.args.rule any_header setup from outcome.order.items outcome)
    (IsReceivedBy c.args.rule c.args.trace)
    (λ outcome is.
    received c.args.rule any_header setup lists i0 i1 i2 i3 decisions outcome.order.items outcome made.first made.second made.third made.fourth made.decisions is)
    c.expect_outcome.ensures c.run_by-answer.ensures.answer
