-- One more record has its flow.
use Rattle.std.proofs.Common.{◌+◌, [], ◌∷◌, length, sym, ap, subst, ◌∙◌, arith, length-append}
use Rattle.std.proofs.lemmas.Option.{slice_get-get_or, slice_get_within}
use Rattle.flow_core.proofs.NewFlows.{AreNewBelow, new-more}
use Rattle.flow_core.proofs.flow.new_flows.Goals as goal

pub new-requires : goal.new-requires
new-requires c = c.requires.each c.loop-record.record-index _ (slice_get-get_or c.args.records.now c.loop-record.record-index _ c.loop-record-test.true)

pub loop-record-preserved : goal.loop-record-preserved
loop-record-preserved c =
    let n = c.loop-record.record-index in
    let held = c.loop-record.flows.items in
    let items = c.push_reserved.ensures.items in
    let capacity = c.push_reserved.ensures.capacity in
    let more = new-more c.args.records.now held n _ c.in_ok-new.field-0 c.loop-record.invariant.count
    (slice_get-get_or c.args.records.now n _ c.loop-record-test.true) c.in_ok-new.ensures.stands c.loop-record.invariant.each in
    record {
      count = ap length items ∙ length-append held (c.in_ok-new.field-0 ∷ []) ∙ ap (λ m. m + 1) c.loop-record.invariant.count;
      room = omega arith;
      each = subst (λ flows. AreNewBelow c.args.records.now flows (n + 1)) (sym items) more;
    }

pub returns-clause-each : goal.returns-clause-each
returns-clause-each c k flow_record has =
    let below = slice_get_within c.args.records.now k flow_record has in
    c.loop-record.invariant.each k flow_record (omega arith) has
