-- A row without a flow has an index, so it was looked at.
use Rattle.std.proofs.Common.{below_more, ap, arith}
use Rattle.std.proofs.lemmas.Option.{slice_get_within, get_or_from_slice_get}
use Rattle.lane.specs.declared.sids.SidRow.{SidRow}
use Rattle.lane.proofs.sids.first_without_flow.Goals as goal

pub loop-k-preserved : goal.loop-k-preserved
loop-k-preserved c =
    below_more _ _ c.loop-k.invariant
    (λ bad.
    let flow = ap (λ (row : SidRow). row.flow) (get_or_from_slice_get c.args.rows.now c.loop-k.k bad.0 (record { channel = 0; sid = 0; flow = 0 }) bad.1) in
    let below = c.if-row-flow_count.false in
    let above = bad.2 in
    omega arith)

pub returns : goal.returns
returns c k bad =
    let below = slice_get_within c.args.rows.now k bad.0 bad.1 in
    c.loop-k.invariant k (omega arith) bad
