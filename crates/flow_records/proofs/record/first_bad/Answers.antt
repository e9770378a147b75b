-- A record that is out of range has an index, so it was looked at.
use Rattle.std.proofs.Common.{below_more, subst, arith}
use Rattle.std.proofs.lemmas.Option.{slice_get_within, get_or_from_slice_get}
use Rattle.flow_records.specs.Setup.{IsInRange}
use Rattle.flow_records.proofs.record.first_bad.Goals as goal

pub loop-k-preserved : goal.loop-k-preserved
loop-k-preserved c =
    below_more _ _ c.loop-k.invariant
    (λ bad.
    let is = get_or_from_slice_get c.args.records.now c.loop-k.k bad.0 (record { sfid = 0; first = 0; window = 0; clusters = 0; ring = 0 }) bad.1 in
    bad.2 (subst IsInRange is (c.is_in_range.ensures.0 c.if-not-is_in_range.false)))

pub returns : goal.returns
returns c k bad =
    let below = slice_get_within c.args.records.now k bad.0 bad.1 in
    c.loop-k.invariant k (omega arith) bad
