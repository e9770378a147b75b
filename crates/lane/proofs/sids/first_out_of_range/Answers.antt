-- A row that is out of range has an index, so it was looked at.
use Rattle.std.proofs.Common.{◌≤◌, below_more, ap, arith, ⊎_elim}
use Rattle.std.proofs.lemmas.Option.{slice_get_within, get_or_from_slice_get}
use Rattle.lane.specs.declared.sids.SidRow.{SidRow}
use Rattle.lane.proofs.sids.first_out_of_range.Goals as goal

pub loop-k-preserved : goal.loop-k-preserved
loop-k-preserved c =
    below_more _ _ c.loop-k.invariant
    (λ bad.
    let is = get_or_from_slice_get c.args.rows.now c.loop-k.k bad.0 (record { channel = 0; sid = 0; flow = 0 }) bad.1 in
    let channel = ap (λ (row : SidRow). row.channel) is in
    let sid = ap (λ (row : SidRow). row.sid) is in
    let sid_read = c.from.ensures in
    let channel_below = c.if-row-channels.false in
    let sid_below = c.if-from-ge-SIDS.false in
    ⊎_elim (λ (above : c.args.channels ≤ bad.0.channel). omega arith) (λ (above : 16384 ≤ bad.0.sid). omega arith) bad.2)

pub returns : goal.returns
returns c k bad =
    let below = slice_get_within c.args.rows.now k bad.0 bad.1 in
    c.loop-k.invariant k (omega arith) bad
