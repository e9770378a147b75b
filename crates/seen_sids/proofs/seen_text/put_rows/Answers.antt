use Rattle.std.proofs.Common.{None, []}
use Rattle.seen_sids.specs.declared.seen_sid.SeenSid.{SeenSid}
use Rattle.seen_sids.proofs.PutRows.{puts-row}
use Rattle.seen_sids.proofs.seen_text.put_rows.Goals as goal

pub loop-place-preserved : goal.loop-place-preserved
loop-place-preserved g c =
    let any : SeenSid = record { channel = 0; sid = 0; segments = 0; bad = 0; last = None; kept = []; count = 0 } in
    puts-row g.O.PutText.after c.args.rows.now c.loop-place.place any c.loop-place-test.true c.args.out.now c.loop-place.out c.put_row.new.out c.loop-place.invariant c.put_row.ensures
