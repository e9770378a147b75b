-- An identifier that the set has already stands in an earlier record.
use Rattle.std.proofs.Common.{◌≡◌, true, false, below_more, arith}
use Rattle.std.proofs.lemmas.Option.{slice_get-get_or, slice_get_within}
use Rattle.flow_records.proofs.SeenIdentifiers.{was-there, was-new, seen-more, repeated-here, repeated-not}
use Rattle.flow_records.proofs.record.first_repeated_of_many.Goals as goal

pub returns-then-not-branch : goal.returns-then-not-branch
returns-then-not-branch c =
    let at = slice_get-get_or c.args.records.now c.loop-k.k (record { sfid = 0; first = 0; window = 0; clusters = 0; ring = 0 }) c.loop-k-test.true in
    let stood : c.in_ok-insert.field-0 ≡ false = cc in
    (repeated-here c.args.records.now c.loop-k.k _ c.loop-k.seen at c.loop-k.invariant.seen (was-there _ _ c.in_ok-insert.ensures.added stood), c.loop-k.invariant.apart)

pub loop-k-preserved : goal.loop-k-preserved
loop-k-preserved c =
    let at = slice_get-get_or c.args.records.now c.loop-k.k (record { sfid = 0; first = 0; window = 0; clusters = 0; ring = 0 }) c.loop-k-test.true in
    let added : c.in_ok-insert.field-0 ≡ true = cc in
    record {
      seen = seen-more c.args.records.now c.loop-k.k _ c.loop-k.seen at c.loop-k.invariant.seen c.insert.new.self c.in_ok-insert.ensures.updates;
      apart = below_more _ _ c.loop-k.invariant.apart
          (repeated-not c.args.records.now c.loop-k.k _ c.loop-k.seen at c.loop-k.invariant.seen (was-new _ _ c.in_ok-insert.ensures.added added));
    }

pub returns : goal.returns
returns c k repeated =
    let below = slice_get_within c.args.records.now k repeated.2 repeated.4 in
    c.loop-k.invariant.apart k (omega arith) repeated
