-- A line's first word says which form it has.
use Rattle.std.proofs.Common.{◌≡◌, rules}
use Rattle.texts.specs.Trace.Line.{shape_of, burst_line, grant_line, gap_line, flow_line, sid_line, word_of}
use Rattle.texts.proofs.trace.trace_line.read_trace_line.Goals as goal

pub returns-then-eq-clause-fault : goal.returns-then-eq-clause-fault
returns-then-eq-clause-fault c =
    let same : c.args.field.now ≡ word_of burst_line = search rules in
    rw same (c.read_burst.ensures.fault c.args.ring)

pub returns-then-eq-2-clause-fault : goal.returns-then-eq-2-clause-fault
returns-then-eq-2-clause-fault c =
    let same : c.args.field.now ≡ word_of grant_line = search rules in
    rw same (c.read_grant.ensures.fault c.args.ring)

pub returns-then-eq-3-clause-fault : goal.returns-then-eq-3-clause-fault
returns-then-eq-3-clause-fault c =
    let same : c.args.field.now ≡ word_of gap_line = search rules in
    rw same (c.read_gap.ensures.fault c.args.ring)

pub returns-then-eq-4-clause-fault : goal.returns-then-eq-4-clause-fault
returns-then-eq-4-clause-fault c =
    let same : c.args.field.now ≡ word_of flow_line = search rules in
    rw same (c.read_flow.ensures.fault (shape_of c.args.width c.args.ring))

pub returns-then-eq-5-clause-fault : goal.returns-then-eq-5-clause-fault
returns-then-eq-5-clause-fault c =
    let same : c.args.field.now ≡ word_of sid_line = search rules in
    rw same (c.read_sid.ensures.fault c.args.ring)
