-- One line after another, up to the end or to the first faulty one.
use Rattle.std.proofs.Common.{◌≡◌, [], arith, rules}
use Rattle.std.proofs.lemmas.List.{nil_from_length}
use Rattle.capture_map.proofs.MapSoFar.{MapSoFar-more, MapSoFar-all, MapSoFar-fault}
use Rattle.capture_map.proofs.reading.read_map.Goals as goal

pub loop-rest-preserved : goal.loop-rest-preserved
loop-rest-preserved c =
    let so_far = c.loop-rest.invariant.so_far in
    record {
      so_far = MapSoFar-more c.args.text.now c.loop-rest.rest.now c.split_line.result.0.now c.split_line.result.1.now c.loop-rest.number c.loop-rest.reading c.take_line.new.self
          so_far c.split_line.ensures.lines (c.in_default.ensures so_far.said so_far.read);
      within = omega arith;
    }

pub returns-clause-map : goal.returns-clause-map
returns-clause-map c =
    let done : c.loop-rest.rest.now ≡ [] = nil_from_length c.loop-rest.rest.now (search rules) in
    MapSoFar-all c.args.text.now c.loop-rest.rest.now c.loop-rest.number c.loop-rest.reading c.loop-rest.invariant.so_far done

pub returns-in-Err-clause-fault : goal.returns-in-Err-clause-fault
returns-in-Err-clause-fault c =
    let so_far = c.loop-rest.invariant.so_far in
    rw c.at.ensures
    (MapSoFar-fault c.args.text.now c.loop-rest.rest.now c.split_line.result.0.now c.split_line.result.1.now c.loop-rest.number c.loop-rest.reading c.in-Err.fault
    so_far c.split_line.ensures.lines (c.in-Err.ensures so_far.said so_far.read))
