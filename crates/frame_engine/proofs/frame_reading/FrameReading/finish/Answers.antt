-- The end was joined and written, or not.
use Rattle.std.proofs.Common.{sym, subst, rules}
use Rattle.capture.specs.Captures.{IsWholeCapture}
use Rattle.engines.specs.declared.fault.EngineFault.{EngineFault}
use Rattle.frame_engine.specs.Inside.Joins.{EndsBy}
use Rattle.std.proofs.lemmas.Result.{on_ok_weaker}
use Rattle.frame_engine.proofs.Ended.{bytes-early, bytes-finished}
use Rattle.frame_engine.proofs.Beside.{finished-beside}
use Rattle.frame_engine.proofs.frame_reading.FrameReading.finish.Goals as goal

pub returns-in-Ok-clause-written : goal.returns-in-Ok-clause-written
returns-in-Ok-clause-written g c = λ settings capture_map bytes written has.
    let whole : IsWholeCapture c.args.self.reader = search rules in
    bytes-finished settings capture_map g.W.Write.contents bytes written c.args.self has whole c.args.writer.now c.finish-in-Ok.new.writer c.finish-in-Ok.result
    (c.finish-in-Ok.ensures.written settings capture_map has.joined.bursts written has.joined.taken_in)

pub returns-clause-written : goal.returns-clause-written
returns-clause-written g c = λ settings capture_map bytes written has.
    let early : ¬ IsWholeCapture c.args.self.reader = search rules in
    subst (λ (fault : EngineFault). EndsBy g.W.Write.contents settings capture_map bytes written c.args.self c.args.writer.now c.args.writer.now fault) (sym c.of_capture.ensures)
    (bytes-early settings capture_map g.W.Write.contents bytes written c.args.self has c.args.writer.now c.in-Err.fault early c.requires.empty)

pub returns-in-Ok-clause-compared : goal.returns-in-Ok-clause-compared
returns-in-Ok-clause-compared g c =
    let whole : IsWholeCapture c.args.self.reader = search rules in
    on_ok_weaker c.finish-in-Ok.result
    (λ finishes. λ settings capture_map bytes written has.
    finished-beside g.W.Write.contents settings capture_map bytes written c.args.self has.read c.args.writer.now c.finish-in-Ok.new.writer c.finish-in-Ok.new.comparing whole
    (finishes settings capture_map has.read.records has.read.joined.bursts written (record { taken = has.read.joined.taken_in; compares = has.compares })))
    c.finish-in-Ok.ensures.compared
