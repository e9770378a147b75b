use Rattle.std.proofs.Common.{rules}
use Rattle.std.specs.Prelude.{IsErr}
use Rattle.engines.proofs.WrittenText.{written-none, AppendsFront-all}
use Rattle.engines.specs.Device.{inner_of}
use Rattle.engines.proofs.text_writer.TextWriter.finish.Goals as goal

pub returns-in_err-write_bytes-in-Writing-clause-written : goal.returns-in_err-write_bytes-in-Writing-clause-written
returns-in_err-write_bytes-in-Writing-clause-written g c = λ start text was.
    let err : IsErr c.from_residual.result = search rules in
    written-none g.W.Write.contents start text c.args.self.now c.write_bytes.new.writer c.in-Writing.is was
    (rw c.deref.ensures.value at c.in_err-write_bytes-in-Writing.ensures.front) c.in_err-write_bytes-in-Writing.ensures.failed c.from_residual.result err

pub returns-in_err-flush-in-Writing-clause-written : goal.returns-in_err-flush-in-Writing-clause-written
returns-in_err-flush-in-Writing-clause-written g c = λ start text was.
    let err : IsErr c.from_residual-in_err-flush-in-Writing.result = search rules in
    written-none g.W.Write.contents start text c.args.self.now c.flush.new.self c.in-Writing.is was
    (AppendsFront-all (g.W.Write.contents (inner_of c.args.self.now.writer.now)) (g.W.Write.contents (inner_of c.write_bytes.new.writer))
    (g.W.Write.contents (inner_of c.flush.new.self)) c.args.self.now.held.now.items (rw c.deref.ensures.value at c.in_ok-write_bytes-in-Writing.ensures.written)
    c.in_err-flush-in-Writing.ensures.bytes)
    c.in_err-flush-in-Writing.ensures.record.0.0 c.from_residual-in_err-flush-in-Writing.result err
