use Rattle.std.proofs.Common.{rules}
use Rattle.std.proofs.lemmas.Result.{on_err_weaker}
use Rattle.engines.proofs.WrittenText.{AppendsFront-longer, AppendsFront-behind}
use Rattle.engines.specs.Device.{inner_of}
use Rattle.engines.proofs.text_writer.TextWriter.write_with.Goals as goal

pub returns-in_err-write_bytes-clause-front : goal.returns-in_err-write_bytes-clause-front
returns-in_err-write_bytes-clause-front g c =
    let front = AppendsFront-longer (g.W.Write.contents (inner_of c.args.self.now.writer.now)) (g.W.Write.contents (inner_of c.write_bytes.new.writer)) c.args.self.now.held.now.items c.args.bytes.now
    (rw c.deref.ensures.value at c.in_err-write_bytes.ensures.front) in
    search (rules, front)

pub returns-clause-front : goal.returns-clause-front
returns-clause-front g c =
    on_err_weaker c.write_bytes-2.result
    (AppendsFront-behind (g.W.Write.contents (inner_of c.args.self.now.writer.now)) (g.W.Write.contents (inner_of c.write_bytes.new.writer))
    (g.W.Write.contents (inner_of c.write_bytes-2.new.writer)) c.args.self.now.held.now.items c.args.bytes.now (rw c.deref.ensures.value at c.in_ok-write_bytes.ensures.written))
    c.write_bytes-2.ensures.front
