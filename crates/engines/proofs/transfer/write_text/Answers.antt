use Rattle.std.proofs.Common.{rules}
use Rattle.engines.proofs.WrittenText.{AppendsFront-all}
use Rattle.engines.specs.Device.{inner_of}
use Rattle.engines.proofs.transfer.write_text.Goals as goal

pub returns-in_err-flush-clause-front : goal.returns-in_err-flush-clause-front
returns-in_err-flush-clause-front g c =
    let front = AppendsFront-all (g.W.Write.contents (inner_of c.args.writer.now)) (g.W.Write.contents (inner_of c.write_bytes.new.writer))
    (g.W.Write.contents (inner_of c.flush.new.self)) c.args.text.now c.in_ok-write_bytes.ensures.written c.in_err-flush.ensures.bytes in
    search (rules, front)
