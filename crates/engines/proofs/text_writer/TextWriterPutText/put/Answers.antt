use Rattle.std.proofs.Common.{◌≢◌, [], refl, rules}
use Rattle.engines.proofs.WrittenText.{put-failed, put-taken}
use Rattle.engines.proofs.text_writer.TextWriterPutText.put.Goals as goal

pub returns-in-Failed : goal.returns-in-Failed
returns-in-Failed g c = λ start text was. put-failed g.W.Write.contents start text c.args.bytes.now c.args.self.now c.in-Failed.is was

pub returns-then-not-is_empty : goal.returns-then-not-is_empty
returns-then-not-is_empty g c = λ start text was.
    let some : c.args.bytes.now ≢ [] = search rules in
    put-taken g.W.Write.contents start text c.args.bytes.now c.args.self.now c.take-self.new.self
    (record { writer = c.take-self.new.self.writer; held = c.take-self.new.self.held; stage = c.take-self.result }) some c.in_default.not-Failed
    c.take-self.ensures.same_reference c.take-self.ensures.taken refl refl was
