use Rattle.engines.proofs.WrittenText.{put-failed}
use Rattle.engines.proofs.text_writer.TextWriterPutText.is_closed.Goals as goal

pub returns-in-Failed : goal.returns-in-Failed
returns-in-Failed g c = λ yes more start text was. put-failed g.W.Write.contents start text more c.args.self.now c.in-Failed.is was
