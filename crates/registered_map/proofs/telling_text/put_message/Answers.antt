use Rattle.text_lines.proofs.PutTexts.{puts-then}
use Rattle.registered_map.proofs.telling_text.put_message.Goals as goal

pub returns-in-DbcReq : goal.returns-in-DbcReq
returns-in-DbcReq g c = rw c.in-DbcReq.is (rw c.from.ensures at (puts-then g.O.PutText.after c.put_word-in-DbcReq.ensures c.put_spaced.ensures))
