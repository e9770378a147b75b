use Rattle.text_lines.proofs.PutTexts.{puts-then}
use Rattle.registered_map.proofs.map_text.put_comment.Goals as goal

pub returns : goal.returns
returns g c = puts-then g.O.PutText.after c.put_word.ensures c.put_telling.ensures
