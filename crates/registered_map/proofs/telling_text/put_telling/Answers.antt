use Rattle.text_lines.proofs.PutTexts.{puts-then}
use Rattle.registered_map.proofs.telling_text.put_telling.Goals as goal

pub returns : goal.returns
returns g c = puts-then g.O.PutText.after (puts-then g.O.PutText.after (puts-then g.O.PutText.after (puts-then g.O.PutText.after (puts-then g.O.PutText.after (puts-then g.O.PutText.after (puts-then g.O.PutText.after (puts-then g.O.PutText.after c.put_word.ensures c.put_modem.ensures) c.put_word-2.ensures) c.put_seconds.ensures) c.put_word-3.ensures) c.put_spaced.ensures) c.put_word-4.ensures) c.put_message.ensures) c.put_word-5.ensures
