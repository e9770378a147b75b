use Rattle.text_lines.proofs.PutTexts.{puts-then}
use Rattle.capture_command.proofs.whole_command.put_compared.Goals as goal

pub returns : goal.returns
returns g c = (_, puts-then g.O.PutText.after c.put_comparison.ensures c.put_strangers.ensures.1)
