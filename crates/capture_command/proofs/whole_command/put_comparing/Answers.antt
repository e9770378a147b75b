use Rattle.std.proofs.Common.{[]}
use Rattle.text_lines.proofs.PutTexts.{puts-nothing}
use Rattle.capture_command.proofs.whole_command.put_comparing.Goals as goal

pub returns-in_default : goal.returns-in_default
returns-in_default g c = ([], puts-nothing g.O.PutText.after c.args.out.now)

pub returns : goal.returns
returns g c = c.put_compared.ensures
