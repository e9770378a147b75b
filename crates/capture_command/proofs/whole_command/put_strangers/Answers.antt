use Rattle.std.proofs.Common.{[]}
use Rattle.text_lines.proofs.PutTexts.{puts-nothing, puts-then}
use Rattle.capture_command.proofs.whole_command.put_strangers.Goals as goal

pub returns-then-count-eq0 : goal.returns-then-count-eq0
returns-then-count-eq0 g c = ([], puts-nothing g.O.PutText.after c.args.out.now)

pub returns : goal.returns
returns g c =
    let A = g.O.PutText.after in
    (_, puts-then A c.put_word.ensures (puts-then A c.put_number.ensures c.put_word-2.ensures))
