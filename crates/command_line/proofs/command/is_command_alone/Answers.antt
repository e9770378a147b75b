use Rattle.std.proofs.Common.{sym, ◌∙◌}
use Rattle.std.proofs.lemmas.Bool.Decides.{Decides-eqb}
use Rattle.std.proofs.lemmas.Slice.Eq.{slice_eq-Decides}
use Rattle.command_line.proofs.AskedWords.{IsCommandAlone-two}
use Rattle.command_line.proofs.command.is_command_alone.Goals as goal

pub returns-in-len2 : goal.returns-in-len2
returns-in-len2 g c =
    let text = c.as_str.ensures in
    let two = IsCommandAlone-two c.args.command.now g.S.AsStr.text c.args.words.now c.word-item.result c.in-len2.len_at_least c.in-len2.len_below c.word-item.is in
    let same = slice_eq-Decides Decides-eqb c.as_str.result.now c.args.command.now c.eq.result c.eq.ensures in
    (λ t. two.0 (sym text ∙ same.0 t), λ asks. same.1 (text ∙ two.1 asks))
