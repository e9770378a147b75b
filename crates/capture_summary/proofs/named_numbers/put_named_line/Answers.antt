use Rattle.std.proofs.Common.{List, ℕ, [], ◌∷◌, ◌++◌, sym, subst}
use Rattle.text_lines.specs.Lines.{line_feed}
use Rattle.text_lines.specs.Putting.{Puts}
use Rattle.text_lines.proofs.PutTexts.{puts-then}
use Rattle.capture_summary.specs.Words.{named}
use Rattle.capture_summary.proofs.TextsFrom.{texts_from-all}
use Rattle.capture_summary.proofs.named_numbers.put_named_line.Goals as goal

pub returns : goal.returns
returns g c =
    subst (λ (all : List ℕ). Puts g.O.PutText.after c.args.out.now (all ++ line_feed ∷ []) c.put_word.new.out)
    (sym (texts_from-all (λ part. named part.0.now part.1) [] c.args.parts.now))
    (puts-then g.O.PutText.after c.put_all_named.ensures c.put_word.ensures)
