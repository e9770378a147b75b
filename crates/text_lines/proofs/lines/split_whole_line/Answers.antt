use Rattle.std.proofs.Common.{◌+◌, ◌∙◌, sym}
use Rattle.std.proofs.lemmas.List.{take_rest}
use Rattle.text_lines.specs.Lines.{is_line_feed}
use Rattle.text_lines.proofs.FirstBytes.{position-none}
use Rattle.text_lines.proofs.CutAtLineFeeds.{BeginsWithLine-at}
use Rattle.text_lines.proofs.lines.split_whole_line.Goals as goal

pub returns-in_err-end : goal.returns-in_err-end
returns-in_err-end c = rw c.from_residual.ensures (position-none is_line_feed c.args.text.now (sym c.line_end.ensures ∙ c.in_err-end.was))

pub returns : goal.returns
returns c =
    let text = c.args.text.now in
    rw (take_rest text (c.in_ok-end.end + 1)) (BeginsWithLine-at text c.in_ok-end.end (sym c.line_end.ensures ∙ c.in_ok-end.was))
