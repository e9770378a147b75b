use Rattle.std.proofs.Common.{◌≡◌, true, sym, ◌∙◌}
use Rattle.flow_selection.specs.Selection.{is_selected}
use Rattle.text_lines.proofs.PutTexts.{puts-then}
use Rattle.texts.proofs.report_text.put_flow.Goals as goal

pub returns-then-has : goal.returns-then-has
returns-then-has g c =
    let is : is_selected c.args.selected.now c.args.k ≡ true = sym c.has.ensures ∙ c.if-has.true in
    rw is (puts-then g.O.PutText.after c.put_flow_line.ensures c.put_frames.ensures)
