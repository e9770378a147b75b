use Rattle.std.proofs.Common.{◌≡◌, true, sym, ◌∙◌}
use Rattle.flow_selection.specs.Selection.{is_selected}
use Rattle.texts.proofs.follow.lines.put_selected.Goals as goal

pub returns-then-has : goal.returns-then-has
returns-then-has g c =
    let is : is_selected c.args.selected.now c.args.k ≡ true = sym c.has.ensures ∙ c.if-has.true in
    rw is c.put_flow.ensures
