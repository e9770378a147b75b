use Rattle.std.proofs.Common.{◌≡◌, true, sym, ap, ◌∙◌}
use Rattle.flow_selection.specs.Lines.{is_left}
use Rattle.texts.specs.Follow.{flow_of_happening}
use Rattle.texts.proofs.follow.lines.put_if_told.Goals as goal

pub returns-then-leaves : goal.returns-then-leaves
returns-then-leaves g c =
    let is : is_left c.args.settings.now.selected (flow_of_happening c.args.one.now) ≡ true =
    ap (is_left c.args.settings.now.selected) (sym c.flow_of.ensures) ∙ sym c.leaves.ensures ∙ c.if-leaves.true in
    rw is c.put_one.ensures
