use Rattle.std.proofs.Common.{[], refl}
use Rattle.flow_selection.specs.Selection.{is_selected}
use Rattle.texts.specs.Trace.Line.{shape_of}
use Rattle.texts.specs.Trace.Place.{nothing_said_in}
use Rattle.text_lines.specs.Capacities.{default_capacity}
use Rattle.texts.proofs.StandInEntries.{nothing_in_place}
use Rattle.texts.proofs.replay.selected_replay.SelectedReplay.new.Goals as goal

pub returns : goal.returns
returns c = record {
  selected_is = refl;
  others = [];
  in_place = nothing_in_place (is_selected c.args.selected.now) [] (nothing_said_in (shape_of c.args.width default_capacity)) refl refl;
  replayed = c.in_ok-new.ensures.lines tt tt;
}
