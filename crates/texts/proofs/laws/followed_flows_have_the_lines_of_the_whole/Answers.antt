-- The whole text is of the same lines, all of which are left.
use Rattle.std.proofs.Common.{refl, sym, ◌∙◌}
use Rattle.flow_selection.specs.declared.selection.Selection.TheVariants.{All}
use Rattle.flow_selection.proofs.LinesLeft.{text_left-all}
use Rattle.texts.specs.Selected.{followed_lines}
use Rattle.texts.proofs.FollowedLinesLeft.{followed_left, followed_text}
use Rattle.texts.proofs.laws.followed_flows_have_the_lines_of_the_whole.Goals as goal

pub returns : goal.returns
returns c rule width settings input text is =
    let lines = followed_lines settings.events is.told is.rest is.setup is.closed in (
      followed_text All settings.events is.told is.rest is.setup is.closed,
      lines,
      record {
        said = is.said;
        read = is.read;
        setup = is.setup;
        is_setup = is.is_setup;
        handed = is.handed;
        entries = is.entries;
        given = is.given;
        told = is.told;
        happened = is.happened;
        numbered = is.numbered;
        rest = is.rest;
        closed = is.closed;
        received = is.received;
        printed = refl;
      },
      sym (followed_left All settings.events is.told is.rest is.setup is.closed) ∙ text_left-all lines,
      is.printed ∙ sym (followed_left settings.selected settings.events is.told is.rest is.setup is.closed),
    )
