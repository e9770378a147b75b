-- What a trace gives at its end that is followed.
use Rattle.std.specs.Prelude.{◌≡◌, ℕ, List, ◌++◌, map, filter, flat_map}
use Rattle.answers.specs.Beside.{AreCountedAlike}
use Rattle.answers.specs.ToldAlike.{is_told_for}
use Rattle.consumer.specs.declared.given.Given.{Given}
use Rattle.loss_rule.specs.declared.rule.LossRule.{LossRule}
use Rattle.receiver.specs.declared.closing.Closed.{Closed}
use Rattle.receiver.specs.declared.width.Width.{Width}
use Rattle.receiver.specs.HandedIn.{HandedIn, made_of}
use Rattle.receiver.specs.Received.{IsReceived}
use Rattle.texts.specs.declared.follow.happening.Happening.{Happening}
use Rattle.texts.specs.declared.follow.happening.Happening.TheVariants.{Gave}
use Rattle.texts.specs.AnyHeader.{any_header}
use Rattle.texts.specs.Follow.{lines_told, closed_lines}
use Rattle.texts.specs.Happened.{AreHandedIn, HasHappened}
use Rattle.texts.specs.Replay.{IsSetupOf}
use Rattle.texts.specs.Trace.Place.{Said}
use Rattle.followed_traces.specs.declared.follow_input.Followed.{Followed}

-- What is known of the end of a trace whose lines say this, of which this was told: all was handed
-- in; and what is left to be told is what happened by its last line and what the receiver of all of
-- it gives as it is closed, with what was counted, but for what is of flows that aren't selected.
pub record IsFollowedTo (rule : LossRule) (width : Width) (said : Said) (told : List Happening) (end : Followed) : Type 0 where
  pub setup : IsSetupOf said end.setup
  pub handed : List HandedIn
  pub entries : AreHandedIn width.channels said.entries handed
  pub given : List Given
  pub last : List Happening
  pub happened : HasHappened (made_of rule width.channels end.setup) handed given (told ++ last)
  pub rest : List Given
  pub counted : Closed
  pub received : IsReceived any_header (made_of rule width.channels end.setup) handed (given ++ rest) counted
  pub same : filter (is_told_for end.settings.selected) (last ++ map Gave rest) ≡ filter (is_told_for end.settings.selected) end.happened.items
  pub alike : AreCountedAlike end.settings.selected end.closed counted

-- the text of what is left to tell, where this is the last line's number, and of what was counted
abbrev pub end_text : ℕ → Followed → List ℕ
end_text line end = flat_map (lines_told end.settings line) end.happened.items ++ closed_lines end.settings.selected end.setup end.closed
