-- What was followed so far of the lines of a trace.
use Rattle.std.specs.Prelude.{◌≡◌, ℕ, Option, Some, None, List, ◌++◌, flat_map}
use Rattle.loss_rule.specs.declared.rule.LossRule.{LossRule}
use Rattle.receiver.specs.declared.width.Width.{Width}
use Rattle.text_lines.specs.Putting.{Puts}
use Rattle.texts.specs.declared.follow.happening.Happening.{Happening}
use Rattle.texts.specs.declared.follow.settings.FollowSettings.{FollowSettings}
use Rattle.texts.specs.Follow.{lines_told}
use Rattle.texts.specs.Inside.TraceInput.{TraceState, nothing_taken, HasTakenLines}
use Rattle.followed_traces.specs.declared.follow_input.FollowInput.{FollowInput}
use Rattle.followed_traces.specs.Inside.Watched.{AreOfBytes, ReceiverUnderWay, Watched, starts_watched, HasFollowed, IsNonePending}

-- What the lines say, which is of bytes, was set up and followed, this was told, and these are the
-- settings.
pub record HasFollowedLines (state : TraceState Watched) (follow : FollowInput) : Type 0 where
  pub settings : follow.settings ≡ state.state.settings
  pub bytes : AreOfBytes state.said.entries
  pub lines : HasTakenLines starts_watched HasFollowed state follow.input.width follow.input.rule follow.input.setup follow.input.taker

-- what is known where no line was read, and this was told
abbrev pub no_lines_followed : FollowSettings → List Happening → LossRule → Width → TraceState Watched
no_lines_followed settings told rule width = nothing_taken (record { told = told; settings = settings }) rule width

-- what is known where more was told
abbrev pub with_told : TraceState Watched → List Happening → TraceState Watched
with_told state more = record state { state = record { told = state.state.told ++ more; settings = state.state.settings } }

-- and nothing is pending
abbrev pub IsAllPut : Option ReceiverUnderWay → Type 0
IsAllPut None = Unit {0}
IsAllPut (Some now) = IsNonePending now

-- this text is of what happened for the whole, which is told then, of this line
abbrev pub TellsOfWhole : ℕ → FollowInput → FollowInput → List ℕ → TraceState Watched → Type 0
TellsOfWhole line before now text state =
    (happened : List Happening) × (text ≡ flat_map (lines_told before.settings line) happened) × HasFollowedLines (with_told state happened) now

-- What was pending was put: whatever was told, the lines that the settings ask for of what happened
-- besides, of this line, and it was told then.
pub record PutsHappened {T : Type 0} (after : T → List ℕ → T → Type 0) (line : ℕ) (before : FollowInput) (out : T) (now : FollowInput) (out' : T) : Type 0 where
  pub text : List ℕ
  pub put : Puts after out text out'
  pub none : IsAllPut now.input.taker
  pub settings : now.settings ≡ before.settings
  pub told : (state : TraceState Watched) → HasFollowedLines state before → TellsOfWhole line before now text state
