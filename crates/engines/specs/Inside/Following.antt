-- How far a trace was followed.
use Rattle.std.specs.Prelude.{◌≡◌, ◌⊎◌, ◌<◌, ◌≤◌, ◌^◌, ◌-◌, ◌∷◌, ◌++◌, min, ℕ, List, [], Option, true, Result, MatchResult, length, map, flat_map}
use Rattle.std.specs.List.{slice_split}
use Rattle.std.specs.Io.KnownBytes.{Appends}
use Rattle.std.specs.declared.alloc.AllocError.{AllocError}
use Rattle.loss_rule.specs.declared.rule.LossRule.{LossRule}
use Rattle.receiver.specs.declared.width.Width.{Width}
use Rattle.text_lines.specs.Capacities.{default_capacity}
use Rattle.text_lines.specs.declared.fault.ParseFault.TheVariants as parse
use Rattle.text_lines.specs.Format.{IsRead, IsFirstFaultyLine}
use Rattle.text_lines.specs.LineReading.{HasTaken, IsSettledFault}
use Rattle.text_lines.specs.Lines.{lines_of, is_line_feed}
use Rattle.text_lines.specs.Putting.{Puts}
use Rattle.texts.specs.declared.follow.settings.FollowSettings.{FollowSettings}
use Rattle.texts.specs.declared.follow.happening.Happening.{Happening}
use Rattle.texts.specs.Follow.{told_lines, IsFollowed, IsFollowedSoFar}
use Rattle.texts.specs.Happened.{HappenedBy, HappenedAt, happening_of, AreNumbered}
use Rattle.followed_traces.specs.Inside.Watched.{Watched}
use Rattle.followed_traces.specs.Inside.Lines.{no_lines_followed, HasFollowedLines, IsAllPut}
use Rattle.texts.specs.Trace.Line.{shape_of}
use Rattle.texts.specs.Trace.Place.{nothing_said_in, trace_format}
use Rattle.texts.specs.Inside.TraceInput.{TraceState, taking_format}
use Rattle.engines.specs.declared.device.Device.{Device}
use Rattle.engines.specs.declared.fault.EngineFault.{EngineFault}
use Rattle.engines.specs.declared.follow.Follower.{Follower}
use Rattle.engines.specs.declared.follow.ended.EndedTrace.{EndedTrace}
use Rattle.engines.specs.declared.fault.EngineFault.TheVariants.{Trace, OutOfMemory, Write}
use Rattle.engines.specs.declared.fault.WriteFault.{WriteFault}
use Rattle.engines.specs.Device.{inner_of, has_failed}
use Rattle.engines.specs.Following.{IsTextOfFront}
use Rattle.engines.specs.Transfer.{AppendsFront, IsLeftFlushed}
use Rattle.engines.specs.Writing.{IsWritten}

-- what is known of the lines so far, of which some was told
abbrev pub HasFollowedSoFar : TraceState Watched → Follower → Type 0
HasFollowedSoFar state follower = HasFollowedLines state follower.input

-- none of this has a greater number than so many lines
abbrev pub AreWithin : ℕ → List HappenedAt → Type 0
AreWithin lines [] = Unit {0}
AreWithin lines (one ∷ told) = (one.line ≤ lines) × AreWithin lines told

-- These bytes were followed by this rule for this width: the lines that line feeds end were read,
-- and all that happened by them was told, each thing by the number of its line.
pub record HasFollowedBytes (rule : LossRule) (width : Width) (settings : FollowSettings) (bytes : List ℕ) (told : List HappenedAt) (follower : Follower) : Type 0 where
  pub settings_are : follower.input.settings ≡ settings
  pub taken : HasTaken taking_format (no_lines_followed settings (map happening_of told) rule width) HasFollowedSoFar follower follower.lines bytes
  pub within : AreWithin follower.lines.count told
  pub numbered : (lines : List (List ℕ)) (rest : List ℕ) → slice_split is_line_feed bytes ≡ lines ++ rest ∷ [] → AreNumbered rule width lines told
  pub put : IsAllPut follower.input.input.taker

-- why no more of these bytes was followed, whatever comes behind them
abbrev pub IsFollowFault : Width → List ℕ → EngineFault → Type 0
IsFollowFault width bytes (Trace fault) =
    length bytes < 2 ^ 64 → IsSettledFault trace_format (nothing_said_in (shape_of width default_capacity)) bytes (parse.Line fault)
IsFollowFault width bytes OutOfMemory = Unit {0}
IsFollowFault width bytes _ = ⊥

-- Whatever was followed and told, a piece was followed besides, and what happened by its lines was
-- put: for all of them, or for those above a fault.
abbrev pub FollowsPiece : {T : Type 0} → (T → List ℕ → T → Type 0) → Follower → T → List ℕ → Follower → T → Result (Unit {0}) EngineFault → Type 0
FollowsPiece after follower out piece follower' out' result =
    (rule : LossRule) (width : Width) (settings : FollowSettings) (bytes : List ℕ) (told : List HappenedAt) → HasFollowedBytes rule width settings bytes told follower
    → (more : List HappenedAt) × Puts after out (flat_map (told_lines settings) more) out'
    × MatchResult result (λ _. HasFollowedBytes rule width settings (bytes ++ piece) (told ++ more) follower')
    (λ fault. IsTextOfFront rule width settings fault (bytes ++ piece) (flat_map (told_lines settings) (told ++ more)) × IsFollowFault width (bytes ++ piece) fault)

-- why the last line was not taken
abbrev pub IsEndFault : Width → List ℕ → EngineFault → Type 0
IsEndFault width bytes (Trace fault) =
    length bytes < 2 ^ 64 → IsFirstFaultyLine trace_format (nothing_said_in (shape_of width default_capacity)) (lines_of bytes) fault
IsEndFault width bytes OutOfMemory = Unit {0}
IsEndFault width bytes _ = ⊥

abbrev pub CannotEnd : Follower → EngineFault → Type 0
CannotEnd follower fault =
    (rule : LossRule) (width : Width) (settings : FollowSettings) (bytes : List ℕ) (told : List HappenedAt) → HasFollowedBytes rule width settings bytes told follower → IsEndFault width bytes fault

-- all this happened by the line with this number
abbrev pub all_at : ℕ → List Happening → List HappenedAt
all_at line happened = map (λ one. record { line = line; happening = one }) happened

-- All lines of these bytes were followed by this rule for this width, also a last one that no line
-- feed ends, and this was told of what happened by them: each thing by the number of its line, and
-- what is told besides happens by the last one.
pub record HasEnded (rule : LossRule) (width : Width) (settings : FollowSettings) (bytes : List ℕ) (told : List HappenedAt) (ended : EndedTrace) : Type 0 where
  pub settings_are : ended.input.settings ≡ settings
  pub state : TraceState Watched
  pub read : IsRead taking_format (no_lines_followed settings (map happening_of told) rule width) (lines_of bytes) state
  pub stands : HasFollowedLines state ended.input
  pub numbered : (happened : List Happening) → HappenedBy rule width (lines_of bytes) (map happening_of told ++ happened)
      → AreNumbered rule width (lines_of bytes) (told ++ all_at ended.line happened)

-- whatever was followed, all its lines were
abbrev pub EndsLines : Follower → EndedTrace → Type 0
EndsLines follower ended =
    (rule : LossRule) (width : Width) (settings : FollowSettings) (bytes : List ℕ) (told : List HappenedAt) → HasFollowedBytes rule width settings bytes told follower
    → HasEnded rule width settings bytes told ended

-- this is the number of the last line of whatever was followed, which may not be ended yet
abbrev pub IsLastLine : Follower → ℕ → Type 0
IsLastLine follower line =
    (rule : LossRule) (width : Width) (settings : FollowSettings) (bytes : List ℕ) (told : List HappenedAt) → HasFollowedBytes rule width settings bytes told follower
    → line ≡ min (length (lines_of bytes)) (2 ^ 64 - 1)

module _ {W : Type 0} (contents : W → Option (List ℕ)) where
  -- Whatever was followed and told, a piece was followed besides, and what happened by its lines
  -- was written, or not.
  abbrev pub WritesPiece : Follower → Device W → List ℕ → Follower → Device W → Result (Unit {0}) WriteFault → Result (Unit {0}) EngineFault → Type 0
  WritesPiece follower writer piece follower' writer' written taken =
      (rule : LossRule) (width : Width) (settings : FollowSettings) (bytes : List ℕ) (told : List HappenedAt) → HasFollowedBytes rule width settings bytes told follower
      → (more : List HappenedAt) × IsWritten contents (flat_map (told_lines settings) more) writer writer' written
      × MatchResult taken (λ _. HasFollowedBytes rule width settings (bytes ++ piece) (told ++ more) follower')
      (λ fault. IsTextOfFront rule width settings fault (bytes ++ piece) (flat_map (told_lines settings) (told ++ more)) × IsFollowFault width (bytes ++ piece) fault)

  -- where following ended by this fault, this text was written or, where the writer failed, a front
  -- of it
  abbrev pub WritesTill : Device W → Device W → List ℕ → EngineFault → Type 0
  WritesTill writer writer' text Write = AppendsFront (contents (inner_of writer)) (contents (inner_of writer')) text × (has_failed writer' ≡ true)
  WritesTill writer writer' text _ =
      Appends (contents (inner_of writer)) (contents (inner_of writer')) text × IsLeftFlushed writer writer' × (has_failed writer' ≡ has_failed writer)

  abbrev pub IsFollowFaultOr : Width → List ℕ → EngineFault → Type 0
  IsFollowFaultOr width bytes Write = Unit {0}
  IsFollowFaultOr width bytes fault = IsFollowFault width bytes fault

  -- whatever was followed and told, a piece was followed besides, and what happened by its lines
  -- was written and flushed
  abbrev pub FollowsWritten : Follower → Device W → List ℕ → Follower → Device W → Result (Unit {0}) EngineFault → Type 0
  FollowsWritten follower writer piece follower' writer' result =
      (rule : LossRule) (width : Width) (settings : FollowSettings) (bytes : List ℕ) (told : List HappenedAt) → HasFollowedBytes rule width settings bytes told follower
      → (more : List HappenedAt)
      × MatchResult result
      (λ _. HasFollowedBytes rule width settings (bytes ++ piece) (told ++ more) follower'
      × Appends (contents (inner_of writer)) (contents (inner_of writer')) (flat_map (told_lines settings) more) × IsLeftFlushed writer writer'
      × (has_failed writer' ≡ has_failed writer))
      (λ fault. IsTextOfFront rule width settings fault (bytes ++ piece) (flat_map (told_lines settings) (told ++ more)) × IsFollowFaultOr width (bytes ++ piece) fault
      × WritesTill writer writer' (flat_map (told_lines settings) more) fault)

  -- Whatever was followed and told, what was pending was written besides, or not; or it was not
  -- there, and nothing was written.
  abbrev pub PutsPending : EndedTrace → Device W → EndedTrace → Device W → Result (Unit {0}) WriteFault → Result (Unit {0}) AllocError → Type 0
  PutsPending ended writer ended' writer' written put =
      (rule : LossRule) (width : Width) (settings : FollowSettings) (bytes : List ℕ) (told : List HappenedAt) → HasEnded rule width settings bytes told ended
      → (more : List HappenedAt) × IsWritten contents (flat_map (told_lines settings) more) writer writer' written
      × MatchResult put (λ _. HasEnded rule width settings bytes (told ++ more) ended' × IsAllPut ended'.input.input.taker) (λ _. more ≡ [])

  -- why what was pending was not written: an allocation had failed for it, and nothing was; or the
  -- writer failed, and a front went out
  abbrev pub PendsBy : LossRule → Width → FollowSettings → List ℕ → List HappenedAt → Device W → Device W → EngineFault → Type 0
  PendsBy rule width settings bytes told writer writer' Write =
      (rest : List ℕ) × IsFollowedSoFar rule width settings (lines_of bytes) (flat_map (told_lines settings) told ++ rest)
      × AppendsFront (contents (inner_of writer)) (contents (inner_of writer')) rest × (has_failed writer' ≡ true)
  PendsBy rule width settings bytes told writer writer' OutOfMemory = writer' ≡ writer
  PendsBy rule width settings bytes told writer writer' fault = ⊥

  -- Whatever was followed and told, what was pending was written besides, or there was a fault.
  abbrev pub WritesPending : EndedTrace → Device W → EndedTrace → Device W → Result (Unit {0}) EngineFault → Type 0
  WritesPending ended writer ended' writer' result =
      (rule : LossRule) (width : Width) (settings : FollowSettings) (bytes : List ℕ) (told : List HappenedAt) → HasEnded rule width settings bytes told ended
      → MatchResult result
      (λ _. (more : List HappenedAt) × HasEnded rule width settings bytes (told ++ more) ended' × IsAllPut ended'.input.input.taker
      × Appends (contents (inner_of writer)) (contents (inner_of writer')) (flat_map (told_lines settings) more) × IsLeftFlushed writer writer'
      × (has_failed writer' ≡ has_failed writer))
      (λ fault. PendsBy rule width settings bytes told writer writer' fault)

  -- why the receiver was not closed, or what is left not written: an allocation failed, and nothing
  -- was written; or the writer failed, and a front went out
  abbrev pub ClosesBy : LossRule → Width → FollowSettings → List ℕ → List HappenedAt → Device W → Device W → EngineFault → Type 0
  ClosesBy rule width settings bytes told writer writer' Write =
      (rest : List ℕ) × IsFollowed rule width settings bytes (flat_map (told_lines settings) told ++ rest)
      × AppendsFront (contents (inner_of writer)) (contents (inner_of writer')) rest × (has_failed writer' ≡ true)
  ClosesBy rule width settings bytes told writer writer' OutOfMemory = writer' ≡ writer
  ClosesBy rule width settings bytes told writer writer' fault = ⊥

  -- Whatever was followed and told, the receiver was closed and the rest of the text was written,
  -- or there was a fault.
  abbrev pub ClosesFollowed : EndedTrace → Device W → Device W → Result (Unit {0}) EngineFault → Type 0
  ClosesFollowed ended writer writer' result =
      (rule : LossRule) (width : Width) (settings : FollowSettings) (bytes : List ℕ) (told : List HappenedAt) → HasEnded rule width settings bytes told ended
      → MatchResult result
      (λ _. (rest : List ℕ) × IsFollowed rule width settings bytes (flat_map (told_lines settings) told ++ rest)
      × Appends (contents (inner_of writer)) (contents (inner_of writer')) rest × IsLeftFlushed writer writer' × (has_failed writer' ≡ has_failed writer))
      (λ fault. ClosesBy rule width settings bytes told writer writer' fault)

  -- By a fault at the end nothing was written, or the rest of the text of all lines; where the
  -- writer failed, a front of that or of the rest of the whole text.
  abbrev pub EndsBy : LossRule → Width → FollowSettings → List ℕ → List HappenedAt → Device W → Device W → EngineFault → Type 0
  EndsBy rule width settings bytes told writer writer' Write =
      (rest : List ℕ)
      × (IsFollowed rule width settings bytes (flat_map (told_lines settings) told ++ rest)
      ⊎ IsFollowedSoFar rule width settings (lines_of bytes) (flat_map (told_lines settings) told ++ rest))
      × AppendsFront (contents (inner_of writer)) (contents (inner_of writer')) rest × (has_failed writer' ≡ true)
  EndsBy rule width settings bytes told writer writer' OutOfMemory =
      (writer' ≡ writer)
      ⊎ ((rest : List ℕ) × IsFollowedSoFar rule width settings (lines_of bytes) (flat_map (told_lines settings) told ++ rest)
      × Appends (contents (inner_of writer)) (contents (inner_of writer')) rest × IsLeftFlushed writer writer')
  EndsBy rule width settings bytes told writer writer' fault = (writer' ≡ writer) × IsEndFault width bytes fault

  -- The end of some bytes that were followed and told of: the rest of their text was written, or
  -- there was a fault.
  abbrev pub FollowsEnd : Follower → Device W → Device W → Result (Unit {0}) EngineFault → Type 0
  FollowsEnd follower writer writer' result =
      (rule : LossRule) (width : Width) (settings : FollowSettings) (bytes : List ℕ) (told : List HappenedAt) → HasFollowedBytes rule width settings bytes told follower
      → MatchResult result
      (λ _. (rest : List ℕ) × IsFollowed rule width settings bytes (flat_map (told_lines settings) told ++ rest)
      × Appends (contents (inner_of writer)) (contents (inner_of writer')) rest × IsLeftFlushed writer writer' × (has_failed writer' ≡ has_failed writer))
      (λ fault. EndsBy rule width settings bytes told writer writer' fault)
