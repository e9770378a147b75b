-- What the program does with its arguments, and what its exit status says of its input.
use Rattle.std.specs.Prelude.{◌≡◌, ◌≢◌, ◌⊎◌, ◌<◌, ◌≤◌, ◌^◌, ℕ, Bool, List, [], Option, Result, Ok, Err, true, false, codes, IfErr, OnOk, OnErr, length}
use Rattle.std.specs.Io.KnownBytes.{Appends}
use Rattle.docsis_wire.specs.declared.pieces.FillByte.{FillByte}
use Rattle.docsis_wire.specs.Limits.{sequence_modulus}
use Rattle.loss_rule.specs.declared.rule.LossRule.{LossRule}
use Rattle.engines.specs.declared.device.Device.{Device}
use Rattle.engines.specs.declared.fault.WriteFault.{WriteFault}
use Rattle.engines.specs.declared.fault.EngineFault.{EngineFault}
use Rattle.engines.specs.declared.fault.EngineFault.TheVariants.{OutOfMemory, Read, Write, Usage}
use Rattle.text_lines.specs.Capacities.{default_capacity}
use Rattle.text_lines.specs.declared.fault.TextFault.{TextFault}
use Rattle.engines.specs.Device.{inner_of, has_failed, is_flushed, IsFresh}
use Rattle.engines.specs.Transfer.{AppendsFront, IsLeftFlushed, IsReadFault, IsRead}
use Rattle.engines.specs.Fault.{status_of, exit_status_of, fault_line}
use Rattle.engines.specs.Engine.{engine_fault, RunsEngine}
use Rattle.command_line.specs.Command.{IsCommand, last_replayed, last_followed, AsksToJoin, AsksToCut, AsksToReplay, AsksToReplayBy, AsksToRun, AsksToRunBy, AsksToRunByAlone, AsksToFollow, AsksToFollowAlone, AsksToMap, AskForEvents, options_in, AsksForAnEngine, AsksForHelp, HasNoHelpWord}
use Rattle.command_line.specs.Channels.{channels_max}
use Rattle.command_line.specs.Flows.{AskForFlows}
use Rattle.command_line.specs.Losses.{AskForRule}
use Rattle.flow_selection.specs.declared.selection.Selection.{Selection}
use Rattle.flow_records.specs.Limits.{most_flows}
use Rattle.receiver.specs.declared.width.Width.{Width}
use Rattle.text_lines.specs.declared.fault.TextFault.TheVariants as text_fault
use Rattle.text_lines.specs.Format.{IsFirstFaultyLine}
use Rattle.text_lines.specs.Lines.{lines_of}
use Rattle.engines.specs.FlushedReads.{FlushedRead, ReadsBehindText}
use Rattle.engines.specs.Following.{FollowsTrace, IsTextOfWhole}
use Rattle.engines.specs.declared.fault.PlacedFault.{PlacedFault}
use Rattle.capture_engines.specs.Mapping.{IsMapText, IsFaultyCapture, MapsCapture}
use Rattle.texts.specs.declared.follow.settings.FollowSettings.{FollowSettings}
use Rattle.texts.specs.Follow.{of_all_flows, IsFollowed}
use Rattle.texts.specs.Trace.Line.{shape_of}
use Rattle.texts.specs.Trace.Place.{nothing_said_in, trace_format}
use Rattle.texts.specs.Join.{IsJoined, IsJoinFault}
use Rattle.texts.specs.Cut.{IsCutText, IsCutFault}
use Rattle.texts.specs.Replay.{IsReplayed, IsReplayedBy, IsReplayFault, IsReportFault}
use Rattle.texts.specs.Run.{IsRunText, IsRunTextBy}
use Rattle.texts.specs.Selected.{IsReplayedOf}

-- the words ask to cut and not for help
abbrev pub AsksToCutOnly : List (List ℕ) → Type 0
AsksToCutOnly words = AsksToCut words × ¬ AsksForHelp words

-- the words ask to run and not for help
abbrev pub AsksToRunOnly : List (List ℕ) → Type 0
AsksToRunOnly words = AsksToRun words × ¬ AsksForHelp words

-- so by a loss rule
abbrev pub AsksToRunByOnly : LossRule → List (List ℕ) → Type 0
AsksToRunByOnly rule words = AsksToRunBy rule words × ¬ AsksForHelp words

-- the words ask to replay by a loss rule, in any order of the options, and not for help
abbrev pub AsksToReplayOnly : LossRule → List (List ℕ) → Type 0
AsksToReplayOnly rule words = IsCommand (codes "replay") words × AskForRule rule (options_in words) × ¬ AsksForHelp words

-- the words ask to follow a trace of so many channels by a loss rule, and not for help
abbrev pub AsksToFollowOnly : LossRule → ℕ → List (List ℕ) → Type 0
AsksToFollowOnly rule channels words = AsksToFollow rule channels words × ¬ AsksForHelp words

-- the words ask for nothing
abbrev pub AsksForNothing : List (List ℕ) → Type 0
AsksForNothing words = ¬ AsksForAnEngine words × ¬ AsksForHelp words

-- the words were not obeyed, and neither device was used
pub record IsRefused {R W : Type 0} (reader reader' : Device R) (writer writer' : Device W) (result : Result (Unit {0}) EngineFault) : Type 0 where
  pub fault : (result ≡ Err Usage) ⊎ (result ≡ Err OutOfMemory)
  pub unread : reader' ≡ reader
  pub unwritten : writer' ≡ writer

-- a text was written and flushed, or the writer failed and a front of it went out
pub record Writes {W E : Type 0} (contents : W → Option (List ℕ)) (text : List ℕ) (writer writer' : Device W) (result : Result (Unit {0}) E) : Type 0 where
  pub written : OnOk result (Appends (contents (inner_of writer)) (contents (inner_of writer')) text)
  pub flushed : OnOk result (text ≢ [] → is_flushed writer' ≡ true)
  pub sound : OnOk result (has_failed writer' ≡ has_failed writer)
  pub front : OnErr result (AppendsFront (contents (inner_of writer)) (contents (inner_of writer')) text)
  pub failed : OnErr result (has_failed writer' ≡ true)

-- a text of help was written, or the writer failed and that is reported; the reader was not used
pub record WritesHelp {R W : Type 0} (contents : W → Option (List ℕ)) (text : List ℕ) (reader reader' : Device R) (writer writer' : Device W) (result : Result (Unit {0}) EngineFault) : Type 0 where
  pub unread : reader' ≡ reader
  pub writes : Writes contents text writer writer' result
  pub left_flushed : OnOk result (IsLeftFlushed writer writer')
  pub only : IfErr result (λ fault. fault ≡ Write)

-- some text of help was written
abbrev pub Helps : {R W : Type 0} → (W → Option (List ℕ)) → Device R → Device R → Device W → Device W → Result (Unit {0}) EngineFault → Type 0
Helps contents reader reader' writer writer' result = (text : List ℕ) × WritesHelp contents text reader reader' writer writer' result

-- the engine of `cut` ran, from the number of some segment and with some fill
abbrev pub RunsCut : {R W : Type 0} → (R → Option (List ℕ)) → (W → Option (List ℕ)) → Device R → Device R → Device W → Device W → Result (Unit {0}) EngineFault → Type 0
RunsCut remaining contents reader reader' writer writer' result =
    (first : ℕ) × (fill : FillByte) × (first < sequence_modulus) × RunsEngine remaining contents (IsCutText first fill) IsCutFault reader reader' writer writer' result

-- the engine of `run` ran, with room in its mailboxes and rings
abbrev pub RunsRun : {R W : Type 0} → (R → Option (List ℕ)) → (W → Option (List ℕ)) → Device R → Device R → Device W → Device W → Result (Unit {0}) EngineFault → Type 0
RunsRun remaining contents reader reader' writer writer' result =
    (mailbox ring : ℕ) × (1 ≤ mailbox) × (1 ≤ ring)
    × RunsEngine remaining contents (IsRunText ring mailbox) (IsReportFault ring) reader reader' writer writer' result

-- so by a loss rule
abbrev pub RunsRunBy : {R W : Type 0} → LossRule → (R → Option (List ℕ)) → (W → Option (List ℕ)) → Device R → Device R → Device W → Device W → Result (Unit {0}) EngineFault → Type 0
RunsRunBy rule remaining contents reader reader' writer writer' result =
    (mailbox ring : ℕ) × (1 ≤ mailbox) × (1 ≤ ring)
    × RunsEngine remaining contents (IsRunTextBy rule ring mailbox) (IsReportFault ring) reader reader' writer writer' result

-- so where no room is asked for: that is the default one
abbrev pub RunsRunAlone : {R W : Type 0} → LossRule → (R → Option (List ℕ)) → (W → Option (List ℕ)) → Device R → Device R → Device W → Device W → Result (Unit {0}) EngineFault → Type 0
RunsRunAlone rule remaining contents reader reader' writer writer' result =
    RunsEngine remaining contents (IsRunTextBy rule default_capacity default_capacity) (IsReportFault default_capacity) reader reader' writer writer' result

-- the engine of `replay` ran for just the flows that the words ask for
abbrev pub RunsReplay : {R W : Type 0} → LossRule → List (List ℕ) → (R → Option (List ℕ)) → (W → Option (List ℕ)) → Device R → Device R → Device W → Device W → Result (Unit {0}) EngineFault → Type 0
RunsReplay rule words remaining contents reader reader' writer writer' result =
    (selected : Selection) × AskForFlows last_replayed selected (options_in words)
    × RunsEngine remaining contents (IsReplayedOf selected rule) IsReplayFault reader reader' writer writer' result

-- a receiver of this width follows a trace of so many channels, with the most flows it can have
abbrev pub IsWidthOf : ℕ → Width → Type 0
IsWidthOf channels width = (width.channels ≡ channels) × (width.flows ≡ most_flows)

-- a trace of so many channels was followed by a loss rule, and this of it was told
abbrev pub RunsFollowBy : {R W : Type 0} → LossRule → ℕ → FollowSettings → (R → Option (List ℕ)) → (W → Option (List ℕ)) → Device R → Device R → Device W → Device W → Result (Unit {0}) EngineFault → Type 0
RunsFollowBy rule channels settings remaining contents reader reader' writer writer' result =
    (width : Width) × IsWidthOf channels width × FollowsTrace rule width settings remaining contents reader reader' writer writer' result

-- so with events just if the words ask for them, and of the flows for which they ask
abbrev pub RunsFollow : {R W : Type 0} → LossRule → ℕ → List (List ℕ) → (R → Option (List ℕ)) → (W → Option (List ℕ)) → Device R → Device R → Device W → Device W → Result (Unit {0}) EngineFault → Type 0
RunsFollow rule channels words remaining contents reader reader' writer writer' result =
    (settings : FollowSettings) × AskForEvents settings.events (options_in words) × AskForFlows last_followed settings.selected (options_in words)
    × RunsFollowBy rule channels settings remaining contents reader reader' writer writer' result

module _ {R W : Type 0} (after : R → List FlushedRead → R → Type 0) (remaining : R → Option (List ℕ)) (contents : W → Option (List ℕ)) (words : List (List ℕ)) where
  -- **A trace was followed as the words ask for it, and at each read just the text of all lines
  -- that were read before stood flushed in the output**: by the relation that the reader keeps.
  pub record FollowsBehindText (reader reader' : R) (writer : W) (start : R) : Type 0 where
    pub rule : LossRule
    pub channels : ℕ
    pub width : Width
    pub settings : FollowSettings
    pub asked : AsksToFollow rule channels words
    pub wide : IsWidthOf channels width
    pub events : AskForEvents settings.events (options_in words)
    pub flows : AskForFlows last_followed settings.selected (options_in words)
    pub shown : ReadsBehindText (IsTextOfWhole rule width settings) (contents writer) after (remaining reader) (remaining reader') start reader'

  -- so where the words ask to follow, or nothing was read
  abbrev pub ShowsFollowed : R → R → W → Type 0
  ShowsFollowed reader reader' writer =
      IsCommand (codes "follow") words → (start : R) → after start [] reader → FollowsBehindText reader reader' writer start ⊎ (reader' ≡ reader)

-- what comes of words, the program's name first, over a fresh reader and a fresh writer:
-- `remaining` are the bytes that a reader is known to have left, `contents` those that a writer is
-- known to hold
pub record Obeys {R W : Type 0} (remaining : R → Option (List ℕ)) (contents : W → Option (List ℕ)) (words : List (List ℕ))
    (reader reader' : Device R) (writer writer' : Device W) (result : Result (Unit {0}) EngineFault) : Type 0 where
  -- an engine keeps all its promises, words that ask for nothing do nothing, and where a word asks
  -- for help no engine runs
  pub join : AsksToJoin words → RunsEngine remaining contents IsJoined IsJoinFault reader reader' writer writer' result
  pub cut : AsksToCutOnly words → RunsCut remaining contents reader reader' writer writer' result ⊎ IsRefused reader reader' writer writer' result
  pub replay : AsksToReplay words → RunsEngine remaining contents IsReplayed IsReplayFault reader reader' writer writer' result
  pub run : AsksToRunOnly words → RunsRun remaining contents reader reader' writer writer' result ⊎ IsRefused reader reader' writer writer' result
  -- and just the loss rule decides that the words ask for
  pub replay_by : (rule : LossRule) → AsksToReplayBy rule words
      → RunsEngine remaining contents (IsReplayedBy rule) IsReplayFault reader reader' writer writer' result
  -- what is reported of some flows is the whole report but for the lines of the others
  pub replay_flows : (rule : LossRule) → AsksToReplayOnly rule words
      → RunsReplay rule words remaining contents reader reader' writer writer' result ⊎ IsRefused reader reader' writer writer' result
  pub run_by : (rule : LossRule) → AsksToRunByOnly rule words
      → RunsRunBy rule remaining contents reader reader' writer writer' result ⊎ IsRefused reader reader' writer writer' result
  -- a run by a rule alone is never refused
  pub run_alone : (rule : LossRule) → AsksToRunByAlone rule words → RunsRunAlone rule remaining contents reader reader' writer writer' result
  -- a trace is followed, of just as many channels as the words ask for
  pub follow : (rule : LossRule) (channels : ℕ) → AsksToFollowOnly rule channels words
      → RunsFollow rule channels words remaining contents reader reader' writer writer' result ⊎ IsRefused reader reader' writer writer' result
  -- and never refused where nothing but a rule and events is asked for
  pub follow_alone : (rule : LossRule) (events : Bool) → AsksToFollowAlone rule events words
      → RunsFollowBy rule channels_max (of_all_flows events) remaining contents reader reader' writer writer' result
  -- the map of a capture is written, which is never refused
  pub map : AsksToMap words → MapsCapture remaining contents reader reader' writer writer' result
  pub nothing : AsksForNothing words → IsRefused reader reader' writer writer' result
  pub help : ¬ AsksToJoin words → ¬ HasNoHelpWord words → Helps contents reader reader' writer writer' result ⊎ IsRefused reader reader' writer writer' result
  -- where the work was done all that was written is flushed
  pub flushed : OnOk result (IsLeftFlushed writer writer')
  -- each failed device has its fault, also where help is written
  pub no_cause : OnOk result (has_failed writer' ≡ false)
  pub read_fault : result ≡ Err Read → IsReadFault reader'
  pub write_fault : result ≡ Err Write → has_failed writer' ≡ true
  -- and but where a trace is followed or a capture mapped no more is read than an engine reads
  pub read_first : ((rule : LossRule) (channels : ℕ) → ¬ AsksToFollowOnly rule channels words) → ¬ AsksToMap words → IfErr result (λ fault. fault ≢ Read → IsRead reader')

-- an outcome was reported: the line of its fault was written and flushed, or the writer failed and
-- a front of it went out; without a fault the writer was not used
abbrev pub IsReported : {W : Type 0} → (W → Option (List ℕ)) → Device W → Device W → Result (Unit {0}) EngineFault → Type 0
IsReported contents writer writer' (Ok done) = writer' ≡ writer
IsReported contents writer writer' (Err fault) = (written : Result (Unit {0}) WriteFault) × Writes contents (fault_line fault) writer writer' written

-- words, the program's name first, were obeyed over a fresh reader and a fresh writer; what came of
-- it was reported to a third device, and the status is that of what came of it
pub record RunsWords {R W E : Type 0} (remaining : R → Option (List ℕ)) (contents : W → Option (List ℕ)) (reported : E → Option (List ℕ)) (words : List (List ℕ))
    (reader reader' : Device R) (writer writer' : Device W) (err err' : Device E) (status : ℕ) : Type 0 where
  pub outcome : Result (Unit {0}) EngineFault
  pub obeyed : Obeys remaining contents words reader reader' writer writer' outcome
  pub report : IsReported reported err err' outcome
  pub ends : status ≡ exit_status_of outcome

-- the words were obeyed over a fresh device on this reader and one on this writer, and this came of
-- it, which was reported to a fresh device on a third
pub record ComesOf {R W E : Type 0} (remaining : R → Option (List ℕ)) (contents : W → Option (List ℕ)) (reported : E → Option (List ℕ)) (words : List (List ℕ))
    (reader : R) (writer : W) (err : E) (result : Result (Unit {0}) EngineFault) : Type 0 where
  pub input : Device R
  pub input' : Device R
  pub output : Device W
  pub output' : Device W
  pub errors : Device E
  pub errors' : Device E
  pub reads : inner_of input ≡ reader
  pub writes : inner_of output ≡ writer
  pub reports : inner_of errors ≡ err
  pub fresh : IsFresh input × IsFresh output × IsFresh errors
  pub obeyed : Obeys remaining contents words input input' output output' result
  pub report : IsReported reported errors errors' result

-- the program did its work, or reports a fault
abbrev pub IsStatus : ℕ → Type 0
IsStatus n = (n ≡ 0) ⊎ ((fault : EngineFault) × (n ≡ status_of fault))

-- some text stands for an input of `join`
abbrev pub HasJoinedText : List ℕ → Type 0
HasJoinedText input = (text : List ℕ) × IsJoined input text

-- some text stands for an input of `cut`
abbrev pub HasCutText : List ℕ → Type 0
HasCutText input = (first : ℕ) × (fill : FillByte) × (text : List ℕ) × (first < sequence_modulus) × IsCutText first fill input text

-- some text stands for an input of `replay`
abbrev pub HasReport : List ℕ → Type 0
HasReport input = (text : List ℕ) × IsReplayed input text

-- some text may stand for an input of `run`
abbrev pub HasRunReport : List ℕ → Type 0
HasRunReport input = (mailbox ring : ℕ) × (text : List ℕ) × (1 ≤ mailbox) × (1 ≤ ring) × IsRunText ring mailbox input text

-- so by a loss rule
abbrev pub HasReportBy : LossRule → List ℕ → Type 0
HasReportBy rule input = (text : List ℕ) × IsReplayedBy rule input text

abbrev pub HasRunReportBy : LossRule → List ℕ → Type 0
HasRunReportBy rule input = (mailbox ring : ℕ) × (text : List ℕ) × (1 ≤ mailbox) × (1 ≤ ring) × IsRunTextBy rule ring mailbox input text

-- some text may stand for a trace of so many channels that is followed by a loss rule
abbrev pub HasFollowed : LossRule → ℕ → List ℕ → Type 0
HasFollowed rule channels input = (width : Width) × (settings : FollowSettings) × (text : List ℕ) × IsWidthOf channels width × IsFollowed rule width settings input text

-- a trace of so many channels that is followed has this fault
abbrev pub HasFollowFault : ℕ → List ℕ → TextFault → Type 0
HasFollowFault channels input (text_fault.Trace fault) =
    (width : Width) × IsWidthOf channels width
    × (length input < 2 ^ 64 → IsFirstFaultyLine trace_format (nothing_said_in (shape_of width default_capacity)) (lines_of input) fault)
HasFollowFault channels input _ = ⊥

-- what a status says of a capture that is to be mapped: with 0 it has a map, with 1 a fault
pub record SaysOfMap (status : ℕ) (input : List ℕ) : Type 0 where
  pub done : status ≡ 0 → (text : List ℕ) × IsMapText input text
  pub faulty : status ≡ 1 → (fault : PlacedFault) × IsFaultyCapture input fault

-- an input of `run` has this fault
abbrev pub HasRunFault : List ℕ → TextFault → Type 0
HasRunFault input fault = (ring : ℕ) × (1 ≤ ring) × IsReportFault ring input fault

-- what a status says of an input: with 0 it has a text, with 1 a fault of that status
pub record SaysOf (HasText : List ℕ → Type 0) (IsFault : List ℕ → TextFault → Type 0) (status : ℕ) (input : List ℕ) : Type 0 where
  pub done : status ≡ 0 → HasText input
  pub faulty : status ≡ 1 → (fault : TextFault) × (status_of (engine_fault fault) ≡ 1) × IsFault input fault
