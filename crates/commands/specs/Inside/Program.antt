-- What a command does.
use Rattle.std.specs.Prelude.{◌≡◌, ◌<◌, ◌≤◌, ℕ, List, [], Option, Result, string_bytes}
use Rattle.docsis_wire.specs.Limits.{sequence_modulus}
use Rattle.command_line.specs.Channels.{channels_max}
use Rattle.command_line.specs.declared.command.Command.{Command}
use Rattle.command_line.specs.declared.command.Command.TheVariants.{Join, Cut, Replay, Run, Follow, Map, Help}
use Rattle.engines.specs.declared.device.Device.{Device}
use Rattle.engines.specs.declared.fault.EngineFault.{EngineFault}
use Rattle.engines.specs.Engine.{RunsEngine}
use Rattle.engines.specs.FlushedReads.{FlushedRead, ReadsBehindText}
use Rattle.engines.specs.Following.{IsTextOfWhole}
use Rattle.capture_engines.specs.Mapping.{MapsCapture}
use Rattle.commands.specs.Program.{WritesHelp, IsWidthOf, RunsFollowBy}
use Rattle.receiver.specs.declared.width.Width.{Width}
use Rattle.texts.specs.Join.{IsJoined, IsJoinFault}
use Rattle.texts.specs.Cut.{IsCutText, IsCutFault}
use Rattle.texts.specs.Replay.{IsReplayFault, IsReportFault}
use Rattle.texts.specs.Run.{IsRunTextBy}
use Rattle.texts.specs.Selected.{IsReplayedOf}

-- what a command does: its engine runs, or the text of help is written
abbrev pub Performs : {R W : Type 0} → (R → Option (List ℕ)) → (W → Option (List ℕ)) → Command → Device R → Device R → Device W → Device W → Result (Unit {0}) EngineFault → Type 0
Performs remaining contents Join reader reader' writer writer' result = RunsEngine remaining contents IsJoined IsJoinFault reader reader' writer writer' result
Performs remaining contents (Cut first fill) reader reader' writer writer' result = RunsEngine remaining contents (IsCutText first fill) IsCutFault reader reader' writer writer' result
Performs remaining contents (Replay rule selected) reader reader' writer writer' result =
    RunsEngine remaining contents (IsReplayedOf selected rule) IsReplayFault reader reader' writer writer' result
Performs remaining contents (Run rule mailbox ring) reader reader' writer writer' result =
    RunsEngine remaining contents (IsRunTextBy rule ring mailbox) (IsReportFault ring) reader reader' writer writer' result
Performs remaining contents (Follow rule channels events selected) reader reader' writer writer' result =
    RunsFollowBy rule channels (record { events = events; selected = selected }) remaining contents reader reader' writer writer' result
Performs remaining contents Map reader reader' writer writer' result = MapsCapture remaining contents reader reader' writer writer' result
Performs remaining contents (Help text) reader reader' writer writer' result = WritesHelp contents (string_bytes text) reader reader' writer writer' result

-- what stood flushed at each read of a command that follows; help reads nothing
abbrev pub ShowsCommand : {R W : Type 0} → (R → List FlushedRead → R → Type 0) → (R → Option (List ℕ)) → (W → Option (List ℕ)) → Command → R → R → W → Type 0
ShowsCommand {R = R} after remaining contents (Follow rule channels events selected) reader reader' writer =
    (start : R) → after start [] reader
    → (width : Width) × IsWidthOf channels width
    × ReadsBehindText (IsTextOfWhole rule width (record { events = events; selected = selected })) (contents writer) after (remaining reader) (remaining reader') start reader'
ShowsCommand after remaining contents (Help text) reader reader' writer = reader' ≡ reader
ShowsCommand after remaining contents command reader reader' writer = Unit {0}

-- a cut begins with the number of a segment, a run has room in its mailboxes and rings, and a trace
-- that is followed has a channel, and not too many
abbrev pub IsInRange : Command → Type 0
IsInRange Join = Unit {0}
IsInRange (Cut first fill) = first < sequence_modulus
IsInRange (Replay rule selected) = Unit {0}
IsInRange (Run rule mailbox ring) = (1 ≤ mailbox) × (1 ≤ ring)
IsInRange (Follow rule channels events selected) = (1 ≤ channels) × (channels ≤ channels_max)
IsInRange Map = Unit {0}
IsInRange (Help text) = Unit {0}
