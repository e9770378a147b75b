-- What was replayed so far of a trace that is replayed as it is read.
use Rattle.std.specs.Prelude.{◌==◌, ◌&&◌, ℕ, Bool, Option, List}
use Rattle.docsis_wire.specs.declared.header_check.NoCheck.{NoCheck}
use Rattle.flow_records.specs.Limits.{flows_max}
use Rattle.lane.specs.declared.input.Input.{Input}
use Rattle.lane.specs.Limits.{channel_limit}
use Rattle.loss_rule.specs.declared.rule.LossRule.{LossRule}
use Rattle.receiver.specs.declared.setup.Setup.{Setup}
use Rattle.receiver.specs.declared.replaying.Replaying.{Replaying}
use Rattle.receiver.specs.declared.width.Width.{Width}
use Rattle.receiver.specs.Entries.{Entry}
use Rattle.receiver.specs.Replaying.{HasReplayed, IsBoundFor}
use Rattle.texts.specs.AnyHeader.{any_header}
use Rattle.texts.specs.AnyHeader.{no_check}
use Rattle.texts.specs.Inside.SetupLines.{SetupSoFar}
use Rattle.texts.specs.Inside.TraceInput.{TraceState, HasTakenLines}

-- the width is the profile's
abbrev pub is_profile : Width → Bool
is_profile width = (width.channels == channel_limit) && (width.flows == flows_max)

-- these entries were replayed, in this order, and nothing else
abbrev pub WasReplayed : Unit {0} → LossRule → Width → Setup → List Entry → Replaying NoCheck → Type 0
WasReplayed state rule width setup entries replaying = HasReplayed no_check rule any_header setup replaying entries

-- a segment of this input would be admitted to this flow, or none would be
abbrev pub would_be_replayed : Replaying NoCheck → ℕ → Input → Option ℕ → Type 0
would_be_replayed replaying channel input flow =
    (rule : LossRule) (setup : Setup) (entries : List Entry) → HasReplayed no_check rule any_header setup replaying entries → IsBoundFor setup entries channel input flow

-- nothing more is known of one to which nothing was handed in
abbrev pub starts_replay : Unit {0} → Type 0
starts_replay state = Unit {0}

-- what the lines say was set up and replayed
abbrev pub HasReplayedLines : TraceState (Unit {0}) → Width → LossRule → SetupSoFar → Option (Replaying NoCheck) → Type 0
HasReplayedLines = HasTakenLines starts_replay WasReplayed
