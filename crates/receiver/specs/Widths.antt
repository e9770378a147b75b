-- What a receiver of any width can be made for.
use Rattle.std.specs.Prelude.{◌≡◌, ℕ, ◌<◌, ◌≤◌, length}
use Rattle.flow_records.specs.Limits.{most_flows}
use Rattle.flow_records.specs.Setup.{CanBeSetUpWithin, IsSetupFaultWithin, IsBad}
use Rattle.lane.specs.Limits.{most_channels}
use Rattle.lane.specs.Rows.{CanBeOpenedWithin, IsLaneFaultWithin}
use Rattle.receiver.specs.declared.setup.Setup.{Setup}
use Rattle.receiver.specs.declared.setup.SetupError.{SetupError}
use Rattle.receiver.specs.declared.setup.SetupError.TheVariants.{Flows, Rows, OutOfMemory}
use Rattle.flow_records.specs.declared.record.SetupFault.{SetupFault}
use Rattle.flow_records.specs.declared.record.SetupFault.TheVariants as setup_fault
use Rattle.lane.specs.declared.sids.LaneFault.{LaneFault}
use Rattle.lane.specs.declared.sids.LaneFault.TheVariants as lane_fault
use Rattle.receiver.specs.declared.width.WidthFault.{WidthFault}
use Rattle.receiver.specs.declared.width.WidthFault.TheVariants.{NoChannel, TooManyChannels, NoFlow, TooManyFlows}

-- Why no receiver is made for so many channels and flows: of its flows only where its channels are
-- not at fault.
abbrev pub IsWidthFault : ℕ → ℕ → WidthFault → Type 0
IsWidthFault channels flows NoChannel = channels ≡ 0
IsWidthFault channels flows TooManyChannels = most_channels < channels
IsWidthFault channels flows NoFlow = (0 < channels) × (channels ≤ most_channels) × (flows ≡ 0)
IsWidthFault channels flows TooManyFlows = (0 < channels) × (channels ≤ most_channels) × (most_flows < flows)

-- neither the flows nor the rows of a setup have a fault, for a receiver of so many channels and
-- flows
pub record CanReceiveWithin (channels flows : ℕ) (setup : Setup) : Type 0 where
  pub flows_fit : CanBeSetUpWithin flows setup.flows.items
  pub rows_fit : CanBeOpenedWithin channels setup.sids.items (length setup.flows.items)

-- Why a receiver of so many channels and flows can't use a setup: that of its rows only where its
-- flows have none. No memory is asked for where there are too many flows or one is out of range.
abbrev pub IsSetupErrorWithin : ℕ → ℕ → Setup → SetupError → Type 0
IsSetupErrorWithin channels flows setup (Flows fault) = IsSetupFaultWithin flows setup.flows.items fault
IsSetupErrorWithin channels flows setup (Rows fault) =
    CanBeSetUpWithin flows setup.flows.items × IsLaneFaultWithin channels setup.sids.items (length setup.flows.items) fault
IsSetupErrorWithin channels flows setup OutOfMemory =
    (length setup.flows.items ≤ flows) × ((k : ℕ) → ¬ (IsBad setup.flows.items k))

-- the same where a check of the records, or one of the rows, found it
abbrev pub error_of_flows : SetupFault → SetupError
error_of_flows setup_fault.OutOfMemory = OutOfMemory
error_of_flows setup_fault.TooManyFlows = Flows setup_fault.TooManyFlows
error_of_flows (setup_fault.BadFlow k) = Flows (setup_fault.BadFlow k)
error_of_flows (setup_fault.SameSfid k) = Flows (setup_fault.SameSfid k)

abbrev pub error_of_rows : LaneFault → SetupError
error_of_rows lane_fault.OutOfMemory = OutOfMemory
error_of_rows (lane_fault.SidRange k) = Rows (lane_fault.SidRange k)
error_of_rows (lane_fault.SameSid k) = Rows (lane_fault.SameSid k)
error_of_rows (lane_fault.UnknownFlow k) = Rows (lane_fault.UnknownFlow k)
