-- Which setups are run, and why one isn't.
use Rattle.std.specs.Prelude.{◌≡◌, ℕ, ◌<◌, length}
use Rattle.flow_records.specs.Setup.{CanBeSetUp, IsSetupFault}
use Rattle.lane.specs.Rows.{IsLaneFault}
use Rattle.receiver.specs.declared.setup.Setup.{Setup}
use Rattle.receiver.specs.declared.setup.BadSetup.{BadSetup}
use Rattle.receiver.specs.declared.setup.BadSetup.TheVariants.{Flows, Rows}
use Rattle.receiver.specs.Faults.{CanReceive}
use Rattle.receiver.specs.Widths.{CanReceiveWithin, IsSetupErrorWithin}
use Rattle.receiver.specs.declared.setup.SetupError.{SetupError}
use Rattle.receiver.specs.declared.setup.SetupError.TheVariants as setup_error
use Rattle.uplink.specs.declared.faults.RunFault.{RunFault}
use Rattle.uplink.specs.declared.faults.RunFault.TheVariants as run_fault

-- a setup that can be run: it has no fault, and its mailboxes have room for an entry
pub record CanRun (setup : Setup) : Type 0 where
  pub can_receive : CanReceive setup
  pub capacity : 0 < setup.mailbox

-- why this setup isn't run: each fault comes only where those before it don't apply
abbrev pub IsRunFault : Setup → RunFault → Type 0
IsRunFault setup (run_fault.Setup fault) = IsSetupFault setup.flows.items fault
IsRunFault setup (run_fault.Lane fault) = CanBeSetUp setup.flows.items × IsLaneFault setup.sids.items (length setup.flows.items) fault
IsRunFault setup run_fault.NoCapacity = CanReceive setup × (setup.mailbox ≡ 0)
IsRunFault setup run_fault.OutOfMemory = CanRun setup

-- why a setup can't be used, as a reason why it isn't run
abbrev pub run_fault_of : BadSetup → RunFault
run_fault_of (Flows fault) = run_fault.Setup fault
run_fault_of (Rows fault) = run_fault.Lane fault

-- a setup that can be run by a receiver of so many channels and flows
pub record CanRunWithin (channels flows : ℕ) (setup : Setup) : Type 0 where
  pub can_receive : CanReceiveWithin channels flows setup
  pub capacity : 0 < setup.mailbox

-- Why it isn't run. That an allocation failed may come in place of an identifier that is given
-- twice, or of a row's fault, or of the mailboxes' capacity.
abbrev pub IsRunFaultWithin : ℕ → ℕ → Setup → RunFault → Type 0
IsRunFaultWithin channels flows setup (run_fault.Setup fault) = IsSetupErrorWithin channels flows setup (setup_error.Flows fault)
IsRunFaultWithin channels flows setup (run_fault.Lane fault) = IsSetupErrorWithin channels flows setup (setup_error.Rows fault)
IsRunFaultWithin channels flows setup run_fault.NoCapacity = CanReceiveWithin channels flows setup × (setup.mailbox ≡ 0)
IsRunFaultWithin channels flows setup run_fault.OutOfMemory = IsSetupErrorWithin channels flows setup setup_error.OutOfMemory

-- why a setup can't be used, as a reason why it isn't run
abbrev pub run_fault_within : SetupError → RunFault
run_fault_within (setup_error.Flows fault) = run_fault.Setup fault
run_fault_within (setup_error.Rows fault) = run_fault.Lane fault
run_fault_within setup_error.OutOfMemory = run_fault.OutOfMemory
