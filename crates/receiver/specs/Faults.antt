-- Which setups a receiver takes, and why nothing is replayed.
use Rattle.std.specs.Prelude.{ℕ, List, length}
use Rattle.flow_records.specs.Setup.{CanBeSetUp, IsSetupFault}
use Rattle.lane.specs.Inputs.{AnsweredInput}
use Rattle.lane.specs.Rows.{CanBeOpened, IsLaneFault}
use Rattle.receiver.specs.declared.setup.Setup.{Setup}
use Rattle.receiver.specs.declared.setup.BadSetup.{BadSetup}
use Rattle.receiver.specs.declared.setup.BadSetup.TheVariants.{Flows, Rows}
use Rattle.receiver.specs.declared.one_thread.ReplayFault.{ReplayFault}
use Rattle.receiver.specs.declared.one_thread.ReplayFault.TheVariants as replay_fault
use Rattle.receiver.specs.Items.{Incoming, AreLanesOf, items_of}
use Rattle.receiver.specs.Order.{IsOrderFault, lengths_of}
use Rattle.receiver.specs.AdmittedOrder.{input_counts}

-- the order of the items has its fault at place k
pub record HasBadOrder (setup : Setup) (incoming : Incoming) (order : List ℕ) (k : ℕ) : Type 0 where
  pub answered : ℕ → List AnsweredInput
  pub lanes : AreLanesOf setup incoming answered
  pub fault : IsOrderFault (lengths_of (items_of setup incoming answered)) order k

-- neither the flows nor the lanes have a fault
pub record CanReceive (setup : Setup) : Type 0 where
  pub flows : CanBeSetUp setup.flows.items
  pub lanes : CanBeOpened setup.sids.items (length setup.flows.items)

-- why a setup can't be used: that of its rows only where its flows have none
abbrev pub IsBadSetup : Setup → BadSetup → Type 0
IsBadSetup setup (Flows fault) = IsSetupFault setup.flows.items fault
IsBadSetup setup (Rows fault) = CanBeSetUp setup.flows.items × IsLaneFault setup.sids.items (length setup.flows.items) fault

-- the same as a reason why nothing is replayed
abbrev pub replay_fault_of : BadSetup → ReplayFault
replay_fault_of (Flows fault) = replay_fault.Setup fault
replay_fault_of (Rows fault) = replay_fault.Lane fault

-- The fault of a setup, or, where it has none, of an order. Each comes only where those before it
-- don't apply; that an allocation failed comes in place of any fault of an order.
abbrev pub IsFirstFault : Setup → (ℕ → Type 0) → ReplayFault → Type 0
IsFirstFault setup IsBadOrder (replay_fault.Setup fault) = IsSetupFault setup.flows.items fault
IsFirstFault setup IsBadOrder (replay_fault.Lane fault) = CanBeSetUp setup.flows.items × IsLaneFault setup.sids.items (length setup.flows.items) fault
IsFirstFault setup IsBadOrder (replay_fault.BadOrder k) = CanReceive setup × IsBadOrder k
IsFirstFault setup IsBadOrder replay_fault.OutOfMemory = CanReceive setup

-- why this isn't replayed in this order
abbrev pub IsReplayFault : Setup → Incoming → List ℕ → ReplayFault → Type 0
IsReplayFault setup incoming order = IsFirstFault setup (HasBadOrder setup incoming order)

-- why the tags of all inputs and decisions have no admitted order
abbrev pub IsTagsFault : Setup → Incoming → List ℕ → ReplayFault → Type 0
IsTagsFault setup incoming tags = IsFirstFault setup (IsOrderFault (input_counts incoming) tags)
