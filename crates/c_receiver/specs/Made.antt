-- What a held receiver is made of.
use Rattle.std.specs.Prelude.{◌≡◌, ℕ, ◌<◌, IsTrue, None, List, [], length, map}
use Rattle.flow_records.specs.declared.record.FlowRecord.{FlowRecord}
use Rattle.lane.specs.declared.sids.SidRow.{SidRow}
use Rattle.loss_rule.specs.declared.rule.LossRule.{LossRule}
use Rattle.loss_rule.specs.declared.rule.LossRule.TheVariants.{Decided, Passed, PassedOrSlid}
use Rattle.docsis_wire.specs.declared.header_check.NoCheck.{NoCheck}
use Rattle.receiver.specs.declared.receiver.Receiver.{Receiver}
use Rattle.receiver.specs.declared.setup.Setup.{Setup}
use Rattle.receiver.specs.HandedIn.{made_of}
use Rattle.receiver.specs.Receiving.{StandsFor}
use Rattle.receiver.specs.Widths.{IsWidthFault, IsSetupErrorWithin, CanReceiveWithin}
use Rattle.c_receiver.specs.declared.held.HeldReceiver.{HeldReceiver}
use Rattle.c_receiver.specs.declared.held.State.TheVariants.{Open}
use Rattle.c_receiver.specs.declared.plain.PlainFlow.{PlainFlow}
use Rattle.c_receiver.specs.declared.plain.PlainRow.{PlainRow}
use Rattle.c_receiver.specs.declared.status.MakeFault.{MakeFault}
use Rattle.c_receiver.specs.declared.status.MakeFault.TheVariants as make_fault
use Rattle.c_receiver.specs.Held.{no_check}

-- the record of a flow. No ring is asked for, but a record has one.
abbrev pub record_of : PlainFlow → FlowRecord
record_of flow = record { sfid = flow.sfid; first = flow.first; window = flow.window; clusters = flow.clusters; ring = 1 }

abbrev pub row_of : PlainRow → SidRow
row_of row = record { channel = row.channel; sid = row.sid; flow = row.flow }

-- the loss rule of this number
abbrev pub IsRule : ℕ → LossRule → Type 0
IsRule number Decided = number ≡ 0
IsRule number Passed = number ≡ 1
IsRule number PassedOrSlid = number ≡ 2

-- a setup of these flows and rows
pub record IsSetupOf (flows : List PlainFlow) (rows : List PlainRow) (setup : Setup) : Type 0 where
  pub records : setup.flows.items ≡ map record_of flows
  pub sids : setup.sids.items ≡ map row_of rows

-- it is open, nothing was handed in and nothing waits
pub record IsMade (channels : ℕ) (flows : List PlainFlow) (rows : List PlainRow) (number : ℕ) (held : HeldReceiver) : Type 0 where
  pub receiver : Receiver NoCheck
  pub setup : Setup
  pub rule : LossRule
  pub is_open : held.state ≡ Open receiver
  pub by_rule : IsRule number rule
  pub is_setup : IsSetupOf flows rows setup
  pub can_receive : CanReceiveWithin channels (length flows) setup
  pub stands : StandsFor no_check receiver (no_check _) (made_of rule channels setup) [] []
  pub no_frame : held.queue.frames.items ≡ []
  pub no_request : held.queue.requests.items ≡ []
  pub whole : IsTrue held.queue.whole
  pub none_lent : held.lent ≡ None

-- why no receiver is so wide
abbrev pub IsWidthRefused : ℕ → ℕ → MakeFault → Type 0
IsWidthRefused channels flows (make_fault.Width fault) = IsWidthFault channels flows fault
IsWidthRefused channels flows _ = ⊥

-- why none is made: of its setup only where its rule and width are not at fault
abbrev pub IsNotMade : ℕ → List PlainFlow → List PlainRow → ℕ → MakeFault → Type 0
IsNotMade channels flows rows number make_fault.UnknownRule = 2 < number
IsNotMade channels flows rows number (make_fault.Width fault) = IsWidthFault channels (length flows) fault
IsNotMade channels flows rows number (make_fault.Setup error) = (setup : Setup) × IsSetupOf flows rows setup × IsSetupErrorWithin channels (length flows) setup error
IsNotMade channels flows rows number make_fault.OutOfMemory = Unit {0}
