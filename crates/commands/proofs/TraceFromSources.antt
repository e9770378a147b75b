-- The outcome of a trace whose inputs came from four sources.
use Rattle.std.proofs.Common.{◌≡◌, ℕ, zero, suc, ◌<◌, Bool, List, [], ◌∷◌, Result, Ok, Err, length, refl, subst, arith}
use Rattle.std.specs.Prelude.{IfOk, IfErr, slice_index_or}
use Rattle.lane.specs.declared.input.Input.{Input}
use Rattle.receiver.specs.declared.outcome.Outcome.{Outcome}
use Rattle.uplink.specs.declared.faults.RunFault.{RunFault}
use Rattle.uplink.specs.declared.faults.RunFault.TheVariants as run_fault
use Rattle.flow_records.specs.declared.decision.Decision.{Decision}
use Rattle.flow_records.specs.declared.record.FlowRecord.{FlowRecord}
use Rattle.flow_records.specs.declared.record.SetupFault.{SetupFault}
use Rattle.flow_records.specs.declared.record.SetupFault.TheVariants.{TooManyFlows, BadFlow, SameSfid, OutOfMemory}
use Rattle.flow_records.specs.Setup.{CanBeSetUp, IsSetupFault}
use Rattle.lane.specs.declared.sids.LaneFault.{LaneFault}
use Rattle.lane.specs.declared.sids.SidRow.{SidRow}
use Rattle.lane.specs.Rows.{IsLaneFault, CanBeOpened}
use Rattle.receiver.specs.declared.setup.Lists.{Lists}
use Rattle.receiver.specs.declared.setup.Setup.{Setup}
use Rattle.lane.specs.Limits.{channel_limit}
use Rattle.receiver.specs.Items.{incoming_of, incoming_from, inputs_on}
use Rattle.loss_rule.specs.declared.rule.LossRule.{LossRule}
use Rattle.receiver.specs.Ruled.{IsOutcomeBy}
use Rattle.uplink.specs.Faults.{IsRunFault, CanRun}
use Rattle.texts.proofs.OneReplay.{outcome_by_moved}

-- the inputs of four channels, by the channel
four_inputs : (lists : Lists) (i0 i1 i2 i3 : List Input) → i0 ≡ inputs_on lists 0 → i1 ≡ inputs_on lists 1 → i2 ≡ inputs_on lists 2 → i3 ≡ inputs_on lists 3
    → (channel : ℕ) → channel < channel_limit → slice_index_or (i0 ∷ i1 ∷ i2 ∷ i3 ∷ []) channel [] ≡ inputs_on lists channel
four_inputs lists i0 i1 i2 i3 e0 e1 e2 e3 zero below = e0
four_inputs lists i0 i1 i2 i3 e0 e1 e2 e3 (suc zero) below = e1
four_inputs lists i0 i1 i2 i3 e0 e1 e2 e3 (suc (suc zero)) below = e2
four_inputs lists i0 i1 i2 i3 e0 e1 e2 e3 (suc (suc (suc zero))) below = e3
four_inputs lists i0 i1 i2 i3 e0 e1 e2 e3 (suc (suc (suc (suc channel)))) below = absurd (omega arith)

-- what came from the sources of these lists is what the lists have
pub received : (rule : LossRule) (check : List ℕ → Bool) (setup : Setup) (lists : Lists) (i0 i1 i2 i3 : List Input) (decisions : List Decision) (order : List ℕ) (outcome : Outcome)
    → i0 ≡ inputs_on lists 0 → i1 ≡ inputs_on lists 1 → i2 ≡ inputs_on lists 2 → i3 ≡ inputs_on lists 3 → decisions ≡ lists.decisions.items
    → IsOutcomeBy rule check setup (incoming_from (i0 ∷ i1 ∷ i2 ∷ i3 ∷ []) decisions) order outcome
    → IsOutcomeBy rule check setup (incoming_of lists) order outcome
received rule check setup lists i0 i1 i2 i3 decisions order outcome e0 e1 e2 e3 e4 is =
    let incoming = incoming_from (i0 ∷ i1 ∷ i2 ∷ i3 ∷ []) decisions in
    let inputs : (channel : ℕ) → channel < channel_limit → incoming.inputs channel ≡ inputs_on lists channel = four_inputs lists i0 i1 i2 i3 e0 e1 e2 e3 in
    outcome_by_moved setup setup incoming (incoming_of lists) refl refl inputs e4 rule check order outcome is

-- records that can be set up have no fault
no_setup_fault : (records : List FlowRecord) (fault : SetupFault) → CanBeSetUp records → IsSetupFault records fault → ⊥
no_setup_fault records TooManyFlows can fault = omega (arith, can.few, fault)
no_setup_fault records (BadFlow k) can fault = can.in_range k fault.1.0
no_setup_fault records (SameSfid k) can fault = can.apart k fault.2.0
no_setup_fault records OutOfMemory can fault = fault

-- rows with which a lane can be opened have no fault
abbrev HaveNoFault : Type 0
HaveNoFault = (rows : List SidRow) (flow_count : ℕ) (fault : LaneFault) → IsLaneFault rows flow_count fault → ¬ (CanBeOpened rows flow_count)

-- a setup that can be run has no fault
pub out_of_memory_alone : (setup : Setup) (answer : Result Outcome RunFault) → HaveNoFault → CanRun setup → IfErr answer (IsRunFault setup)
    → IfErr answer (λ fault. fault ≡ run_fault.OutOfMemory)
out_of_memory_alone setup (Ok outcome) no_lane can is = is
out_of_memory_alone setup (Err (run_fault.Setup fault)) no_lane can is = absurd (no_setup_fault setup.flows.items fault can.can_receive.flows is)
out_of_memory_alone setup (Err (run_fault.Lane fault)) no_lane can is = absurd (no_lane setup.sids.items (length setup.flows.items) fault is.1 can.can_receive.lanes)
out_of_memory_alone setup (Err run_fault.NoCapacity) no_lane can is = absurd (omega (arith, is.1, can.capacity))
out_of_memory_alone setup (Err run_fault.OutOfMemory) no_lane can is = refl

-- what holds of an answer's value holds of the same value
pub value_kept : {E F : Type 0} (answer : Result Outcome E) (result : Result Outcome F) (Holds Then : Outcome → Type 0)
    → ((outcome : Outcome) → Holds outcome → Then outcome) → IfOk result (λ outcome. answer ≡ Ok outcome) → IfOk answer Holds → IfOk result Then
value_kept {E = E} answer (Ok outcome) Holds Then follows same is =
    let P : Result Outcome E → Type 0 = λ a. IfOk a Holds in
    follows outcome (subst P same is)
value_kept answer (Err fault) Holds Then follows same is = tt
