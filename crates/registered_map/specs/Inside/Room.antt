-- Room for what is told next.
use Rattle.std.specs.Prelude.{ℕ, ◌+◌, ◌≤◌, vec_len, vec_capacity}
use Rattle.std.specs.HashMap.{spare}
use Rattle.registered_map.specs.declared.named_flows.Flows.{Flows}
use Rattle.registered_map.specs.declared.sid_owners.Sids.{Sids}
use Rattle.registered_map.specs.declared.remarks.Remarks.{Remarks}
use Rattle.registered_map.specs.declared.registered_map.RegisteredMap.{RegisteredMap}

-- there is room for so many more
pub record FlowsHaveRoom (count : ℕ) (flows : Flows) : Type 0 where
  pub named : vec_len flows.named + count ≤ vec_capacity flows.named
  pub places : count ≤ spare flows.places

pub record SidsHaveRoom (count : ℕ) (sids : Sids) : Type 0 where
  pub rows : vec_len sids.rows + count ≤ vec_capacity sids.rows
  pub owners : count ≤ spare sids.owners

abbrev pub RemarksHaveRoom : ℕ → Remarks → Type 0
RemarksHaveRoom count remarks = vec_len remarks.noted + count ≤ vec_capacity remarks.noted

pub record HasRoom (count : ℕ) (map : RegisteredMap) : Type 0 where
  pub flows : FlowsHaveRoom count map.flows
  pub channels : vec_len map.channels + count ≤ vec_capacity map.channels
  pub sids : SidsHaveRoom count map.sids
  pub remarks : RemarksHaveRoom count map.remarks
