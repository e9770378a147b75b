-- Where there is room for some there is room for fewer.
use Rattle.std.proofs.Common.{◌≡◌, ℕ, ◌+◌, ◌-◌, ◌≤◌, ◌<◌, arith, subst}
use Rattle.registered_map.specs.declared.named_flows.Flows.{Flows}
use Rattle.registered_map.specs.declared.sid_owners.Sids.{Sids}
use Rattle.registered_map.specs.declared.registered_map.RegisteredMap.{RegisteredMap}
use Rattle.registered_map.specs.Inside.Room.{FlowsHaveRoom, SidsHaveRoom, HasRoom}

pub flows_room : (flows : Flows) (few many : ℕ) → few ≤ many → FlowsHaveRoom many flows → FlowsHaveRoom few flows
flows_room flows few many less room = record { named = omega (arith, room.named); places = omega (arith, room.places) }

sids_room : (sids : Sids) (few many : ℕ) → few ≤ many → SidsHaveRoom many sids → SidsHaveRoom few sids
sids_room sids few many less room = record { rows = omega (arith, room.rows); owners = omega (arith, room.owners) }

pub map_room : (map : RegisteredMap) (few many : ℕ) → few ≤ many → HasRoom many map → HasRoom few map
map_room map few many less room = record {
  flows = flows_room map.flows few many less room.flows;
  channels = omega (arith, room.channels);
  sids = sids_room map.sids few many less room.sids;
  remarks = omega (arith, room.remarks);
}

-- one of so many places was used up
pub room_left : (old new : RegisteredMap) (all i : ℕ) → i < all → ((k : ℕ) → HasRoom (k + 1) old → HasRoom k new) → HasRoom (all - i) old
    → HasRoom (all - (i + 1)) new
room_left old new all i within used room =
    let left : all - i ≡ all - (i + 1) + 1 = omega arith in
    used (all - (i + 1)) (subst (λ n. HasRoom n old) left room)
