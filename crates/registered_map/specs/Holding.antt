-- What a map of the code holds.
use Rattle.std.specs.Prelude.{ℕ}
use Rattle.registrations.specs.Joining.{whole_seen}
use Rattle.registrations.specs.declared.joining.WholeMessage.{WholeMessage}
use Rattle.registered_map.specs.Registered.{Registered, CapturedMessage, remarks_in}
use Rattle.registered_map.specs.declared.registered_map.RegisteredMap.{RegisteredMap}

abbrev pub registered_in : RegisteredMap → Registered
registered_in map = record {
  flows = map.flows.named.items;
  channels = map.channels.items;
  sids = map.sids.rows.items;
  remarks = remarks_in map.remarks;
}

-- a whole message that was captured then
abbrev pub captured : WholeMessage → ℕ → ℕ → CapturedMessage
captured message nanoseconds place = record { whole = whole_seen message; nanoseconds = nanoseconds; place = place }
