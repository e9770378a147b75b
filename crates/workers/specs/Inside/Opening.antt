-- The rings of all flows and a mailbox as they are opened.
use Rattle.std.specs.Prelude.{◌≡◌, ℕ, List, [], All, map, length}
use Rattle.mailbox.specs.Openings.{addresses, HaveCapacity, NonePosted, NoneTaken}
use Rattle.mailbox.specs.Mouths.{places}
use Rattle.delivery.specs.Feeders.{feeder_ring, offered, room}
use Rattle.delivery.specs.Takers.{taker_ring}
use Rattle.delivery.specs.Takers as takers
use Rattle.flow_records.specs.declared.record.FlowRecord.{FlowRecord}
use Rattle.workers.specs.declared.mailboxes.OpenMailbox.{OpenMailbox}
use Rattle.workers.specs.declared.rings.Rings.{Rings}

-- how many frames and end marks a flow's ring has room for, by its record
abbrev pub ring_of : FlowRecord → ℕ
ring_of flow_record = flow_record.ring

-- a ring for each record, with the room that the record says, with nothing offered and nothing
-- taken
pub record AreOpenRings (records : List FlowRecord) (rings : Rings) : Type 0 where
  pub same : map feeder_ring rings.feeders.items ≡ map taker_ring rings.takers.items
  pub count_is : length rings.feeders.items ≡ length records
  pub rooms : map room rings.feeders.items ≡ map ring_of records
  pub none_offered : All (λ feeder. offered feeder ≡ []) rings.feeders.items
  pub none_taken : All (λ taker. takers.taken taker ≡ []) rings.takers.items

-- a mailbox with room for so many entries, with nothing posted and nothing taken
pub record IsOpenMailbox {T : Type 0} (entries : ℕ) (mailbox : OpenMailbox T) : Type 0 where
  pub room : HaveCapacity mailbox.ports mailbox.mouth entries
  pub same : addresses mailbox.ports ≡ places mailbox.mouth
  pub none_posted : NonePosted mailbox.ports
  pub none_taken : NoneTaken mailbox.mouth
