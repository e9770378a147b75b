-- What is handed in for the bursts of a capture, and which bursts are told with it.
use Rattle.std.specs.Prelude.{ℕ, List, map}
use Rattle.receiver.specs.HandedIn.{HandedIn}
use Rattle.capture_rules.specs.declared.arrival.Arrival.{Arrival}
use Rattle.captured_flows.specs.declared.sound_burst.SoundBurst.{SoundBurst}

-- **One act**: an item is handed in to a receiver, and no burst is told; or this burst of the flow
-- with this index is told, and then an item is handed in, which is its grant.
pub data Act : Type 0 where
  alone : HandedIn → Act
  with_burst : ℕ → Arrival SoundBurst → HandedIn → Act

-- what is handed in
abbrev pub item_of : Act → HandedIn
item_of (alone item) = item
item_of (with_burst flow burst item) = item

abbrev pub items_of : List Act → List HandedIn
items_of acts = map item_of acts
