-- What waits in a channel order.
use Rattle.capture_rules.specs.declared.channel_order.ChannelOrder.{ChannelOrder}
use Rattle.capture_rules.specs.Order.{OrderView}

module _ {T : Type 0} where
  -- what is known of it
  abbrev pub order_seen : ChannelOrder T → OrderView T
  order_seen order = record { reorder = order.reorder; clock = order.clock; counts = order.counts; waiting = order.waiting.items }
