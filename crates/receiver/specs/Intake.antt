-- The intake: the answer to each input, and the items of the five senders in one order.
use Rattle.std.specs.Prelude.{ℕ, List}
use Rattle.flow_records.specs.declared.event.Event.{Event}
use Rattle.lane.specs.Inputs.{AnsweredInput}
use Rattle.receiver.specs.declared.setup.Setup.{Setup}
use Rattle.receiver.specs.Items.{Incoming, AreLanesOf, items_of}
use Rattle.receiver.specs.Order.{IsMergeOf}

-- What is taken of what comes in, in this order: each input has its answer, and the items of the
-- five senders, which are the segments that each channel admits and the decisions that name a flow,
-- are taken in this order.
pub record IsIntake (setup : Setup) (incoming : Incoming) (order : List ℕ) : Type 0 where
  pub answered : ℕ → List AnsweredInput
  pub lanes : AreLanesOf setup incoming answered
  pub items : List Event
  pub merged : IsMergeOf (items_of setup incoming answered) order items
