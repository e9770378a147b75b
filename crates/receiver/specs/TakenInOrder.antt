-- What items in an order are to a table of flows.
use Rattle.std.specs.Prelude.{ℕ, List, [], ◌∷◌}
use Rattle.flow_records.specs.declared.event.Event.{Event}
use Rattle.flow_records.specs.Events.{flow_of}
use Rattle.bonded_flows.specs.Parts.{comes}
use Rattle.bonded_flows.specs.Table.{TableInput}
use Rattle.receiver.specs.Ruled.{coming_of}

-- an item of this sender comes to its flow
abbrev pub table_input_of : ℕ → Event → TableInput
table_input_of sender item = record { flow = flow_of item; input = comes (coming_of sender item) }

-- all items, in an order that names the sender of each
abbrev pub table_inputs : List ℕ → List Event → List TableInput
table_inputs [] items = []
table_inputs (sender ∷ order) [] = []
table_inputs (sender ∷ order) (item ∷ items) = table_input_of sender item ∷ table_inputs order items
