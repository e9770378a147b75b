-- What an event of a flow names, and which events a flow can take.
use Rattle.std.specs.Prelude.{ℕ, ◌<◌}
use Rattle.docsis_wire.specs.Limits.{sequence_modulus}
use Rattle.docsis_wire.specs.Ready.{IsReady}
use Rattle.flow_records.specs.declared.event.Event.{Event}
use Rattle.flow_records.specs.declared.event.Event.TheVariants.{Arrive, Gap, GapTo, SkipTo}

-- the flow that an event names
abbrev pub flow_of : Event → ℕ
flow_of (Arrive flow segment) = flow
flow_of (Gap flow) = flow
flow_of (GapTo flow number) = flow
flow_of (SkipTo flow number) = flow

-- an arriving segment is ready, and losses are declared up to a sequence number
abbrev pub IsTakable : Event → Type 0
IsTakable (Arrive flow segment) = IsReady segment
IsTakable (Gap flow) = Unit {0}
IsTakable (GapTo flow number) = number < sequence_modulus
IsTakable (SkipTo flow number) = number < sequence_modulus
