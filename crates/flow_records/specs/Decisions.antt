-- Which decisions name a flow, and what they are to the flows.
use Rattle.std.specs.Prelude.{ℕ, ◌&&◌, nat_lt, Bool, true, Option, Some, None}
use Rattle.docsis_wire.specs.Limits.{sequence_modulus}
use Rattle.flow_records.specs.declared.decision.Decision.{Decision}
use Rattle.flow_records.specs.declared.event.Event.{Event}
use Rattle.flow_records.specs.declared.event.Event.TheVariants.{Gap, GapTo}

-- the decision names one of so many flows, and a sequence number if it names a number; any other is
-- passed over
abbrev pub names_a_number : Option ℕ → Bool
names_a_number None = true
names_a_number (Some number) = nat_lt number sequence_modulus

abbrev pub names_a_flow : ℕ → Decision → Bool
names_a_flow flow_count decision = nat_lt decision.flow flow_count && names_a_number decision.upto

-- what a decision is to the flows
abbrev pub gap_of : ℕ → Option ℕ → Event
gap_of flow None = Gap flow
gap_of flow (Some number) = GapTo flow number

abbrev pub event_of_decision : Decision → Event
event_of_decision decision = gap_of decision.flow decision.upto
