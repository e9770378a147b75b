-- The fates to which a flow can come.
use Rattle.std.specs.Prelude.{ℕ, List}
use Rattle.flow_core.specs.declared.event.Applied.{Applied}
use Rattle.flow_core.specs.Fates.{Fates}
use Rattle.flow_core.specs.Events.{FlowEvent, IsAfter}

-- some events lead to these fates
abbrev pub IsReached : ℕ → ℕ → Fates → Type 0
IsReached first width fates = (events : List FlowEvent) × (answers : List Applied) × IsAfter first width events answers fates
