-- That an event can be taken is one fact, so that an item may keep it.
use Rattle.std.specs.Coded.{→_prop, Unit-prop, le_prop}
use Rattle.flow_records.specs.declared.event.Event.{Event}
use Rattle.flow_records.specs.declared.event.Event.TheVariants.{Arrive, Gap, GapTo, SkipTo}
use Rattle.flow_records.specs.Events.{IsTakable}

-- it has one proof at most
pub takable-prop : (event : Event) → IsProp (IsTakable event)
takable-prop (Arrive flow segment) = →_prop le_prop
takable-prop (Gap flow) = Unit-prop
takable-prop (GapTo flow number) = le_prop
takable-prop (SkipTo flow number) = le_prop
