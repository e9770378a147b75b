-- What losses make of a flow of the code.
use Rattle.std.specs.Prelude.{◌≡◌, ◌≢◌, ℕ, zero, suc, ◌+◌, ◌<◌, ◌⊎◌, Bool, Option, Some, None, [], length}
use Rattle.std.specs.FinMap as map
use Rattle.docsis_wire.specs.declared.segment.ReadySegment.{ReadySegment}
use Rattle.reorder.specs.View.{WindowView, moved_on_by}
use Rattle.reorder.specs.Verdicts.{declared_count, skipped_count}
use Rattle.flow_core.specs.declared.flow.Flow.{Flow}
use Rattle.flow_core.specs.declared.up_to.UpTo.{UpTo}
use Rattle.flow_core.specs.declared.up_to.UpTo.TheVariants.{Declare, Skip}
use Rattle.flow_core.specs.declared.event.Applied.{Applied}
use Rattle.flow_core.specs.declared.event.Applied.TheVariants.{DecisionTo, DecisionSkip}
use Rattle.flow_core.specs.Events.{FlowEvent, gap_to, skip_to}
use Rattle.flow_records.specs.Counted.{counted}
use Rattle.flow_core.specs.Stands.{number_to}

-- so many losses: they are counted, and nothing is left unfinished
abbrev pub after_losses : ℕ → Flow → Flow
after_losses zero flow = flow
after_losses (suc n) flow =
    record flow {
      joiner = [];
      counts = record flow.counts {
        lost = counted (flow.counts.lost + suc n);
        skipped = counted (flow.counts.skipped + length flow.joiner);
      };
    }

-- so many losses, and the window moved on past them
abbrev pub after_passing : ℕ → Flow → Flow
after_passing count flow = after_losses count (record flow { window = moved_on_by flow.window count })

-- the event that is a decision up to a number, and the answer to it
abbrev pub event_to : UpTo → FlowEvent
event_to (Declare sequence) = gap_to sequence.number
event_to (Skip sequence) = skip_to sequence.number

abbrev pub answer_to : UpTo → Bool → Applied
answer_to (Declare _) any = DecisionTo any
answer_to (Skip _) any = DecisionSkip any

-- how many numbers it passes of a window
abbrev pub count_to : WindowView ReadySegment → UpTo → ℕ
count_to w (Declare sequence) = declared_count w sequence.number
count_to w (Skip sequence) = skipped_count w sequence.number

-- a decision went on, which is forgotten if its number is reached or nothing is held
abbrev pub GoesOnTo : UpTo → Flow → Flow → Type 0
GoesOnTo up_to flow after =
    let passed : Flow = after_passing (count_to flow.window up_to) flow in
    (((map.len flow.window.held ≡ 0) ⊎ (passed.window.expected ≡ number_to up_to)) × (after ≡ record passed { going_on = None }))
    ⊎ ((0 < map.len flow.window.held) × (passed.window.expected ≢ number_to up_to) × (after ≡ passed))

-- the decision that is remembered went on, if one is
abbrev pub GoesOn : Option UpTo → Flow → Flow → Type 0
GoesOn None flow after = after ≡ flow
GoesOn (Some up_to) flow after = GoesOnTo up_to flow after
