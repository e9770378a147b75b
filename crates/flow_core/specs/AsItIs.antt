-- Steps that give a segment which is one whole frame as it is.
use Rattle.std.specs.Prelude.{◌≡◌, ℕ, Bool, Some, List, [], ◌∷◌}
use Rattle.docsis_wire.specs.declared.segment.ReadySegment.{ReadySegment}
use Rattle.ccf.specs.Feed.{IsOneFrame}
use Rattle.reorder.specs.View.{held_at}
use Rattle.flow_core.specs.declared.flow.Flow.{Flow}
use Rattle.flow_core.specs.declared.event.StepAsItIs.{StepAsItIs}
use Rattle.flow_core.specs.declared.event.StepAsItIs.TheVariants.{Whole, Frames, Nothing}
use Rattle.flow_core.specs.Stands.{IsDrained, Gives}

-- the next segment of a flow is one whole frame by itself, and nothing is unfinished
pub record IsNextOneFrame (check : List ℕ → Bool) (flow : Flow) : Type 0 where
  pub ready : ReadySegment
  pub next : held_at flow.window flow.window.expected ≡ Some ready
  pub one : IsOneFrame check flow.joiner ready.segment

-- What such a step answers, and what becomes of the flow: the next segment was one whole frame, and
-- just that is given; or another segment was next, and these frames were given; or none was, and
-- nothing changed.
abbrev pub AdvancesAsItIs : (List ℕ → Bool) → Flow → StepAsItIs → Flow → Type 0
AdvancesAsItIs check flow (Whole frame) after = IsNextOneFrame check flow × Gives check flow (frame ∷ []) after
AdvancesAsItIs check flow (Frames frames) after =
    ¬ (IsDrained flow) × ¬ (IsNextOneFrame check flow) × Gives check flow frames.items after
AdvancesAsItIs check flow Nothing after = IsDrained flow × (after ≡ flow)
