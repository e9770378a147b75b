-- What a step makes of a flow of the code.
use Rattle.std.specs.Prelude.{◌≡◌, ℕ, ◌+◌, Bool, Option, Some, None, List}
use Rattle.ccf.specs.declared.joiner.FedUnlessWhole.{FedUnlessWhole}
use Rattle.ccf.specs.declared.joiner.FedUnlessWhole.TheVariants.{Whole, Fed}
use Rattle.flow_records.specs.Counted.{counted}
use Rattle.flow_core.specs.declared.counts.FlowCounts.{FlowCounts}
use Rattle.flow_core.specs.declared.flow.Flow.{Flow}
use Rattle.flow_core.specs.Stands.{IsDrained, Gives}
use Rattle.flow_core.specs.AsItIs.{IsNextOneFrame}

-- the counts after a segment was joined that completed so many frames, with so many bytes skipped
abbrev pub counts_joined : FlowCounts → ℕ → ℕ → FlowCounts
counts_joined counts frames skipped = record counts { frames = counted (counts.frames + frames); skipped = counted (counts.skipped + skipped) }

-- no segment was next, or one that is one whole frame by itself, and nothing changed; or another
-- was, and was joined
abbrev pub JoinsUnlessWhole : (List ℕ → Bool) → Flow → Option FedUnlessWhole → Flow → Type 0
JoinsUnlessWhole check flow None after = IsDrained flow × (after ≡ flow)
JoinsUnlessWhole check flow (Some Whole) after = IsNextOneFrame check flow × (after ≡ flow)
JoinsUnlessWhole check flow (Some (Fed fed)) after =
    ¬ (IsDrained flow) × ¬ (IsNextOneFrame check flow) × Gives check flow fed.frames.items after
