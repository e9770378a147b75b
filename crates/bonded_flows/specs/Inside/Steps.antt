-- A step of a flow by itself.
use Rattle.std.specs.Prelude.{◌≡◌, ℕ, Bool, true, false, List}
use Rattle.consumer.specs.declared.given.Given.{Given}
use Rattle.flow_core.specs.declared.flow.Flow.{Flow}
use Rattle.flow_core.specs.Stands.{IsDrained, Gives}
use Rattle.bonded_flows.specs.Taking.{WasGiven}

-- a segment was next, and what it gives the consumer was given; or none was, and nothing changed
abbrev pub JoinsNext : {O : Type 0} → (O → List Given → O → Type 0) → (List ℕ → Bool) → ℕ → Flow → O → Bool → Flow → O → Type 0
JoinsNext after check index flow out true flow' out' =
    ¬ (IsDrained flow) × ((frames : List (List ℕ)) × WasGiven after index out frames out' × Gives check flow frames flow')
JoinsNext after check index flow out false flow' out' = IsDrained flow × (flow' ≡ flow) × (out' ≡ out)
