-- A flow that begins anew comes in parts.
use Rattle.std.specs.Prelude.{◌≡◌, ℕ, Bool, List, [], ◌∷◌, ◌++◌}
use Rattle.flow_core.specs.declared.counts.FlowCounts.{FlowCounts}
use Rattle.loss_rule.specs.Rule.{Coming}
use Rattle.bonded_flows.specs.FlowSetup.{FlowSetup}
use Rattle.bonded_flows.specs.ByRule.{GaveByRule}

-- What is handed in of a flow: something comes to it, or it is closed and begins anew at a number.
pub data FlowInput : Type 0 where
  comes : Coming → FlowInput
  begins_anew : ℕ → FlowInput

-- A part of a flow begins with a number, and all this came to the flow while it lasted.
pub record Part : Type 0 where
  pub first : ℕ
  pub comings : List Coming

-- The parts that are over, and the last one, where the first begins with this number and so much
-- has come to it.
abbrev pub parts_over_from : ℕ → List Coming → List FlowInput → List Part
parts_over_from first came [] = []
parts_over_from first came (comes coming ∷ rest) = parts_over_from first (came ++ coming ∷ []) rest
parts_over_from first came (begins_anew again ∷ rest) = record { first = first; comings = came } ∷ parts_over_from again [] rest

abbrev pub last_part_from : ℕ → List Coming → List FlowInput → Part
last_part_from first came [] = record { first = first; comings = came }
last_part_from first came (comes coming ∷ rest) = last_part_from first (came ++ coming ∷ []) rest
last_part_from first came (begins_anew again ∷ rest) = last_part_from again [] rest

-- the same from the beginning of a flow
abbrev pub parts_over : FlowSetup → List FlowInput → List Part
parts_over setup inputs = parts_over_from setup.flow_record.first [] inputs

abbrev pub last_part : FlowSetup → List FlowInput → Part
last_part setup inputs = last_part_from setup.flow_record.first [] inputs

-- what a part that begins with this number is made with
abbrev pub begun_at : FlowSetup → ℕ → FlowSetup
begun_at setup first = record { index = setup.index; rule = setup.rule; flow_record = record setup.flow_record { first = first }; channels = setup.channels }

-- what these parts gave, one after another: each what by the rule comes of all that came to it and
-- of its close
abbrev pub GaveInParts : (List ℕ → Bool) → FlowSetup → List Part → List (List ℕ) → Type 0
GaveInParts check setup [] frames = frames ≡ []
GaveInParts check setup (part ∷ parts) frames =
    (own rest : List (List ℕ)) × (counts : FlowCounts)
    × GaveByRule check (begun_at setup part.first) part.comings own counts
    × GaveInParts check setup parts rest × (frames ≡ own ++ rest)
