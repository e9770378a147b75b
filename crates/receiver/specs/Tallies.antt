-- How many inputs of a channel were admitted and refused.
use Rattle.std.specs.Prelude.{◌≡◌, List, ◌∷◌, [], ◌++◌, length}
use Rattle.flow_records.specs.Counted.{counted}
use Rattle.lane.specs.declared.input.Input.{Input}
use Rattle.lane.specs.Inputs.{Answer, AnsweredInput}
use Rattle.lane.specs.Report.{admitted_count, refusal_numbers}
use Rattle.receiver.specs.declared.tally.LaneTally.{LaneTally}

-- so many of these inputs were admitted, and so many refused
pub record IsTallyOf (answered : List AnsweredInput) (tally : LaneTally) : Type 0 where
  pub admitted : tally.admitted ≡ admitted_count answered
  pub refused : tally.refused ≡ counted (length (refusal_numbers answered))

-- Whatever inputs a tally was of, with one more at the end that has this answer they have the tally
-- after it.
abbrev pub TalliesAnswer : LaneTally → Answer → LaneTally → Type 0
TalliesAnswer tally answer after =
    (answered : List AnsweredInput) (input : Input)
    → IsTallyOf answered tally → IsTallyOf (answered ++ record { input = input; answer = answer } ∷ []) after
