use Rattle.std.proofs.Common.{◌≡◌, ℕ, List, length}
use Rattle.lane.proofs.OneLaneAnswer.{one-answer}
use Rattle.lane.proofs.LaneTaking.{answered-last}
use Rattle.lane.specs.Limits.{channel_limit}
use Rattle.lane.specs.Rows.{CanBeOpenedWithin}
use Rattle.lane.specs.Inputs.{LaneSetup, Answer, AnsweredInput}
use Rattle.lane.specs.Stands.{StandsFor, TakesInput}
use Rattle.lane.specs.declared.input.Input.{Input}
use Rattle.lane.specs.declared.lane.Lane.{Lane}
use Rattle.lane.proofs.laws.lanes_of_the_same_inputs_answer_alike.Goals as goal

alike : (channels : ℕ) (setup : LaneSetup) (taken : List AnsweredInput) (input : Input) (lane other after other_after : Lane) (answer other_answer : Answer)
    → CanBeOpenedWithin channels setup.rows (length setup.records) → StandsFor setup lane taken → StandsFor setup other taken
    → TakesInput lane input answer after → TakesInput other input other_answer other_after → answer ≡ other_answer
alike channels setup taken input lane other after other_after answer other_answer can stands also takes also_takes =
    let one : AnsweredInput = record { input = input; answer = answer } in
    let its : AnsweredInput = record { input = input; answer = other_answer } in
    one-answer channels setup can taken stands.answered input answer other_answer
    (answered-last setup taken one (takes setup taken stands).answered)
    (answered-last setup taken its (also_takes setup taken also).answered)

pub returns-clause-alike : goal.returns-clause-alike
returns-clause-alike c = alike channel_limit

pub returns-clause-alike_within : goal.returns-clause-alike_within
returns-clause-alike_within c = alike
