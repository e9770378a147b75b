use Rattle.answers.proofs.SomeIntake.{some_lanes, some_intake, some_admitted}
use Rattle.answers.proofs.what_comes_in_has_an_intake.Goals as goal

pub returns-clause-lanes : goal.returns-clause-lanes
returns-clause-lanes c = some_lanes

pub returns-clause-ordered : goal.returns-clause-ordered
returns-clause-ordered c = some_intake

pub returns-clause-admitted : goal.returns-clause-admitted
returns-clause-admitted c = λ setup incoming tags can are lawful.
    let found = some_admitted setup incoming tags can are lawful in
    (found.0, found.1, found.2)
