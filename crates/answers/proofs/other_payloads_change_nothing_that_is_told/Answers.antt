use Rattle.answers.proofs.ToldElsewhere.{told_alike}
use Rattle.answers.proofs.other_payloads_change_nothing_that_is_told.Goals as goal

pub returns : goal.returns
returns c = λ selected made handed others given also happened happening can.
    told_alike selected made can c.what_came_to_a_flow_has_one_answer.ensures.given handed others given also happened happening
