use Rattle.answers.proofs.ToldOfWhole.{nothing_beside, one_more_beside}
use Rattle.answers.proofs.what_is_told_of_the_whole_grows_with_stand_ins.Goals as goal

pub returns-clause-nothing : goal.returns-clause-nothing
returns-clause-nothing c = nothing_beside

pub returns-clause-one_more : goal.returns-clause-one_more
returns-clause-one_more c = λ selected made others also entries handed given happened one e also_more telling can.
    one_more_beside selected made can c.what_came_to_a_flow_has_one_answer.ensures.given others also entries handed given happened one e also_more telling
