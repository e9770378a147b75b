use Rattle.answers.proofs.ToldOfWhole.{happens_beside}
use Rattle.answers.proofs.what_is_told_of_stand_ins_is_told_of_the_whole.Goals as goal

pub returns : goal.returns
returns c = λ selected made others also happening entries can is each stand bytes.
    let so = happens_beside selected made can c.what_came_to_a_flow_has_one_answer.ensures.given is each entries stand bytes in
    let so_far = so.beside.so_far in
    (so.handed, so.given, so.happened, so_far.has_happened, record { each = so_far.each; are = so.beside.are }, so.told_same)
