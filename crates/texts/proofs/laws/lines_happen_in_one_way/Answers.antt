use Rattle.texts.proofs.OneHappening.{happens_once}
use Rattle.texts.proofs.laws.lines_happen_in_one_way.Goals as goal

pub returns : goal.returns
returns c = λ rule width. happens_once rule width c.what_came_to_a_flow_has_one_answer.ensures.given
