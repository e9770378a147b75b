use Rattle.lane.proofs.LaneTaking.{answered-more, answered-before, answered-last}
use Rattle.lane.proofs.laws.next_input_is_answered.Goals as goal

pub returns : goal.returns
returns c = λ setup taken one. (
  λ answered. (answered-before setup taken one answered, answered-last setup taken one answered),
  λ both. answered-more setup taken one both.0 both.1,
)
