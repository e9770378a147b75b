use Rattle.std.proofs.Common.{subst}
use Rattle.std.specs.Prelude.{All}
use Rattle.capture_rules.proofs.Lately.{Within, left-lately, lately-at_first, orders-keep}
use Rattle.capture_rules.proofs.laws.what_waits_came_lately.Goals as goal

pub returns-clause-lately : goal.returns-clause-lately
returns-clause-lately g c = λ reorder left came handed orders. subst (λ r. All (Within r left.clock) left.waiting) (orders-keep orders) (left-lately orders (lately-at_first reorder)).timely.within

pub returns-clause-most : goal.returns-clause-most
returns-clause-most g c = λ reorder left came handed orders. (left-lately orders (lately-at_first reorder)).few
