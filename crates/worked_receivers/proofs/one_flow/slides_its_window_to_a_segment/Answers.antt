use Rattle.std.proofs.Common.{true}
use Rattle.worked_receivers.proofs.one_flow.slides_its_window_to_a_segment.Goals as goal

pub close-requires-clause-under_way : goal.close-requires-clause-under_way
close-requires-clause-under_way g c = c.begin_close.ensures.under_way (λ _. true) c.in_ok-repeat.ensures.under_way
