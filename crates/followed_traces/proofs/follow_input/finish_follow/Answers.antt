-- All was handed in, and the receiver was closed.
use Rattle.followed_traces.proofs.EndOfTrace.{followed_to}
use Rattle.followed_traces.proofs.follow_input.finish_follow.Goals as goal

pub returns-clause-to : goal.returns-clause-to
returns-clause-to c = λ state has.
    let ends = c.in_ok-happened.ensures state.state state.rule state.width c.in_ok-setup.setup state.said.entries (c.in_ok-setup.ensures.taken state has.lines)
    c.in_ok-finish.ensures.whole has.bytes in
    followed_to state.rule state.width state.said state.state _ has.settings (c.in_ok-setup.ensures.setup state has.lines) c.in_ok-happened.happened.happened.items
    c.in_ok-finish.ensures.happened ends
