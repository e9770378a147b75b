use Rattle.flow_core.proofs.Nearness.{numbered_of_cut}
use Rattle.loss_rule.specs.Dealing.{dealt, dealt_out}
use Rattle.loss_rule.proofs.HandedIn.{none-safe}
use Rattle.loss_rule.proofs.Fitting.{fit-within}
use Rattle.loss_rule.proofs.Taking.{within-taken}
use Rattle.loss_rule.proofs.AllKept.{come-near}
use Rattle.loss_rule.proofs.NoSlide.{within-falls}
use Rattle.loss_rule.proofs.Dealing.{spread-fits, dealt-order, dealt-fits, dealt-undecided}
use Rattle.loss_rule.proofs.DealtOut.{out-order, out-undecided, out-fits}
use Rattle.loss_rule.proofs.TwoOfThree.{two_of_three-dealt, two_of_three-spread}
use Rattle.loss_rule.proofs.laws.spread_segments_fit_the_window.Goals as goal

pub returns-clause-spread : goal.returns-clause-spread
returns-clause-spread c = λ segments flow comings index_at d m wide narrow order spread within.
    spread-fits flow comings index_at d m wide spread within narrow order.on_flow

pub returns-clause-turns : goal.returns-clause-turns
returns-clause-turns c = dealt-order

pub returns-clause-in_turns : goal.returns-clause-in_turns
returns-clause-in_turns c = λ segments flow count some wide narrow channels. dealt-fits segments flow count some channels wide narrow

pub returns-clause-unbroken : goal.returns-clause-unbroken
returns-clause-unbroken c = λ segments count. dealt-undecided count 0 segments

pub returns-clause-dealt : goal.returns-clause-dealt
returns-clause-dealt c = λ check frames chunks fill segments rule flow count looks some wide narrow channels cut.
    let numbered = numbered_of_cut check frames chunks flow.first fill segments cut in
    let order = dealt-order segments flow count some channels in
    let safely = none-safe rule flow (dealt count segments) (λ p. p) (dealt-undecided count 0 segments) in
    let within = fit-within rule looks flow narrow segments (dealt count segments) (λ p. p) numbered order (dealt-fits segments flow count some channels wide narrow) in (
      order,
      within-falls rule looks flow segments (dealt count segments) (λ p. p) numbered order within safely,
      come-near rule looks flow segments (dealt count segments) (λ p. p) numbered order
          (within-taken rule looks flow segments (dealt count segments) (λ p. p) numbered order within) safely,
      safely,
    )

pub returns-clause-dealt_out : goal.returns-clause-dealt_out
returns-clause-dealt_out c = λ check frames chunks fill segments rule flow channel_of index_at n m d looks wide narrow cut out even.
    let numbered = numbered_of_cut check frames chunks flow.first fill segments cut in
    let all = dealt_out channel_of index_at segments n in
    let order = out-order flow channel_of index_at segments n out in
    let safely = none-safe rule flow all index_at (out-undecided flow channel_of index_at segments n out) in
    let within = fit-within rule looks flow narrow segments all index_at numbered order (out-fits flow channel_of index_at segments n out m d even wide narrow) in (
      order,
      within-falls rule looks flow segments all index_at numbered order within safely,
      come-near rule looks flow segments all index_at numbered order (within-taken rule looks flow segments all index_at numbered order within) safely,
      safely,
    )

pub returns-clause-two_of_three : goal.returns-clause-two_of_three
returns-clause-two_of_three c = λ segments flow n channels enough. (two_of_three-dealt flow segments n channels enough, two_of_three-spread flow segments n channels)
