use Rattle.flow_core.proofs.Nearness.{numbered_of_cut}
use Rattle.loss_rule.specs.declared.rule.LossRule.TheVariants.{PassedOrSlid}
use Rattle.loss_rule.specs.Dealing.{dealt_out}
use Rattle.loss_rule.proofs.HandedIn.{none-safe}
use Rattle.loss_rule.proofs.DealtOut.{out-order, out-undecided, over-within, over-short}
use Rattle.loss_rule.proofs.Falling.{fall-within}
use Rattle.loss_rule.proofs.NoSlide.{within-falls, outage-falls, safe-falls}
use Rattle.loss_rule.proofs.laws.segments_after_an_outage_fall_into_a_window_that_slides.Goals as goal

pub returns-clause-outage : goal.returns-clause-outage
returns-clause-outage c = λ check frames chunks fill segments flow comings index_at cut order late short safely.
    outage-falls flow segments comings index_at (numbered_of_cut check frames chunks flow.first fill segments cut) order late short safely

pub returns-clause-safe : goal.returns-clause-safe
returns-clause-safe c = λ check frames chunks fill segments flow comings index_at some cut order near safe safely.
    safe-falls flow segments comings index_at (numbered_of_cut check frames chunks flow.first fill segments cut) order some near safe safely

pub returns-clause-no_slide : goal.returns-clause-no_slide
returns-clause-no_slide c = λ check frames chunks fill segments rule flow comings index_at looks narrow cut order none safely.
    let numbered = numbered_of_cut check frames chunks flow.first fill segments cut in
    within-falls rule looks flow segments comings index_at numbered order (fall-within rule looks flow narrow segments comings index_at numbered order none) safely

pub returns-clause-dealt_out : goal.returns-clause-dealt_out
returns-clause-dealt_out c = λ check frames chunks fill segments flow channel_of index_at n some cut out over.
    let all = dealt_out channel_of index_at segments n in
    let order = out-order flow channel_of index_at segments n out in
    let safely = none-safe PassedOrSlid flow all index_at (out-undecided flow channel_of index_at segments n out) in (
      order,
      outage-falls flow segments all index_at (numbered_of_cut check frames chunks flow.first fill segments cut) order
          (over-within flow channel_of index_at segments n out over some) (over-short flow channel_of index_at segments n out over) safely,
      safely,
    )
