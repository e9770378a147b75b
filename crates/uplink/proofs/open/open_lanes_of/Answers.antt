-- The next channel's lane is opened, if it belongs to the source.
use Rattle.std.proofs.Common.{◌+◌, sym, subst}
use Rattle.uplink.specs.Inside.Running.{AreOpenLanesOf}
use Rattle.uplink.proofs.LanesOpened.{none-opened, one-opened}
use Rattle.uplink.proofs.open.open_lanes_of.Goals as goal

pub loop-channel-init : goal.loop-channel-init
loop-channel-init c =
    subst (AreOpenLanesOf 0 c.args.source c.args.setup.now) (sym c.in_ok-lanes.ensures.items) (none-opened c.args.source c.args.setup.now)

pub loop-channel-preserved : goal.loop-channel-preserved
loop-channel-preserved c =
    let loop = c.loop-channel in
    subst (AreOpenLanesOf (loop.channel + 1) c.args.source c.args.setup.now) (sym c.in_ok-push.ensures.items)
    (one-opened loop.channel c.args.source c.args.setup.now loop.lanes.items c.in_ok-open_lane.field-0 loop.invariant c.in_ok-open_lane.ensures.own
    c.in_ok-open_lane.ensures.stands)
