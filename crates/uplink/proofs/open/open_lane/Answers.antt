-- The lane is that of the setup.
use Rattle.std.proofs.Common.{[], subst}
use Rattle.lane.specs.Stands.{StandsFor}
use Rattle.uplink.proofs.open.open_lane.Goals as goal

pub returns-clause-stands : goal.returns-clause-stands
returns-clause-stands c =
    subst (λ rows. StandsFor (record { channel = c.args.channel; rows = rows; records = c.args.setup.now.flows.items }) c.in_ok-lane.lane []) c.deref.ensures.value
    (subst (λ records. StandsFor (record { channel = c.args.channel; rows = c.deref.result.now; records = records }) c.in_ok-lane.lane []) c.deref-2.ensures.value c.in_ok-lane.ensures)
