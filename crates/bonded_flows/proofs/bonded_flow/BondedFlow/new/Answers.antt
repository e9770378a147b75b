use Rattle.std.proofs.Common.{[]}
use Rattle.bonded_flows.proofs.NewFlow.{nothing-came, new-settled}
use Rattle.bonded_flows.proofs.bonded_flow.BondedFlow.new.Goals as goal

pub returns-clause-stands : goal.returns-clause-stands
returns-clause-stands c =
    nothing-came c.args.index c.args.rule c.args.flow_record.now c.args.channels.now c.requires c.in_ok-new.field-0 c.in_ok-new-2.field-0 c.in_ok-new.ensures.stands
    c.in_ok-new-2.ensures.carried c.in_ok-new-2.ensures.distances c.in_ok-new-2.ensures.expected

pub returns-clause-settled : goal.returns-clause-settled
returns-clause-settled c =
    new-settled c.args.index c.args.rule c.args.flow_record.now c.args.channels.now c.requires c.in_ok-new.field-0 c.in_ok-new-2.field-0 c.in_ok-new.ensures.stands
    c.in_ok-new-2.ensures.carried c.in_ok-new-2.ensures.distances c.in_ok-new-2.ensures.expected

pub returns-clause-under_way : goal.returns-clause-under_way
returns-clause-under_way c = λ check. record {
  setup = record { index = c.args.index; rule = c.args.rule; flow_record = c.args.flow_record.now; channels = c.args.channels.now };
  comings = [];
  given = [];
  has_come = returns-clause-stands c check;
}
