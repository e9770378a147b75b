-- The flow takes a gap.
use Rattle.std.proofs.Common.{ap, refl}
use Rattle.flow_core.specs.declared.flow.Flow.{Flow}
use Rattle.flow_core.specs.declared.event.Applied.TheVariants.{Decision}
use Rattle.flow_core.specs.Events.{gap}
use Rattle.flow_core.specs.Flows.{IsLoss}
use Rattle.flow_core.proofs.OneFlow.{none-later}
use Rattle.flow_core.proofs.Giving.{expected_of_drained}
use Rattle.bonded_flows.proofs.TakenEvents.{event-taken}
use Rattle.bonded_flows.proofs.bonded_flow.BondedFlow.close_gap.Goals as goal

pub returns-in-Lost-clause-takes : goal.returns-in-Lost-clause-takes
returns-in-Lost-clause-takes c = record {
  declared = c.gap.result;
  loses = λ _. (c.in-Lost.field-0, c.in-Lost.is);
  taken = λ check setup taken lasts given has.
      event-taken check setup c.args.self.now taken lasts given has c.requires gap (Decision c.gap.result) c.gap.new.self c.gap.ensures.taken;
  unchanged = λ not_lost. absurd (not_lost refl);
  closed = λ not_lost. absurd (not_lost refl);
}

pub returns-in_default : goal.returns-in_default
returns-in_default c =
    let self = c.args.self.now in
    let no_loss : IsLoss c.gap.result → ⊥ = λ loss. c.in_default.not-Lost loss.0 loss.1 in
    let same = c.gap.ensures.unchanged no_loss in
    record {
      takes = record {
        declared = c.gap.result;
        loses = λ yes. absurd (cc);
        taken = λ check setup taken lasts given has.
            event-taken check setup self taken lasts given has c.requires gap (Decision c.gap.result) c.gap.new.self c.gap.ensures.taken;
        unchanged = λ _. ap (λ (flow : Flow). record self { flow = flow }) same;
        closed = λ _ check setup events lasts given has. (
          has.y,
          expected_of_drained check setup.flow_record self.flow events has.answers has.y given has.stands c.requires.drained,
          none-later self.flow c.gap.new.self c.gap.result c.requires.drained c.gap.ensures.taken no_loss check setup.flow_record events has.answers has.y given has.stands,
        );
      };
      pending = refl;
      index = refl;
    }
