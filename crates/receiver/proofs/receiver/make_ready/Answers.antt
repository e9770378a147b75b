-- Whatever is admitted of the input is of the flow that was looked up.
use Rattle.std.proofs.Common.{◌≡◌, Some, refl, sym, ap, subst, ◌∙◌, arith}
use Rattle.std.specs.Option.{option_map}
use Rattle.std.proofs.lemmas.Option.{same_Some}
use Rattle.lane.specs.declared.admitted.Admitted.{Admitted}
use Rattle.lane.specs.Report.{admitted_by}
use Rattle.bonded_flows.specs.Table.{IsPreparedAt}
use Rattle.lane.specs.Stands.{WouldAdmit}
use Rattle.bonded_flows.proofs.SlotTurns.{on-ok}
use Rattle.receiver.proofs.OtherFlows.{where-none, none-some}
use Rattle.receiver.proofs.receiver.make_ready.Goals as goal

pub returns-in_default-clause-ready : goal.returns-in_default-clause-ready
returns-in_default-clause-ready g c channels setup taken answer admitted can stands is admits =
    let none : option_map (λ (a : Admitted). a.flow) (admitted_by answer) ≡ c.look.result = c.look.ensures.flow channels setup taken answer can stands is in
    let some : option_map (λ (a : Admitted). a.flow) (admitted_by answer) ≡ Some admitted.flow = ap (option_map (λ (a : Admitted). a.flow)) admits in
    absurd (c.in_default.not-Some admitted.flow (sym none ∙ some))

pub returns-clause-ready : goal.returns-clause-ready
returns-clause-ready g c =
    on-ok c.prepare.result
    (λ _ prepared channels setup taken answer admitted can stands is admits.
    let one : option_map (λ (a : Admitted). a.flow) (admitted_by answer) ≡ c.look.result = c.look.ensures.flow channels setup taken answer can stands is in
    let some : option_map (λ (a : Admitted). a.flow) (admitted_by answer) ≡ Some admitted.flow = ap (option_map (λ (a : Admitted). a.flow)) admits in
    subst (IsPreparedAt c.prepare.new.self) (same_Some c.in-Some.flow admitted.flow (sym c.in-Some.is ∙ sym one ∙ some)) prepared)
    c.prepare.ensures.prepared

pub returns-clause-closing : goal.returns-clause-closing
returns-clause-closing g c is =
    let lane = c.requires.lane in
    let in_use = c.requires.in_use in
    let inside = c.look.ensures.exists lane.setup lane.answered c.in-Some.flow lane.stands c.in-Some.is in
    let flow_count = lane.flow_count in
    let before = in_use.stands.flow_count in
    let after = (c.prepare.ensures.takes.stands in_use.check in_use.made in_use.history in_use.given in_use.stands).flow_count in
    (c.in-Some.flow, omega arith, c.prepare.ensures.closing is)

pub returns-in_default-clause-others : goal.returns-in_default-clause-others
returns-in_default-clause-others g c = record {
  flow = c.look.result;
  would = c.look.ensures.flow;
  changed = where-none c.look.result _ _ c.in_default.not-Some refl;
  refused = none-some c.look.result _ c.in_default.not-Some;
  closing = λ told. absurd cc;
}

pub returns-clause-others : goal.returns-clause-others
returns-clause-others g c = record {
  flow = Some c.in-Some.flow;
  would = subst (WouldAdmit c.args.lane.now c.args.input.now) c.in-Some.is c.look.ensures.flow;
  changed = c.prepare.ensures.others;
  refused = c.prepare.ensures.refused;
  closing = c.prepare.ensures.closing;
}
