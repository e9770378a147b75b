-- A fault of the records is reported, and otherwise only an allocation can fail.
use Rattle.std.proofs.Common.{Err, refl, ap, ◌∙◌}
use Rattle.std.proofs.lemmas.Result.{err_from_is_err_and}
use Rattle.flow_records.specs.declared.record.SetupFault.TheVariants.{TooManyFlows, BadFlow, SameSfid, OutOfMemory}
use Rattle.flow_records.specs.Limits.{flows_max}
use Rattle.flow_records.proofs.Setup.{fault-is, fault-not}
use Rattle.flow_core.proofs.NewFlows.{new-drained}
use Rattle.flow_core.proofs.flows.Core.new.Goals as goal

pub returns-in_err-check_records-clause-too_many : goal.returns-in_err-check_records-clause-too_many
returns-in_err-check_records-clause-too_many g c =
    let p = err_from_is_err_and c.from_residual.result c.from_residual.ensures.1 in
    let found = c.in_err-check_records.field-0.0 in
    fault-is flows_max c.args.records.now c.from_residual.result found (p.1 ∙ ap Err p.2) ((c.in_err-check_records.ensures.fault found).0 refl) TooManyFlows

pub returns-in_err-check_records-clause-bad : goal.returns-in_err-check_records-clause-bad
returns-in_err-check_records-clause-bad g c k =
    let p = err_from_is_err_and c.from_residual.result c.from_residual.ensures.1 in
    let found = c.in_err-check_records.field-0.0 in
    fault-is flows_max c.args.records.now c.from_residual.result found (p.1 ∙ ap Err p.2) ((c.in_err-check_records.ensures.fault found).0 refl) (BadFlow k)

pub returns-in_err-check_records-clause-repeated : goal.returns-in_err-check_records-clause-repeated
returns-in_err-check_records-clause-repeated g c k =
    let p = err_from_is_err_and c.from_residual.result c.from_residual.ensures.1 in
    let found = c.in_err-check_records.field-0.0 in
    fault-is flows_max c.args.records.now c.from_residual.result found (p.1 ∙ ap Err p.2) ((c.in_err-check_records.ensures.fault found).0 refl) (SameSfid k)

pub returns-in_err-check_records-clause-memory : goal.returns-in_err-check_records-clause-memory
returns-in_err-check_records-clause-memory g c e =
    let p = err_from_is_err_and c.from_residual.result c.from_residual.ensures.1 in
    let found = c.in_err-check_records.field-0.0 in
    absurd ((fault-is flows_max c.args.records.now c.from_residual.result found (p.1 ∙ ap Err p.2) ((c.in_err-check_records.ensures.fault found).0 refl) OutOfMemory).0 e)

pub returns-in_err-flows-clause-bad : goal.returns-in_err-flows-clause-bad
returns-in_err-flows-clause-bad g c k =
    let p = err_from_is_err_and c.from_residual-in_err-flows.result c.from_residual-in_err-flows.ensures.1 in
    let can = c.in_ok-check_records.ensures.ok.0 refl in
    fault-not flows_max c.args.records.now c.from_residual-in_err-flows.result (BadFlow k) can (λ e. cc)

pub returns-in_err-flows-clause-repeated : goal.returns-in_err-flows-clause-repeated
returns-in_err-flows-clause-repeated g c k =
    let p = err_from_is_err_and c.from_residual-in_err-flows.result c.from_residual-in_err-flows.ensures.1 in
    let can = c.in_ok-check_records.ensures.ok.0 refl in
    fault-not flows_max c.args.records.now c.from_residual-in_err-flows.result (SameSfid k) can (λ e. cc)

pub returns-clause-bad : goal.returns-clause-bad
returns-clause-bad g c k = fault-not flows_max c.args.records.now _ (BadFlow k) (c.in_ok-check_records.ensures.ok.0 refl) (λ e. cc)

pub returns-clause-repeated : goal.returns-clause-repeated
returns-clause-repeated g c k = fault-not flows_max c.args.records.now _ (SameSfid k) (c.in_ok-check_records.ensures.ok.0 refl) (λ e. cc)

pub returns-clause-new : goal.returns-clause-new
returns-clause-new g c = record {
  check_is = refl;
  count = c.in_ok-flows.ensures.count;
  each = c.in_ok-flows.ensures.each;
  drained = new-drained c.args.records.now _ c.in_ok-flows.ensures.each;
}
