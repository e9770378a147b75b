use Rattle.std.proofs.Common.{◌≡◌, Err, IfErr, ◌≤◌, length, refl, ap, sym, subst, ◌∙◌}
use Rattle.std.proofs.lemmas.Result.{err_from_is_err_and}
use Rattle.flow_records.specs.Setup.{IsBad, IsSetupFaultWithin}
use Rattle.receiver.specs.Widths.{IsSetupErrorWithin}
use Rattle.receiver.proofs.SetupErrors.{error-of_flows}
use Rattle.receiver.proofs.setup.Setup.check_within.Goals as goal

pub returns-in_err-check_many_records-clause-fault : goal.returns-in_err-check_many_records-clause-fault
returns-in_err-check_many_records-clause-fault c =
    let p = err_from_is_err_and c.from_residual.result c.from_residual.ensures.1 in
    let found = c.in_err-check_many_records.field-0.0 in
    let told = c.in_err-check_many_records.ensures in
    let flows = c.args.width.flows in
    let limit : c.from.result ≡ flows = c.from.ensures ∙ c.flows.ensures.is in
    let records : c.deref.result.now ≡ c.args.self.now.flows.items = c.deref.ensures.value in
    subst (λ result. IfErr result (IsSetupErrorWithin c.args.width.channels flows c.args.self.now)) (sym (p.1 ∙ ap Err p.2))
    (error-of_flows c.args.width.channels flows c.args.self.now found
    (λ other. subst (λ these. IsSetupFaultWithin flows these found) records
    (subst (λ most. IsSetupFaultWithin most c.deref.result.now found) limit (told.fault found other refl)))
    (λ same. subst (λ these. (length these ≤ flows) × ((k : _) → ¬ (IsBad these k))) records
    (subst (λ most. (length c.deref.result.now ≤ most) × ((k : _) → ¬ (IsBad c.deref.result.now k))) limit (told.memory (ap Err same)))))
