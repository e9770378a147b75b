-- One option after another.
use Rattle.std.proofs.Common.{[], ◌∷◌, ◌++◌, length, sym, ap, ◌∙◌}
use Rattle.std.proofs.lemmas.Bool.{eq-eqb, false≢true}
use Rattle.capture.specs.PcapngOptions.{OptionParts}
use Rattle.capture.specs.Inside.BlockStages.{first_or}
use Rattle.capture.proofs.OptionLists.{not_spelled, options_passed, first_value-push}
use Rattle.capture.proofs.PcapSteps.{all_more}
use Rattle.capture.proofs.pcapng_options.resolution.Goals as goal

pub loop-rest-preserved : goal.loop-rest-preserved
loop-rest-preserved c =
    let before = c.loop-rest.invariant in
    let found = c.in_ok-option.ensures.found in
    let one : OptionParts = record { code = c.in_ok-option.option.code; value = c.in_ok-option.option.value.now; padding = found.padding } in
    record {
      front = before.front ++ one ∷ [];
      spelled = options_passed c.args.endian c.args.bytes.now c.loop-rest.rest.now c.in_ok-option.after.now before.front one before.spelled found.spelled;
      each = all_more _ before.front one before.each (record { is_option = found.is_option; ordinary = c.if-option-eq-END_OF_OPTIONS.false });
      first = c.first_or-first.ensures ∙ ap (λ f. first_or f one.code one.value) before.first ∙ sym (first_value-push before.front one);
    }

pub returns-in_err-option-clause-none : goal.returns-in_err-option-clause-none
returns-in_err-option-clause-none c =
    let before = c.loop-rest.invariant in
    let rest = c.loop-rest.rest.now in
    rw c.from_residual.ensures (
    not_spelled c.args.endian c.args.bytes.now rest before.front before.each before.spelled (λ nil. false≢true (c.loop-rest-test.ensures ∙ eq-eqb (length rest) 0 (ap length nil)))
    c.in_err-option.ensures.none)
