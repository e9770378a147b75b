-- It is noted, what was passed is skipped, and the rest is done.
use Rattle.std.proofs.Common.{ℕ, Option, [], ◌∷◌, ap, sym, ◌∙◌}
use Rattle.std.specs.Option.{option_or}
use Rattle.std.proofs.lemmas.Result.{IfOk-from_err}
use Rattle.loss_rule.specs.Rule.{on_channel}
use Rattle.bonded_flows.proofs.GoneOn.{still-under_way}
use Rattle.bonded_flows.proofs.SegmentsTaken.{some-stepped, slid-takes, arrived-takes, slid-told, arrived-told}
use Rattle.bonded_flows.proofs.bonded_flow.BondedFlow.take_segment.Goals as goal

pub slide-requires-clause-has_taken : goal.slide-requires-clause-has_taken
slide-requires-clause-has_taken g c =
    some-stepped (g.C.HeaderCheck.accepts c.args.check.now) c.args.self.now c.skip_passed-skipped_to.new.self c.args.channel c.args.segment c.skip_passed-skipped_to.result
    c.requires.settled c.skip_passed-skipped_to.ensures.skips c.requires.under_way

pub returns-in_err-told-clause-takes : goal.returns-in_err-told-clause-takes
returns-in_err-told-clause-takes g c =
    slid-takes (g.C.HeaderCheck.accepts c.args.check.now) c.args.self.now c.skip_passed-skipped_to.new.self c.args.channel c.args.segment c.skip_passed-skipped_to.result
    c.requires.settled c.skip_passed-skipped_to.ensures.skips g.O.Consumer.after c.slide.new.self c.args.out.now c.slide.new.out c.skip_passed-skipped_to.ensures.index
    (sym c.skip_passed-skipped_to.ensures.rule ∙ c.in-PassedOrSlid.is) c.slide.ensures.takes

pub returns-in_err-told-clause-under_way : goal.returns-in_err-told-clause-under_way
returns-in_err-told-clause-under_way g c =
    still-under_way g.O.Consumer.after (g.C.HeaderCheck.accepts c.args.check.now) c.args.self.now c.slide.new.self c.args.out.now c.slide.new.out
    (on_channel c.args.channel c.args.segment ∷ []) (returns-in_err-told-clause-takes g c) c.requires.under_way

pub returns-in-PassedOrSlid-clause-takes : goal.returns-in-PassedOrSlid-clause-takes
returns-in-PassedOrSlid-clause-takes g c =
    slid-takes (g.C.HeaderCheck.accepts c.args.check.now) c.args.self.now c.skip_passed-skipped_to.new.self c.args.channel c.args.segment c.skip_passed-skipped_to.result
    c.requires.settled c.skip_passed-skipped_to.ensures.skips g.O.Consumer.after c.slide.new.self c.args.out.now c.slide.new.out c.skip_passed-skipped_to.ensures.index
    (sym c.skip_passed-skipped_to.ensures.rule ∙ c.in-PassedOrSlid.is) c.slide.ensures.takes

pub returns-in-PassedOrSlid-clause-under_way : goal.returns-in-PassedOrSlid-clause-under_way
returns-in-PassedOrSlid-clause-under_way g c =
    still-under_way g.O.Consumer.after (g.C.HeaderCheck.accepts c.args.check.now) c.args.self.now c.slide.new.self c.args.out.now c.slide.new.out
    (on_channel c.args.channel c.args.segment ∷ []) (returns-in-PassedOrSlid-clause-takes g c) c.requires.under_way

pub returns-in-PassedOrSlid-clause-told : goal.returns-in-PassedOrSlid-clause-told
returns-in-PassedOrSlid-clause-told g c =
    let passed = c.skip_passed-skipped_to.result in
    slid-told (g.C.HeaderCheck.accepts c.args.check.now) c.args.self.now c.skip_passed-skipped_to.new.self c.args.channel c.args.segment passed
    c.requires.settled c.skip_passed-skipped_to.ensures.skips c.in_ok-told.told.verdict c.or.result
    (sym c.skip_passed-skipped_to.ensures.rule ∙ c.in-PassedOrSlid.is) c.in_ok-told.told.skipped_to c.in_ok-told.ensures.told
    (λ none. c.or.ensures ∙ ap (λ (slid : Option ℕ). option_or slid passed) none)
    (λ number some. c.or.ensures ∙ ap (λ (slid : Option ℕ). option_or slid passed) some ∙ sym some)

pub arrive-requires : goal.arrive-requires
arrive-requires g c = record {
  has_taken = some-stepped (g.C.HeaderCheck.accepts c.args.check.now) c.args.self.now c.skip_passed-skipped_to.new.self c.args.channel c.args.segment
      c.skip_passed-skipped_to.result c.requires.settled c.skip_passed-skipped_to.ensures.skips c.requires.under_way;
  nothing_left = c.skip_passed-skipped_to.ensures.pending ∙ c.requires.settled.nothing_left;
  ready = c.requires.ready;
}

pub returns-in_err-verdict : goal.returns-in_err-verdict
returns-in_err-verdict g c =
    let takes = arrived-takes (g.C.HeaderCheck.accepts c.args.check.now) c.args.self.now c.skip_passed-skipped_to.new.self c.args.channel c.args.segment
    c.skip_passed-skipped_to.result c.requires.settled c.skip_passed-skipped_to.ensures.skips g.O.Consumer.after c.arrive.new.self c.args.out.now c.arrive.new.out
    c.skip_passed-skipped_to.ensures.index (λ slid. c.in_default.not-PassedOrSlid (c.skip_passed-skipped_to.ensures.rule ∙ slid)) c.arrive.ensures.takes in
    record {
      takes = takes;
      under_way = still-under_way g.O.Consumer.after (g.C.HeaderCheck.accepts c.args.check.now) c.args.self.now c.arrive.new.self c.args.out.now c.arrive.new.out
          (on_channel c.args.channel c.args.segment ∷ []) takes c.requires.under_way;
      told = IfOk-from_err c.from_residual-in_err-verdict.result _ c.from_residual-in_err-verdict.ensures.0;
      settled = IfOk-from_err c.from_residual-in_err-verdict.result _ c.from_residual-in_err-verdict.ensures.0;
      open_still = c.arrive.ensures.open_still;
    }

pub returns : goal.returns
returns g c =
    let takes = arrived-takes (g.C.HeaderCheck.accepts c.args.check.now) c.args.self.now c.skip_passed-skipped_to.new.self c.args.channel c.args.segment
    c.skip_passed-skipped_to.result c.requires.settled c.skip_passed-skipped_to.ensures.skips g.O.Consumer.after c.arrive.new.self c.args.out.now c.arrive.new.out
    c.skip_passed-skipped_to.ensures.index (λ slid. c.in_default.not-PassedOrSlid (c.skip_passed-skipped_to.ensures.rule ∙ slid)) c.arrive.ensures.takes in
    record {
      takes = takes;
      under_way = still-under_way g.O.Consumer.after (g.C.HeaderCheck.accepts c.args.check.now) c.args.self.now c.arrive.new.self c.args.out.now c.arrive.new.out
          (on_channel c.args.channel c.args.segment ∷ []) takes c.requires.under_way;
      told = arrived-told (g.C.HeaderCheck.accepts c.args.check.now) c.args.self.now c.skip_passed-skipped_to.new.self c.args.channel c.args.segment
          c.skip_passed-skipped_to.result c.requires.settled c.skip_passed-skipped_to.ensures.skips c.in_ok-verdict.verdict c.skip_passed-skipped_to.result
          (λ slid. c.in_default.not-PassedOrSlid (c.skip_passed-skipped_to.ensures.rule ∙ slid)) c.in_ok-verdict.ensures.told;
      settled = c.in_ok-verdict.ensures.settled;
      open_still = c.arrive.ensures.open_still;
    }
