-- Each of what can be left is done.
use Rattle.std.proofs.Common.{◌≡◌, ◌≢◌, [], sym, ◌∙◌}
use Rattle.std.proofs.lemmas.Result.{IfOk-weaker}
use Rattle.bonded_flows.specs.Stands.{IsUpToDate, IsSettled}
use Rattle.bonded_flows.specs.Taking.{Takes}
use Rattle.bonded_flows.specs.declared.pending.Pending.TheVariants.{Close}
use Rattle.bonded_flows.proofs.GoneOn.{still-under_way, some-anyhow, only-Close, joined-goes-on, arrival-goes-on, slide-goes-on}
use Rattle.bonded_flows.proofs.bonded_flow.BondedFlow.go_on.Goals as goal

pub drain-requires : goal.drain-requires
drain-requires g c = some-anyhow (g.C.HeaderCheck.accepts c.args.check.now) c.args.self.now c.args.self.now.pending c.requires

pub slide-requires-clause-has_taken : goal.slide-requires-clause-has_taken
slide-requires-clause-has_taken g c = some-anyhow (g.C.HeaderCheck.accepts c.args.check.now) c.args.self.now c.replace.new.dest c.requires

pub arrive-requires-clause-has_taken : goal.arrive-requires-clause-has_taken
arrive-requires-clause-has_taken g c = some-anyhow (g.C.HeaderCheck.accepts c.args.check.now) c.args.self.now c.replace.new.dest c.requires

pub returns-in-Nothing-clause-takes : goal.returns-in-Nothing-clause-takes
returns-in-Nothing-clause-takes g c =
    joined-goes-on g.O.Consumer.after (g.C.HeaderCheck.accepts c.args.check.now) c.args.self.now c.drain.new.self c.args.out.now c.drain.new.out c.args.self.now.pending
    (sym c.drain.ensures.pending) c.drain.ensures.gives

pub returns-in_err-slide-in-Slide-clause-takes : goal.returns-in_err-slide-in-Slide-clause-takes
returns-in_err-slide-in-Slide-clause-takes g c =
    slide-goes-on g.O.Consumer.after (g.C.HeaderCheck.accepts c.args.check.now) c.args.self.now c.slide.new.self c.args.out.now c.slide.new.out c.replace.new.dest
    c.in-Slide.ready (sym c.replace.ensures.value ∙ c.in-Slide.is) c.slide.ensures.takes

pub returns-in_ok-slide-in-Slide-clause-takes : goal.returns-in_ok-slide-in-Slide-clause-takes
returns-in_ok-slide-in-Slide-clause-takes g c =
    slide-goes-on g.O.Consumer.after (g.C.HeaderCheck.accepts c.args.check.now) c.args.self.now c.slide.new.self c.args.out.now c.slide.new.out c.replace.new.dest
    c.in-Slide.ready (sym c.replace.ensures.value ∙ c.in-Slide.is) c.slide.ensures.takes

pub returns-in_err-arrive-in-Arrive-clause-takes : goal.returns-in_err-arrive-in-Arrive-clause-takes
returns-in_err-arrive-in-Arrive-clause-takes g c =
    arrival-goes-on g.O.Consumer.after (g.C.HeaderCheck.accepts c.args.check.now) c.args.self.now c.arrive.new.self c.args.out.now c.arrive.new.out c.replace.new.dest
    c.in-Arrive.ready (sym c.replace.ensures.value ∙ c.in-Arrive.is) c.arrive.ensures.takes

pub returns-in_ok-arrive-in-Arrive-clause-takes : goal.returns-in_ok-arrive-in-Arrive-clause-takes
returns-in_ok-arrive-in-Arrive-clause-takes g c =
    arrival-goes-on g.O.Consumer.after (g.C.HeaderCheck.accepts c.args.check.now) c.args.self.now c.arrive.new.self c.args.out.now c.arrive.new.out c.replace.new.dest
    c.in-Arrive.ready (sym c.replace.ensures.value ∙ c.in-Arrive.is) c.arrive.ensures.takes

pub returns-in-Nothing-clause-under_way : goal.returns-in-Nothing-clause-under_way
returns-in-Nothing-clause-under_way g c =
    still-under_way g.O.Consumer.after (g.C.HeaderCheck.accepts c.args.check.now) c.args.self.now c.drain.new.self c.args.out.now c.drain.new.out [] (returns-in-Nothing-clause-takes g c) c.requires

pub returns-in_err-slide-in-Slide-clause-under_way : goal.returns-in_err-slide-in-Slide-clause-under_way
returns-in_err-slide-in-Slide-clause-under_way g c =
    still-under_way g.O.Consumer.after (g.C.HeaderCheck.accepts c.args.check.now) c.args.self.now c.slide.new.self c.args.out.now c.slide.new.out [] (returns-in_err-slide-in-Slide-clause-takes g c) c.requires

pub returns-in_ok-slide-in-Slide-clause-under_way : goal.returns-in_ok-slide-in-Slide-clause-under_way
returns-in_ok-slide-in-Slide-clause-under_way g c =
    still-under_way g.O.Consumer.after (g.C.HeaderCheck.accepts c.args.check.now) c.args.self.now c.slide.new.self c.args.out.now c.slide.new.out [] (returns-in_ok-slide-in-Slide-clause-takes g c) c.requires

pub returns-in_err-arrive-in-Arrive-clause-under_way : goal.returns-in_err-arrive-in-Arrive-clause-under_way
returns-in_err-arrive-in-Arrive-clause-under_way g c =
    still-under_way g.O.Consumer.after (g.C.HeaderCheck.accepts c.args.check.now) c.args.self.now c.arrive.new.self c.args.out.now c.arrive.new.out [] (returns-in_err-arrive-in-Arrive-clause-takes g c) c.requires

pub returns-in_ok-arrive-in-Arrive-clause-under_way : goal.returns-in_ok-arrive-in-Arrive-clause-under_way
returns-in_ok-arrive-in-Arrive-clause-under_way g c =
    still-under_way g.O.Consumer.after (g.C.HeaderCheck.accepts c.args.check.now) c.args.self.now c.arrive.new.self c.args.out.now c.arrive.new.out [] (returns-in_ok-arrive-in-Arrive-clause-takes g c) c.requires

-- A flow that is being closed still is.
pub returns-in_default-replace : goal.returns-in_default-replace
returns-in_default-replace g c =
    let after = g.O.Consumer.after in
    let check = g.C.HeaderCheck.accepts c.args.check.now in
    let old = c.args.self.now in
    let two = c.drain-in_default-replace.new.self in
    let gone = c.drain-in_default-replace.ensures in
    let was = c.replace.ensures.value in
    let same : old.pending ≡ two.pending = sym was ∙ sym gone.pending in
    let closing : old.pending ≡ Close =
    only-Close old.pending c.in_default.not-Nothing (λ ready is. c.in_default-replace.not-Slide ready (was ∙ is)) (λ ready is. c.in_default-replace.not-Arrive ready (was ∙ is)) in
    let takes : Takes after check old c.args.out.now [] two c.drain-in_default-replace.new.out =
    joined-goes-on after check old two c.args.out.now c.drain-in_default-replace.new.out c.replace.result same gone.gives in
    record {
      takes = takes;
      under_way = still-under_way after check old two c.args.out.now c.drain-in_default-replace.new.out [] takes c.requires;
      settled = IfOk-weaker c.drain-in_default-replace.result (λ _. IsUpToDate two) (λ _. old.pending ≢ Close → IsSettled two) (λ x done other. absurd (other closing)) gone.up_to_date;
      closing = λ close. sym same ∙ close;
      open_still = λ other close. other (same ∙ close);
    }
