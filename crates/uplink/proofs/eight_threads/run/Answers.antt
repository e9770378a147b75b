-- A run by decisions alone is a run, which keeps the headline.
use Rattle.std.proofs.Common.{◌∷◌, []}
use Rattle.std.proofs.lemmas.Result.{IfOk-weaker}
use Rattle.receiver.specs.Items.{Incoming, incoming_from}
use Rattle.receiver.specs.Outcome.{IsOutcome}
use Rattle.receiver.specs.Ruled.{IsOutcomeBy}
use Rattle.loss_rule.specs.declared.rule.LossRule.TheVariants.{Decided}
use Rattle.uplink.specs.Headline.{KeepsTheHeadline}
use Rattle.uplink.proofs.eight_threads.run.Given.{Over}
use Rattle.uplink.proofs.eight_threads.run.Goals as goal
use Rattle.uplink.proofs.eight_threads.run.Goals.{After-run_by}

-- what comes in
abbrev incoming : (g : Over) → After-run_by g → Incoming
incoming g c =
    let sources = c.args.sources in
    incoming_from (g.S0.Source.gives sources.s0 ∷ g.S1.Source.gives sources.s1 ∷ g.S2.Source.gives sources.s2 ∷ g.S3.Source.gives sources.s3 ∷ [])
    (g.D.Decisions.decides c.args.decisions)

pub returns-clause-answer : goal.returns-clause-answer
returns-clause-answer g c =
    let check = g.C.HeaderCheck.accepts c.args.check in
    IfOk-weaker c.run_by.result
    (λ outcome. IsOutcomeBy Decided check c.args.setup (incoming g c) outcome.order.items outcome)
    (λ outcome. IsOutcome check c.args.setup (incoming g c) outcome.order.items outcome)
    (λ outcome is. c.replay_by_decisions_alone_is_a_replay.ensures.replay check c.args.setup (incoming g c) outcome.order.items outcome is)
    c.run_by.ensures.answer

pub returns-clause-headline : goal.returns-clause-headline
returns-clause-headline g c =
    let check = g.C.HeaderCheck.accepts c.args.check in
    IfOk-weaker c.run_by.result
    (λ outcome. IsOutcome check c.args.setup (incoming g c) outcome.order.items outcome)
    (λ outcome. KeepsTheHeadline check c.args.setup (incoming g c) outcome.order.items outcome)
    (λ outcome is. c.consumers_take_the_delivery_sequence.ensures.headline check c.args.setup (incoming g c) outcome.order.items outcome is)
    (returns-clause-answer g c)
