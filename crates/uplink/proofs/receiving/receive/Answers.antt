-- What the run came to is what was received, and both come back.
use Rattle.std.proofs.Common.{◌≡◌, ℕ, ◌<◌, Bool, List, [], Option, None, IfSome, Vec, Global, length, slice_get, refl, sym, subst, ◌∙◌}
use Rattle.std.proofs.lemmas.Option.{IfSome_then}
use Rattle.std.proofs.lemmas.Bool.{false≢true}
use Rattle.std.proofs.lemmas.Result.{IfOk-weaker, IfErr-weaker}
use Rattle.flow_core.specs.declared.counts.FlowCounts.{FlowCounts}
use Rattle.lane.specs.Inputs.{AnsweredInput}
use Rattle.loss_rule.specs.declared.rule.LossRule.{LossRule}
use Rattle.consumer.specs.declared.given.Given.{Given}
use Rattle.receiver.specs.declared.setup.Setup.{Setup}
use Rattle.receiver.specs.declared.tally.LaneTally.{LaneTally}
use Rattle.receiver.specs.Items.{Incoming}
use Rattle.receiver.specs.Tallies.{IsTallyOf}
use Rattle.workers.specs.declared.channel_input.ChannelInput.{ChannelInput}
use Rattle.workers.specs.Given.{BecameBy, Yields, HasGivenFirst}
use Rattle.workers.proofs.GivenInParts.{given-nothing}
use Rattle.uplink.specs.declared.finish.Concluded.{Concluded}
use Rattle.uplink.specs.declared.receiving.Received.{Received}
use Rattle.uplink.specs.declared.receiving.ReceiveError.{ReceiveError}
use Rattle.uplink.specs.Received.{CameFrom, IsAnswerBy, AreStraysOfSources, HasReceived, GivesBack, AreUntouched}
use Rattle.uplink.specs.Inside.Running.{HaveNotes, notes_on, HasRun, ConcludesAnswer}
use Rattle.uplink.proofs.receiving.receive.Given.{Over}
use Rattle.uplink.proofs.receiving.receive.Goals as goal
use Rattle.uplink.proofs.receiving.receive.Goals.{After-run_prepared-ran}

pub returns-in-Err-clause-given_back : goal.returns-in-Err-clause-given_back
returns-in-Err-clause-given_back g c = record {
  frames = [];
  requests = [];
  were_given = record {
    consumer_became = given-nothing g.F.Consumer.after c.args.consumer;
    scheduler_became = given-nothing g.Q.Consumer.after c.args.scheduler;
  };
  first = λ began. absurd (false≢true began);
  untouched = λ not. (refl, refl, refl);
}

-- where other notes are the same, it is the answer with these
tallied : {N : Type 0} (are_of : List AnsweredInput → N → Type 0) (channels : ℕ) (rule : LossRule) (check : List ℕ → Bool) (setup : Setup) (incoming : Incoming) (order : List ℕ)
    (frames requests : List Given) (counts : List FlowCounts) (notes others : ℕ → Option N) → ((channel : ℕ) → channel < channels → others channel ≡ notes channel)
    → IsAnswerBy are_of channels rule check setup incoming order frames requests counts notes → IsAnswerBy are_of channels rule check setup incoming order frames requests counts others
tallied are_of channels rule check setup incoming order frames requests counts notes others same answer = record {
  intake = answer.intake;
  frames_only = answer.frames_only;
  requests_only = answer.requests_only;
  flow_count = answer.flow_count;
  flows = answer.flows;
  requested = answer.requested;
  noted = λ channel below. let one = answer.noted channel below in (one.0, same channel below ∙ one.1, one.2);
}

-- this came in
abbrev CameIn : (g : Over) → After-run_prepared-ran g → List (List ChannelInput) → Incoming → Type 0
CameIn g c =
    let sources = c.args.sources in
    CameFrom (Yields g.S0.LiveSource.gave g.S0.LiveSource.is_over sources.s0) (Yields g.S1.LiveSource.gave g.S1.LiveSource.is_over sources.s1)
    (Yields g.S2.LiveSource.gave g.S2.LiveSource.is_over sources.s2) (Yields g.S3.LiveSource.gave g.S3.LiveSource.is_over sources.s3)
    (Yields g.D.LiveDecisions.gave g.D.LiveDecisions.is_over c.args.decisions)

-- and this came first
abbrev CameFirst : (g : Over) → After-run_prepared-ran g → List (List ChannelInput) → Incoming → Type 0
CameFirst g c =
    let sources = c.args.sources in
    CameFrom (HasGivenFirst g.S0.LiveSource.gave sources.s0) (HasGivenFirst g.S1.LiveSource.gave sources.s1)
    (HasGivenFirst g.S2.LiveSource.gave sources.s2) (HasGivenFirst g.S3.LiveSource.gave sources.s3)
    (HasGivenFirst g.D.LiveDecisions.gave c.args.decisions)

-- it ran
ran : (g : Over) (c : After-run_prepared-ran g)
    → HasRun g.F.Consumer.after g.Q.Consumer.after IsTallyOf c.args.width.channels c.args.rule (g.C.HeaderCheck.accepts c.args.check) c.args.setup (CameIn g c) (CameFirst g c) None
    (record { consumer = c.args.consumer; scheduler = c.args.scheduler }) c.run_prepared-ran.result
ran g c = c.run_prepared-ran.ensures (g.C.HeaderCheck.accepts c.args.check) c.args.width.channels c.args.rule c.in-Ok.ensures.opened

-- the lanes that were opened have notes
pub received_of-requires : goal.received_of-requires
received_of-requires g c =
    let before = (goal.at.received_of-requires g c).After-run_prepared-ran in
    subst (λ n. IfSome c.run_prepared-ran.result.concluded (λ concluded. HaveNotes n concluded.lanes)) (sym c.channels.ensures.is)
    (IfSome_then c.run_prepared-ran.result.concluded (ran g before).answers (λ concluded answers. answers.have_notes))

pub returns-clause-received : goal.returns-clause-received
returns-clause-received g c =
    let before = (goal.at.returns-clause-received g c).After-run_prepared-ran in
    let has = ran g before in
    let check = g.C.HeaderCheck.accepts c.args.check in
    let Receives : Received g.row.F.Denot g.row.Q.Denot → Type 0 =
    HasReceived g.F.Consumer.after g.Q.Consumer.after c.args.width.channels c.args.rule check c.args.setup (CameIn g before) c.args.consumer c.args.scheduler in
    IfOk-weaker c.received_of.result _ Receives
    (λ received of.
    let answers = subst (λ (o : Option (Concluded LaneTally)). IfSome o (ConcludesAnswer IsTallyOf c.args.width.channels c.args.rule check c.args.setup (CameIn g before) None has.frames has.requests)) of.1 has.answers in
    let is = of.2 in
    let channels = c.args.width.channels in
    let same : length received.lanes.items ≡ channels = is.lane_count ∙ c.channels.ensures.is in
    let answer : IsAnswerBy IsTallyOf channels c.args.rule check c.args.setup answers.incoming answers.order has.frames has.requests of.0.counts.items (slice_get received.lanes.items) =
    tallied IsTallyOf channels c.args.rule check c.args.setup answers.incoming answers.order has.frames has.requests of.0.counts.items (notes_on of.0.lanes) (slice_get received.lanes.items)
    (λ channel below. is.lanes_are channel (subst (λ n. channel < n) (sym c.channels.ensures.is) below)) answers.answer in
    record {
      sources = answers.sources;
      incoming = answers.incoming;
      came = answers.came;
      order = answers.order;
      in_turn = answers.in_turn;
      frames = has.frames;
      requests = has.requests;
      were_given = record {
        consumer_became = subst (BecameBy g.F.Consumer.after c.args.consumer has.frames) (sym of.2.consumer_is) has.were_given.consumer_became;
        scheduler_became = subst (BecameBy g.Q.Consumer.after c.args.scheduler has.requests) (sym of.2.scheduler_is) has.were_given.scheduler_became;
      };
      headline = c.consumers_take_the_delivery_sequence.ensures.given channels c.args.rule check c.args.setup answers.incoming answers.order has.frames has.requests
          of.0.counts.items (notes_on of.0.lanes) answers.answer;
      answer = subst (λ (counts : Vec FlowCounts Global). IsAnswerBy IsTallyOf channels c.args.rule check c.args.setup answers.incoming answers.order has.frames has.requests counts.items
          (slice_get received.lanes.items)) (sym is.flows_are) answer;
      lane_count = same;
      strays = subst (AreStraysOfSources channels answers.sources) (sym is.strays_are) answers.strays;
    })
    c.received_of.ensures.received

pub returns-clause-given_back : goal.returns-clause-given_back
returns-clause-given_back g c =
    let before = (goal.at.returns-clause-given_back g c).After-run_prepared-ran in
    let has = ran g before in
    let Back : ReceiveError g.row.F.Denot g.row.Q.Denot → Type 0 =
    GivesBack g.F.Consumer.after g.Q.Consumer.after c.args.width.channels c.args.rule (g.C.HeaderCheck.accepts c.args.check) c.args.setup (CameFirst g before) c.args.consumer c.args.scheduler in
    IfErr-weaker c.received_of.result _ Back
    (λ error is.
    subst Back (sym is)
    (record { frames = has.frames; requests = has.requests; were_given = has.were_given; first = has.first; untouched = λ not. absurd (not refl) }))
    c.received_of.ensures.not

pub returns-in-Err-clause-not_begun : goal.returns-in-Err-clause-not_begun
returns-in-Err-clause-not_begun g c = λ began. (refl, refl)

pub returns-clause-not_begun : goal.returns-clause-not_begun
returns-clause-not_begun g c =
    let has = ran g (goal.at.returns-clause-not_begun g c).After-run_prepared-ran in
    let Same : ReceiveError g.row.F.Denot g.row.Q.Denot → Type 0 = AreUntouched c.args.consumer c.args.scheduler in
    IfErr-weaker c.received_of.result _ Same (λ error is. subst Same (sym is) has.not_begun) c.received_of.ensures.not
