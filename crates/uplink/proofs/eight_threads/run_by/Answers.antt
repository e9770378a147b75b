-- What was collected is the outcome, which follows from what the receiver gave.
use Rattle.std.proofs.Common.{◌≡◌, ℕ, ◌<◌, ◌%◌, Some, slice_index_or, List, ◌∷◌, [], ◌++◌, length, refl, sym, ap, subst, ◌∙◌}
use Rattle.std.proofs.lemmas.List.{append-nil}
use Rattle.consumer.specs.Collecting.{HasNothing, HasCollected}
use Rattle.flow_records.specs.declared.decision.Decision.{Decision}
use Rattle.lane.specs.declared.input.Input.{Input}
use Rattle.lane.specs.Report.{IsReportOf}
use Rattle.lane.specs.Limits.{channel_limit}
use Rattle.receiver.proofs.Senders.{four}
use Rattle.receiver.specs.Items.{Incoming, incoming_from}
use Rattle.workers.specs.declared.channel_input.ChannelInput.{ChannelInput}
use Rattle.workers.specs.declared.live_source.Foreknown.{Foreknown}
use Rattle.workers.specs.declared.live_source.OnChannel.{OnChannel}
use Rattle.workers.specs.Channels.{all_on, given_on}
use Rattle.workers.specs.Given.{Yields, HasGivenFirst}
use Rattle.uplink.specs.Inside.Collected.{CanBeMade, IsMadeOf}
use Rattle.uplink.specs.Inside.Running.{HasRun}
use Rattle.uplink.specs.Received.{CameFrom}
use Rattle.uplink.proofs.CollectedOutcome.{can-be-made, answers, outcome-of-collected}
use Rattle.uplink.proofs.SourcesServed.{given-all}
use Rattle.uplink.proofs.eight_threads.run_by.Given.{Over}
use Rattle.uplink.proofs.eight_threads.run_by.Goals as goal
use Rattle.uplink.proofs.eight_threads.run_by.Goals.{After-deref}

-- a source gave these inputs, all of its channel, of which it is known before what it gives
abbrev Foretold : {S : Type 0} → (S → List Input) → OnChannel S → List ChannelInput → Type 0
Foretold {S} gives source given =
    Yields (λ (start : OnChannel S) (inputs : List ChannelInput) (now : OnChannel S). all_on start.channel (gives start.source) ≡ inputs ++ all_on now.channel (gives now.source))
    (λ (now : OnChannel S). gives now.source ≡ []) source given

abbrev ForetoldFirst : {S : Type 0} → (S → List Input) → OnChannel S → List ChannelInput → Type 0
ForetoldFirst {S} gives source given =
    HasGivenFirst (λ (start : OnChannel S) (inputs : List ChannelInput) (now : OnChannel S). all_on start.channel (gives start.source) ≡ inputs ++ all_on now.channel (gives now.source))
    source given

-- decisions of which it is known before what they are
abbrev ForeDecided : {D : Type 0} → (D → List Decision) → Foreknown D → List Decision → Type 0
ForeDecided {D} decides decisions given =
    Yields (λ (start : Foreknown D) (items : List Decision) (now : Foreknown D). decides start.0 ≡ items ++ decides now.0) (λ (now : Foreknown D). decides now.0 ≡ []) decisions given

abbrev ForeDecidedFirst : {D : Type 0} → (D → List Decision) → Foreknown D → List Decision → Type 0
ForeDecidedFirst {D} decides decisions given =
    HasGivenFirst (λ (start : Foreknown D) (items : List Decision) (now : Foreknown D). decides start.0 ≡ items ++ decides now.0) decisions given

-- that is what it gives
foretold : {S : Type 0} (gives : S → List Input) (source : OnChannel S) (channel : ℕ) (from : S) (given : List ChannelInput)
    → source ≡ record { channel = channel; source = from } → Foretold gives source given → given ≡ all_on channel (gives from)
foretold {S} gives source channel from given same yields =
    sym (ap (λ (s : OnChannel S). all_on s.channel (gives s.source)) (sym same) ∙ yields.became source [] refl
    ∙ ap (λ l. given ++ all_on yields.end.channel l) yields.over ∙ append-nil given)

foredecided : {D : Type 0} (decides : D → List Decision) (decisions : Foreknown D) (given : List Decision) → ForeDecided decides decisions given → given ≡ decides decisions.0
foredecided decides decisions given yields =
    sym (yields.became decisions [] refl ∙ ap (λ l. given ++ l) yields.over ∙ append-nil given)

-- what comes in
abbrev incoming : (g : Over) → After-deref g → Incoming
incoming g c =
    let sources = c.args.sources in
    incoming_from (g.S0.Source.gives sources.s0 ∷ g.S1.Source.gives sources.s1 ∷ g.S2.Source.gives sources.s2 ∷ g.S3.Source.gives sources.s3 ∷ [])
    (g.D.Decisions.decides c.args.decisions)

-- this came in
abbrev CameIn : (g : Over) → After-deref g → List (List ChannelInput) → Incoming → Type 0
CameIn g c =
    let sources = c.on_four_channels.result in
    CameFrom (Foretold g.S0.Source.gives sources.s0) (Foretold g.S1.Source.gives sources.s1) (Foretold g.S2.Source.gives sources.s2) (Foretold g.S3.Source.gives sources.s3)
    (ForeDecided g.D.Decisions.decides (record { 0 = c.args.decisions }))

-- and this first, if an allocation failed
abbrev CameFirst : (g : Over) → After-deref g → List (List ChannelInput) → Incoming → Type 0
CameFirst g c =
    let sources = c.on_four_channels.result in
    CameFrom (ForetoldFirst g.S0.Source.gives sources.s0) (ForetoldFirst g.S1.Source.gives sources.s1) (ForetoldFirst g.S2.Source.gives sources.s2)
    (ForetoldFirst g.S3.Source.gives sources.s3) (ForeDecidedFirst g.D.Decisions.decides (record { 0 = c.args.decisions }))

module _ (g : Over) (c : After-deref g) (sources : List (List ChannelInput)) (came : Incoming) (from : CameIn g c sources came) where
  -- each channel's inputs came in
  inputs-are : (channel : ℕ) → channel < channel_limit → came.inputs channel ≡ (incoming g c).inputs channel
  inputs-are =
      let four_sources = c.on_four_channels.result in
      let is = c.on_four_channels.ensures in
      let at : (channel : ℕ) (given : List ChannelInput) (inputs : List Input) → slice_index_or sources (channel % 4) [] ≡ given → given ≡ all_on channel inputs → came.inputs channel ≡ inputs =
      λ channel given inputs there same.
      ap (λ (i : Incoming). i.inputs channel) from.incoming_is ∙ ap (given_on channel) (there ∙ same) ∙ given-all channel inputs in
      let there : (source : ℕ) → slice_index_or sources source [] ≡ slice_index_or (from.i0 ∷ from.i1 ∷ from.i2 ∷ from.i3 ∷ []) source [] =
      λ source. ap (λ (l : List (List ChannelInput)). slice_index_or l source []) from.sources_are in
      four (λ channel. came.inputs channel ≡ (incoming g c).inputs channel)
      (at 0 from.i0 (g.S0.Source.gives c.args.sources.s0) (there 0) (foretold g.S0.Source.gives four_sources.s0 0 c.args.sources.s0 from.i0 is.s0 from.gave0))
      (at 1 from.i1 (g.S1.Source.gives c.args.sources.s1) (there 1) (foretold g.S1.Source.gives four_sources.s1 1 c.args.sources.s1 from.i1 is.s1 from.gave1))
      (at 2 from.i2 (g.S2.Source.gives c.args.sources.s2) (there 2) (foretold g.S2.Source.gives four_sources.s2 2 c.args.sources.s2 from.i2 is.s2 from.gave2))
      (at 3 from.i3 (g.S3.Source.gives c.args.sources.s3) (there 3) (foretold g.S3.Source.gives four_sources.s3 3 c.args.sources.s3 from.i3 is.s3 from.gave3))

  decisions-are : came.decisions ≡ (incoming g c).decisions
  decisions-are =
      ap (λ (i : Incoming). i.decisions) from.incoming_is
      ∙ foredecided g.D.Decisions.decides (record { 0 = c.args.decisions }) from.decisions from.gave_decisions

-- it ran, from nothing kept on
record Ran (g : Over) (c : After-deref g) : Type 0 where
  pub run : HasRun (λ start given now. HasCollected start.collected given now.collected) (λ start given now. HasCollected start.collected given now.collected)
      IsReportOf channel_limit c.args.rule (g.C.HeaderCheck.accepts c.args.check) c.args.setup (CameIn g c) (CameFirst g c) (Some c.new.result) c.in_ok-consumers.consumers c.run_prepared-ran.result
  pub no_frames : HasNothing (length c.args.setup.flows.items) 0 c.in_ok-consumers.consumers.consumer.collected

ran : (g : Over) (c : After-deref g) → Ran g c
ran g c = record {
  run = c.run_prepared-ran.ensures (g.C.HeaderCheck.accepts c.args.check) channel_limit c.args.rule c.in_ok-opened.ensures.opened;
  no_frames =
      subst (λ count. HasNothing count 0 c.in_ok-consumers.consumers.consumer.collected) (c.len.ensures ∙ c.args.setup.flows.ok.0) c.in_ok-consumers.ensures.frames;
}

pub outcome_of-requires : goal.outcome_of-requires
outcome_of-requires g c =
    let has = ran g c in
    subst (λ records. CanBeMade (length records) c.run_prepared-ran.result.consumers.consumer.collected c.run_prepared-ran.result.consumers.scheduler.collected
    c.run_prepared-ran.result.concluded) (sym c.deref.ensures.value)
    (can-be-made c.args.rule (g.C.HeaderCheck.accepts c.args.check) c.args.setup (CameIn g c) (CameFirst g c) c.new.result c.new.ensures.items c.in_ok-consumers.consumers
    c.run_prepared-ran.result has.run has.no_frames c.in_ok-consumers.ensures.requests)

pub returns-clause-answer : goal.returns-clause-answer
returns-clause-answer g c =
    let before = (goal.at.returns-clause-answer g c).After-deref in
    let check = g.C.HeaderCheck.accepts c.args.check in
    let has = ran g before in
    let outcome = c.in_ok-outcome_of.field-0 in
    let made = subst (λ records. IsMadeOf records c.run_prepared-ran.result.consumers.consumer.collected c.run_prepared-ran.result.consumers.scheduler.collected
    c.run_prepared-ran.result.concluded outcome) c.deref.ensures.value c.in_ok-outcome_of.ensures in
    let given = answers c.args.rule check c.args.setup (CameIn g before) (CameFirst g before) c.new.result c.new.ensures.items c.in_ok-consumers.consumers
    c.run_prepared-ran.result has.run has.no_frames c.in_ok-consumers.ensures.requests outcome made in
    outcome-of-collected c.args.rule check c.args.setup (CameIn g before) (CameFirst g before) c.new.result c.new.ensures.items c.in_ok-consumers.consumers
    c.run_prepared-ran.result has.run has.no_frames c.in_ok-consumers.ensures.requests outcome made
    (incoming g before) (inputs-are g before given.sources given.incoming given.came) (decisions-are g before given.sources given.incoming given.came)

pub returns-clause-headline : goal.returns-clause-headline
returns-clause-headline g c =
    let check = g.C.HeaderCheck.accepts c.args.check in
    let before = (goal.at.returns-clause-headline g c).After-deref in
    let outcome = c.in_ok-outcome_of.field-0 in
    c.consumers_take_the_delivery_sequence.ensures.by_rule c.args.rule check c.args.setup (incoming g before) outcome.order.items outcome (returns-clause-answer g c)
