-- What was opened is settled once all threads returned, and the answer follows from what they did.
use Rattle.std.proofs.Common.{◌≡◌, ℕ, Bool, Option, Some, None, IfSome, IsTrue, is_some, List, length, refl, sym, ap, subst, ◌∙◌}
use Rattle.std.proofs.lemmas.Bool.{false≢true}
use Rattle.receiver.specs.Items.{Incoming}
use Rattle.loss_rule.specs.declared.rule.LossRule.{LossRule}
use Rattle.workers.specs.declared.channel_input.ChannelInput.{ChannelInput}
use Rattle.workers.specs.Given.{Yields, HasGivenFirst}
use Rattle.uplink.specs.declared.finish.Ended.{Ended}
use Rattle.uplink.specs.declared.finish.Concluded.{Concluded}
use Rattle.uplink.specs.Inside.Running.{IsOpened, AllNoted, HasEndedOn, HasConcluded, IsConclusionOf, ConcludesAnswer}
use Rattle.uplink.specs.Channels.{incoming_of_sources}
use Rattle.uplink.specs.Received.{CameFrom, GivesTheFirst}
use Rattle.uplink.proofs.RunAnswer.{can-settle, first-given, run-answers}
use Rattle.uplink.proofs.receiving.run_prepared.Given.{Over}
use Rattle.uplink.proofs.receiving.run_prepared.Goals as goal
use Rattle.uplink.proofs.receiving.run_prepared.Goals.{After-run_opened-consumers, in-Some, in-None}

-- this came in
abbrev CameIn : (g : Over) → After-run_opened-consumers g → List (List ChannelInput) → Incoming → Type 0
CameIn g c =
    let sources = c.args.sources in
    CameFrom (Yields g.S0.LiveSource.gave g.S0.LiveSource.is_over sources.s0) (Yields g.S1.LiveSource.gave g.S1.LiveSource.is_over sources.s1)
    (Yields g.S2.LiveSource.gave g.S2.LiveSource.is_over sources.s2) (Yields g.S3.LiveSource.gave g.S3.LiveSource.is_over sources.s3)
    (Yields g.D.LiveDecisions.gave g.D.LiveDecisions.is_over c.args.decisions)

-- and this came first
abbrev CameFirst : (g : Over) → After-run_opened-consumers g → List (List ChannelInput) → Incoming → Type 0
CameFirst g c =
    let sources = c.args.sources in
    CameFrom (HasGivenFirst g.S0.LiveSource.gave sources.s0) (HasGivenFirst g.S1.LiveSource.gave sources.s1)
    (HasGivenFirst g.S2.LiveSource.gave sources.s2) (HasGivenFirst g.S3.LiveSource.gave sources.s3)
    (HasGivenFirst g.D.LiveDecisions.gave c.args.decisions)

-- the threads have returned, of so many channels and flows
abbrev HasReturned : (g : Over) → After-run_opened-consumers g → ℕ → ℕ → Ended g.row.N.Denot → Type 0
HasReturned g c channels count =
    HasEndedOn g.N.LaneNotes.are_of g.C.HeaderCheck.accepts channels count (CameIn g c) (CameFirst g c) c.args.opened c.args.order c.run_opened-consumers.ensures.frames
    c.run_opened-consumers.ensures.requests

returned : (g : Over) (c : After-run_opened-consumers g) (channels : ℕ) → c.args.opened.channels ≡ channels → (end : Ended g.row.N.Denot)
    → c.run_opened-consumers.result.1 ≡ Some end → HasReturned g c channels (length c.args.setup.now.flows.items) end
returned g c channels same end is =
    subst (λ n. HasReturned g c n (length c.args.setup.now.flows.items) end) same
    (subst (λ count. HasReturned g c c.args.opened.channels count end) (c.len-flow_count.ensures ∙ c.args.setup.now.flows.ok.0)
    (subst (λ (o : Option (Ended g.row.N.Denot)). IfSome o (HasReturned g c c.args.opened.channels c.len-flow_count.result)) is c.run_opened-consumers.ensures.has_ended))

pub conclude-concluded-requires : goal.conclude-concluded-requires
conclude-concluded-requires g c =
    let own = c.requires in
    let before = (goal.at.conclude-concluded-requires g c).After-run_opened-consumers in
    let has = returned g before own.1 own.3.channels_are c.in-Some.end c.in-Some.is in
    can-settle g.N.LaneNotes.are_of g.C.HeaderCheck.accepts own.0 own.1 own.2 c.args.setup.now c.args.opened own.3 has.sources has.decisions c.args.order
    c.run_opened-consumers.ensures.frames has.sent c.in-Some.end has.has_ended

-- no allocation failed where something was concluded
noted-all : {N : Type 0} (end : Ended N) (concluded : Concluded N) → IsConclusionOf end concluded → AllNoted end
noted-all end concluded says =
    let there : (o : Option _) (n : _) → o ≡ Some n → IsTrue (is_some o) = λ o n is. ap is_some is in
    record {
      l0 = there end.done.l0.notes concluded.lanes.n0 says.noted0;
      l1 = there end.done.l1.notes concluded.lanes.n1 says.noted1;
      l2 = there end.done.l2.notes concluded.lanes.n2 says.noted2;
      l3 = there end.done.l3.notes concluded.lanes.n3 says.noted3;
    }

-- what was concluded is the answer
answer-of : (g : Over) (c : After-run_opened-consumers g) (accepted : List ℕ → Bool) (channels : ℕ) (rule : LossRule)
    → (is : IsOpened g.C.HeaderCheck.accepts accepted channels rule c.args.setup.now c.args.opened) (end : Ended g.row.N.Denot) (has : HasReturned g c channels (length c.args.setup.now.flows.items) end)
    → (result : Option (Concluded g.row.N.Denot)) (settled : HasConcluded end result) (o : Option (Concluded g.row.N.Denot)) → IfSome o (IsConclusionOf end)
    → IfSome o (ConcludesAnswer g.N.LaneNotes.are_of channels rule accepted c.args.setup.now (CameIn g c) c.args.order c.run_opened-consumers.ensures.frames c.run_opened-consumers.ensures.requests)
answer-of g c accepted channels rule is end has result settled None says = tt
answer-of g c accepted channels rule is end has result settled (Some concluded) says =
    let ran = c.run_opened-consumers.ensures in
    run-answers g.N.LaneNotes.are_of g.C.HeaderCheck.accepts accepted channels rule c.args.setup.now c.args.opened is has.sources has.decisions c.args.order ran.frames has.sent end has.has_ended
    result settled concluded says ran.requests has.requests_are (CameIn g c) (has.came (noted-all end concluded says))

pub returns : goal.returns
returns g c = λ accepted channels rule is.
    let before = (goal.at.returns g c).After-run_opened-consumers in
    let ran = c.run_opened-consumers.ensures in
    let Answers : Option (Concluded g.row.N.Denot) → Type 0 =
    λ o. IfSome o (ConcludesAnswer g.N.LaneNotes.are_of channels rule accepted c.args.setup.now (CameIn g before) c.args.order ran.frames ran.requests) in
    let First : Type 0 = (sources : List (List ChannelInput)) × (incoming : Incoming) × CameFirst g before sources incoming
    × GivesTheFirst channels rule accepted c.args.setup.now incoming ran.frames ran.requests in
    let laws = c.flows_have_given_what_comes_first.ensures in
    record {
      frames = ran.frames;
      requests = ran.requests;
      were_given = ran.were_given;
      first = elim c.match-ended.branch [
        | in-Some w ↦
            let has = returned g before channels is.channels_are w.in-Some.end w.in-Some.is in
            λ began. (
              has.sources,
              incoming_of_sources has.sources has.decisions,
              has.came_so_far,
              first-given g.N.LaneNotes.are_of g.C.HeaderCheck.accepts accepted channels rule c.args.setup.now c.args.opened is has.sources has.decisions c.args.order ran.frames has.sent w.in-Some.end
                  has.has_ended w.conclude-concluded.result w.conclude-concluded.ensures laws.under_way laws.closed ran.requests has.requests_are,
            )
        | in-None w ↦ λ began. absurd (false≢true (sym (c.is_some-began.ensures ∙ ap is_some w.in-None.is) ∙ began))
      ];
      answers = elim c.match-ended.branch [
        | in-Some w ↦
            let end = w.in-Some.end in
            let has = returned g before channels is.channels_are end w.in-Some.is in
            let Says : Option (Concluded g.row.N.Denot) → Type 0 = λ o. IfSome o (IsConclusionOf end) in
            let answer : (o : Option (Concluded g.row.N.Denot)) → w.conclude-concluded.result ≡ o → Says o → Answers o =
            λ o same. answer-of g before accepted channels rule is end has w.conclude-concluded.result w.conclude-concluded.ensures o in
            subst Answers (sym w.concluded-is) (answer w.conclude-concluded.result refl w.conclude-concluded.ensures.is)
        | in-None w ↦ subst Answers (sym w.concluded-is) tt
      ];
      not_begun = elim c.match-ended.branch [
        | in-Some w ↦ λ not. absurd (false≢true (sym not ∙ (c.is_some-began.ensures ∙ ap is_some w.in-Some.is)))
        | in-None w ↦ λ not. ran.not_begun w.in-None.is
      ];
    }
