-- Each worker has done what it was given to do; and both come back, as they were where the workers
-- could not be started.
use Rattle.std.proofs.Common.{Option, Some, None, ◌≡◌, ◌∷◌, [], ◌++◌, IfSome, IsTrue, is_some, List, refl, sym, ap, subst, ◌∙◌, append-nil}
use Rattle.std.proofs.lemmas.Bool.{false≢true}
use Rattle.lane.specs.Inputs.{AnsweredInput}
use Rattle.workers.specs.declared.channel_input.ChannelInput.{ChannelInput}
use Rattle.workers.specs.declared.team.Done.{Done}
use Rattle.workers.specs.declared.lane_notes.SourceNotes.{SourceNotes}
use Rattle.workers.specs.declared.lane_worker.LaneWork.{LaneWork}
use Rattle.workers.specs.declared.lane_worker.LaneDone.{LaneDone}
use Rattle.workers.specs.declared.decision_worker.DecidingWork.{DecidingWork}
use Rattle.workers.specs.declared.frame_worker.FrameWork.{FrameWork}
use Rattle.workers.specs.declared.request_worker.RequestWork.{RequestWork}
use Rattle.workers.specs.declared.work.Work.{Work}
use Rattle.workers.specs.Given.{BecameBy, Yields, HasGivenFirst}
use Rattle.workers.proofs.GivenInParts.{given-nothing}
use Rattle.workers.specs.Inside.Consuming.{HaveTakenAll}
use Rattle.workers.specs.Inside.Scheduling.{given_of, HasTakenAll}
use Rattle.workers.specs.Inside.Working.{DidServe, DidDecideAll}
use Rattle.uplink.specs.Channels.{incoming_of_sources}
use Rattle.uplink.specs.Received.{CameFrom}
use Rattle.uplink.proofs.receiving.run_opened.Given.{Over}
use Rattle.uplink.proofs.receiving.run_opened.Goals as goal
use Rattle.uplink.proofs.receiving.run_opened.Goals.{After-join-consumers}

-- what all workers are to work with
abbrev AllWork : Over → Type 0
AllWork g = Work g.row.S0.Denot g.row.S1.Denot g.row.S2.Denot g.row.S3.Denot g.row.D.Denot g.row.F.Denot g.row.Q.Denot

pub returns-in-Err : goal.returns-in-Err
returns-in-Err g c =
    let back = c.in-Err.ensures.given_back in
    let consumer : c.in-Err.back.frames.consumer ≡ c.args.consumers.consumer =
    ap (λ (work : AllWork g). work.frames.consumer) back ∙ ap (λ (work : FrameWork g.row.F.Denot). work.consumer) c.new-work.ensures.frames in
    let scheduler : c.in-Err.back.requests.scheduler ≡ c.args.consumers.scheduler =
    ap (λ (work : AllWork g). work.requests.scheduler) back ∙ ap (λ (work : RequestWork g.row.Q.Denot). work.scheduler) c.new-work.ensures.requests in
    record {
      frames = [];
      requests = [];
      were_given = record {
        consumer_became = subst (BecameBy g.F.Consumer.after c.args.consumers.consumer []) (sym consumer) (given-nothing g.F.Consumer.after c.args.consumers.consumer);
        scheduler_became = subst (BecameBy g.Q.Consumer.after c.args.consumers.scheduler []) (sym scheduler) (given-nothing g.Q.Consumer.after c.args.consumers.scheduler);
      };
      has_ended = tt;
      not_begun = λ none. (consumer, scheduler);
    }

-- what is said of what is there, where something is
of-done : {X : Type 0} (P : X → Type 0) (ended : Option X) (x : X) → ended ≡ Some x → IfSome ended P → P x
of-done P ended x is said = subst (λ o. IfSome o P) is said

-- a source whose worker noted all has given all
all-given : {S N : Type 0} (are_of : List AnsweredInput → N → Type 0) (gave : S → List ChannelInput → S → Type 0) (is_over : S → Type 0) (work : LaneWork S) (done : LaneDone N)
    → (serves : DidServe are_of gave is_over work done) → (notes : Option (SourceNotes N)) → done.notes ≡ notes → IsTrue (is_some notes)
    → Yields gave is_over work.source serves.inputs
all-given are_of gave is_over work done serves None is noted = absurd (false≢true noted)
all-given are_of gave is_over work done serves (Some n) is noted =
    let over = of-done (λ _. (serves.unanswered ≡ []) × is_over serves.end) done.notes n is serves.over in
    record {
      end = serves.end;
      became =
          subst (λ given. BecameBy gave work.source given serves.end) (ap (λ l. serves.inputs ++ l) over.0 ∙ append-nil serves.inputs) serves.became;
      over = over.1;
    }

module _ (g : Over) (c : After-join-consumers g) where
  abbrev done : Done g.row.N.Denot
  done = c.join-consumers.result.done

  -- what the workers of the channels and of the decisions have done, each with what it was given
  served0 : DidServe g.N.LaneNotes.are_of g.S0.LiveSource.gave g.S0.LiveSource.is_over
      (record { lanes = c.args.opened.lanes.l0; arrivals = c.args.opened.arrivals.ports.p0; requests = c.args.opened.requests.ports.p0; source = c.args.sources.s0 }) done.l0
  served0 =
      subst (λ (work : LaneWork g.row.S0.Denot). DidServe g.N.LaneNotes.are_of g.S0.LiveSource.gave g.S0.LiveSource.is_over work done.l0)
      (c.in-Ok.ensures.l0 ∙ c.new-work.ensures.l0) c.join-consumers.ensures.l0

  served1 : DidServe g.N.LaneNotes.are_of g.S1.LiveSource.gave g.S1.LiveSource.is_over
      (record { lanes = c.args.opened.lanes.l1; arrivals = c.args.opened.arrivals.ports.p1; requests = c.args.opened.requests.ports.p1; source = c.args.sources.s1 }) done.l1
  served1 =
      subst (λ (work : LaneWork g.row.S1.Denot). DidServe g.N.LaneNotes.are_of g.S1.LiveSource.gave g.S1.LiveSource.is_over work done.l1)
      (c.in-Ok.ensures.l1 ∙ c.new-work.ensures.l1) c.join-consumers.ensures.l1

  served2 : DidServe g.N.LaneNotes.are_of g.S2.LiveSource.gave g.S2.LiveSource.is_over
      (record { lanes = c.args.opened.lanes.l2; arrivals = c.args.opened.arrivals.ports.p2; requests = c.args.opened.requests.ports.p2; source = c.args.sources.s2 }) done.l2
  served2 =
      subst (λ (work : LaneWork g.row.S2.Denot). DidServe g.N.LaneNotes.are_of g.S2.LiveSource.gave g.S2.LiveSource.is_over work done.l2)
      (c.in-Ok.ensures.l2 ∙ c.new-work.ensures.l2) c.join-consumers.ensures.l2

  served3 : DidServe g.N.LaneNotes.are_of g.S3.LiveSource.gave g.S3.LiveSource.is_over
      (record { lanes = c.args.opened.lanes.l3; arrivals = c.args.opened.arrivals.ports.p3; requests = c.args.opened.requests.ports.p3; source = c.args.sources.s3 }) done.l3
  served3 =
      subst (λ (work : LaneWork g.row.S3.Denot). DidServe g.N.LaneNotes.are_of g.S3.LiveSource.gave g.S3.LiveSource.is_over work done.l3)
      (c.in-Ok.ensures.l3 ∙ c.new-work.ensures.l3) c.join-consumers.ensures.l3

  passed_on : DidDecideAll g.D.LiveDecisions.gave g.D.LiveDecisions.is_over
      (record { sender = c.args.opened.channels; flow_count = c.args.flow_count; arrivals = c.args.opened.arrivals.ports.p4; decisions = c.args.decisions }) done.decided
  passed_on =
      subst (λ (work : DecidingWork g.row.D.Denot). DidDecideAll g.D.LiveDecisions.gave g.D.LiveDecisions.is_over work done.decided)
      (c.in-Ok.ensures.decider ∙ c.new-work.ensures.decisions) c.join-consumers.ensures.decided

  -- what the sources gave
  abbrev given_all : List (List ChannelInput)
  given_all = served0.inputs ∷ served1.inputs ∷ served2.inputs ∷ served3.inputs ∷ []

  -- what came in, if no allocation failed in a source's worker
  came : IsTrue (is_some done.l0.notes) → IsTrue (is_some done.l1.notes) → IsTrue (is_some done.l2.notes) → IsTrue (is_some done.l3.notes)
      → CameFrom
      (Yields g.S0.LiveSource.gave g.S0.LiveSource.is_over c.args.sources.s0) (Yields g.S1.LiveSource.gave g.S1.LiveSource.is_over c.args.sources.s1)
      (Yields g.S2.LiveSource.gave g.S2.LiveSource.is_over c.args.sources.s2) (Yields g.S3.LiveSource.gave g.S3.LiveSource.is_over c.args.sources.s3)
      (Yields g.D.LiveDecisions.gave g.D.LiveDecisions.is_over c.args.decisions)
      given_all (incoming_of_sources given_all passed_on.decisions)
  came noted0 noted1 noted2 noted3 = record {
    i0 = served0.inputs;
    i1 = served1.inputs;
    i2 = served2.inputs;
    i3 = served3.inputs;
    decisions = passed_on.decisions;
    sources_are = refl;
    incoming_is = refl;
    gave0 = all-given g.N.LaneNotes.are_of g.S0.LiveSource.gave g.S0.LiveSource.is_over _ done.l0 served0 done.l0.notes refl noted0;
    gave1 = all-given g.N.LaneNotes.are_of g.S1.LiveSource.gave g.S1.LiveSource.is_over _ done.l1 served1 done.l1.notes refl noted1;
    gave2 = all-given g.N.LaneNotes.are_of g.S2.LiveSource.gave g.S2.LiveSource.is_over _ done.l2 served2 done.l2.notes refl noted2;
    gave3 = all-given g.N.LaneNotes.are_of g.S3.LiveSource.gave g.S3.LiveSource.is_over _ done.l3 served3 done.l3.notes refl noted3;
    gave_decisions = passed_on.yields;
  }

  -- what came in first, in any case
  came-first : CameFrom
      (HasGivenFirst g.S0.LiveSource.gave c.args.sources.s0) (HasGivenFirst g.S1.LiveSource.gave c.args.sources.s1)
      (HasGivenFirst g.S2.LiveSource.gave c.args.sources.s2) (HasGivenFirst g.S3.LiveSource.gave c.args.sources.s3)
      (HasGivenFirst g.D.LiveDecisions.gave c.args.decisions)
      given_all (incoming_of_sources given_all passed_on.decisions)
  came-first = record {
    i0 = served0.inputs;
    i1 = served1.inputs;
    i2 = served2.inputs;
    i3 = served3.inputs;
    decisions = passed_on.decisions;
    sources_are = refl;
    incoming_is = refl;
    gave0 = record { more = served0.unanswered; end = served0.end; became = served0.became };
    gave1 = record { more = served1.unanswered; end = served1.end; became = served1.became };
    gave2 = record { more = served2.unanswered; end = served2.end; became = served2.became };
    gave3 = record { more = served3.unanswered; end = served3.end; became = served3.became };
    gave_decisions = record {
      more = [];
      end = passed_on.yields.end;
      became =
          subst (λ given. BecameBy g.D.LiveDecisions.gave c.args.decisions given passed_on.yields.end) (sym (append-nil passed_on.decisions)) passed_on.yields.became;
    };
  }

pub returns : goal.returns
returns g c =
    let before = (goal.at.returns g c).After-join-consumers in
    let joined = c.join-consumers in
    let started = c.in-Ok.ensures in
    let given = c.new-work.ensures in
    let taken = joined.ensures.taken in
    record {
      frames = taken.given;
      requests = given_of taken.sent;
      were_given = record {
        consumer_became =
            subst (λ (work : FrameWork g.row.F.Denot). BecameBy g.F.Consumer.after work.consumer taken.given joined.result.consumers.consumer)
            (started.frames ∙ given.frames) taken.consumer_became;
        scheduler_became =
            subst (λ (work : RequestWork g.row.Q.Denot). BecameBy g.Q.Consumer.after work.scheduler (given_of taken.sent) joined.result.consumers.scheduler)
            (started.requests ∙ given.requests) taken.scheduler_became;
      };
      has_ended = record {
        sources = given_all g before;
        decisions = (passed_on g before).decisions;
        four = refl;
        came = λ noted. came g before noted.l0 noted.l1 noted.l2 noted.l3;
        came_so_far = came-first g before;
        sent = taken.sent;
        requests_are = refl;
        has_ended = record {
          l0 = (served0 g before).did;
          l1 = (served1 g before).did;
          l2 = (served2 g before).did;
          l3 = (served3 g before).did;
          decided = (passed_on g before).did;
          unused = given.unused;
          requests_taken =
              subst (λ (work : RequestWork g.row.Q.Denot). HasTakenAll work.mouth taken.sent joined.result.done.mouth)
              (started.requests ∙ given.requests) taken.has_all;
          frames_taken =
              subst (λ (work : FrameWork g.row.F.Denot). HaveTakenAll work.takers.items taken.given joined.result.done.takers.items)
              (started.frames ∙ given.frames) taken.have_all;
          places_same = c.assemble-mouth.ensures.places;
          ended_all = c.assemble-mouth.ensures.ended;
          rings = c.assemble-mouth.ensures.rings;
          assembled = c.assemble-mouth.ensures.done;
          first = c.assemble-mouth.ensures.first;
        };
      };
      not_begun = λ none. absurd (false≢true (sym (ap is_some none)));
    }
