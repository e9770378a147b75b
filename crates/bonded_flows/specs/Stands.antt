-- What a bonded flow of the code stands for: all that came to it.
use Rattle.std.specs.Prelude.{◌≡◌, ℕ, ◌+◌, ◌≤◌, Bool, List, [], ◌∷◌, ◌++◌, replicate}
use Rattle.reorder.specs.Limits.{numbers_ahead}
use Rattle.flow_records.specs.Setup.{IsInRange}
use Rattle.flow_core.specs.declared.event.Applied.{Applied}
use Rattle.flow_core.specs.Fates.{Fates, number_of, IsExpected}
use Rattle.flow_core.specs.Events.{FlowEvent, arrives, gap, IsAfter}
use Rattle.flow_core.specs.Stands.{StandsFor, IsDrained}
use Rattle.loss_rule.specs.Rule.{Coming, Lasts, IsSliding, AreRuled}
use Rattle.loss_rule.specs.Numbers.{carried_of, distances_of, expected_of, AreDistancesOf}
use Rattle.bonded_flows.specs.declared.pending.Pending.{Pending}
use Rattle.bonded_flows.specs.declared.pending.Pending.TheVariants.{Nothing, Slide, Arrive, Close}
use Rattle.bonded_flows.specs.declared.bonded_flow.BondedFlow.{BondedFlow}
use Rattle.bonded_flows.specs.FlowSetup.{FlowSetup, ruled_flow}

-- the flow was made with this
pub record IsMadeWith (setup : FlowSetup) (bonded : BondedFlow) : Type 0 where
  pub index : bonded.index ≡ setup.index
  pub rule : bonded.rule ≡ setup.rule
  pub width : bonded.width ≡ setup.flow_record.window
  pub carried : carried_of bonded.lasts ≡ setup.channels
  pub in_range : IsInRange setup.flow_record

-- The flow has taken just these events, and has given these frames. What it knows of its channels
-- by numbers is what these last indexes are, counted from an index: the expected one when it was
-- last drained. Since then it has taken one event at most, so the expected index lies no further on
-- than numbers lie ahead.
pub record HasTaken (check : List ℕ → Bool) (setup : FlowSetup) (bonded : BondedFlow) (events : List FlowEvent) (lasts : Lasts) (given : List (List ℕ)) : Type 0 where
  pub made : IsMadeWith setup bonded
  pub answers : List Applied
  pub y : ℕ
  pub stands : StandsFor check setup.flow_record bonded.flow events answers y given
  pub from : ℕ
  pub number : expected_of bonded.lasts ≡ number_of setup.flow_record.first from
  pub distances : AreDistancesOf from lasts (distances_of bonded.lasts)
  pub onward : from ≤ stands.x
  pub near : stands.x ≤ from + numbers_ahead

-- the skip by which, after these events, the window slides to a segment with this number, or none
-- where it needn't
abbrev pub SlidesNext : FlowSetup → List FlowEvent → ℕ → List FlowEvent → Type 0
SlidesNext setup taken number sliding =
    (answers : List Applied) × (fates : Fates) × (x : ℕ)
    × IsAfter setup.flow_record.first setup.flow_record.window taken answers fates × IsExpected fates x
    × IsSliding (ruled_flow setup) x number sliding

-- Of all these events a flow has taken the first ones, and knows what is left. Nothing. Or a
-- segment has still to arrive; before it, the window may have to slide. Or all are taken, the flow
-- is being closed, and has taken some gaps.
abbrev pub IsPending : FlowSetup → Pending → List FlowEvent → List FlowEvent → Type 0
IsPending setup Nothing events taken = taken ≡ events
IsPending setup (Slide ready) events taken =
    (sliding : List FlowEvent) × SlidesNext setup taken ready.segment.head.sequence sliding
    × (events ≡ (taken ++ sliding) ++ arrives ready.segment ∷ [])
IsPending setup (Arrive ready) events taken = events ≡ taken ++ arrives ready.segment ∷ []
IsPending setup Close events taken = (n : ℕ) × (taken ≡ events ++ replicate n gap)

-- the flow has taken all these events but what it knows is left, and has given these frames
pub record IsTaking (check : List ℕ → Bool) (setup : FlowSetup) (bonded : BondedFlow) (events : List FlowEvent) (lasts : Lasts) (given : List (List ℕ)) : Type 0 where
  pub taken : List FlowEvent
  pub has_taken : HasTaken check setup bonded taken lasts given
  pub left : IsPending setup bonded.pending events taken

-- **Stands for.** All this came to the flow. Of the events that by the rule come of it the flow has
-- taken all but what it knows is left, and it has given these frames.
pub record HasCome (check : List ℕ → Bool) (setup : FlowSetup) (bonded : BondedFlow) (comings : List Coming) (given : List (List ℕ)) : Type 0 where
  pub events : List FlowEvent
  pub lasts : Lasts
  pub fates : Fates
  pub ruled : AreRuled setup.rule (ruled_flow setup) comings events lasts fates
  pub taking : IsTaking check setup bonded events lasts given

-- no segment is next, and the numbers of its channels are counted from the number that it expects
pub record IsUpToDate (bonded : BondedFlow) : Type 0 where
  pub drained : IsDrained bonded.flow
  pub expects : expected_of bonded.lasts ≡ bonded.flow.window.expected

-- nothing is left to be taken or to be joined
pub record IsSettled (bonded : BondedFlow) : Type 0 where
  pub nothing_left : bonded.pending ≡ Nothing
  pub up_to_date : IsUpToDate bonded

-- it stands for something
pub record IsUnderWay (check : List ℕ → Bool) (bonded : BondedFlow) : Type 0 where
  pub setup : FlowSetup
  pub comings : List Coming
  pub given : List (List ℕ)
  pub has_come : HasCome check setup bonded comings given

-- it has taken some events
pub record HasTakenSome (check : List ℕ → Bool) (bonded : BondedFlow) : Type 0 where
  pub setup : FlowSetup
  pub events : List FlowEvent
  pub lasts : Lasts
  pub given : List (List ℕ)
  pub has_taken : HasTaken check setup bonded events lasts given
