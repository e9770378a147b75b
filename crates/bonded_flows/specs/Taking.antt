-- What the calls of a bonded flow do, whatever it stood for.
use Rattle.std.specs.Prelude.{◌≡◌, ◌≢◌, ℕ, Bool, IsTrue, Option, None, List, [], ◌∷◌, ◌++◌, map}
use Rattle.docsis_wire.specs.declared.segment.Segment.{Segment}
use Rattle.reorder.specs.declared.verdict.Declared.{Declared}
use Rattle.flow_records.specs.declared.record.FlowRecord.{FlowRecord}
use Rattle.flow_records.specs.Setup.{IsInRange}
use Rattle.flow_core.specs.declared.flow.Flow.{Flow}
use Rattle.flow_core.specs.declared.counts.FlowCounts.{FlowCounts}
use Rattle.flow_core.specs.declared.event.Applied.{Applied}
use Rattle.flow_core.specs.declared.event.Applied.TheVariants.{Decision}
use Rattle.flow_core.specs.Fates.{Fates, IsExpected}
use Rattle.flow_core.specs.Events.{FlowEvent, arrives, gap, IsAfter}
use Rattle.flow_core.specs.Stands.{StandsFor}
use Rattle.flow_core.specs.Flows.{IsLoss}
use Rattle.flow_core.specs.Closing.{IsClosed}
use Rattle.loss_rule.specs.declared.rule.LossRule.TheVariants.{Decided}
use Rattle.loss_rule.specs.Rule.{Coming, Lasts, Notes, IsPassing}
use Rattle.loss_rule.specs.Numbers.{skips_to}
use Rattle.consumer.specs.declared.given.Given.{Given}
use Rattle.consumer.specs.declared.given.Given.TheVariants.{Frame}
use Rattle.bonded_flows.specs.declared.bonded_flow.BondedFlow.{BondedFlow}
use Rattle.bonded_flows.specs.FlowSetup.{FlowSetup, ruled_flow}
use Rattle.bonded_flows.specs.Answers.{says_any_lost}
use Rattle.bonded_flows.specs.ByRule.{GaveByRule}
use Rattle.bonded_flows.specs.Stands.{HasTaken, SlidesNext, IsTaking, HasCome}

-- it stands for some events by a record in range
pub record IsRunning (check : List ℕ → Bool) (flow : Flow) : Type 0 where
  pub flow_record : FlowRecord
  pub in_range : IsInRange flow_record
  pub events : List FlowEvent
  pub answers : List Applied
  pub y : ℕ
  pub given : List (List ℕ)
  pub stands : StandsFor check flow_record flow events answers y given

-- Whatever it stood for, it stands for that, and for the skip up to what every channel has passed
-- once a segment with this number is noted on a channel. By decisions alone nothing is skipped.
abbrev pub SkipsPassed : BondedFlow → ℕ → ℕ → Option ℕ → BondedFlow → Type 0
SkipsPassed bonded channel number passed after =
    (check : List ℕ → Bool) (setup : FlowSetup) (taken : List FlowEvent) (lasts noted : Lasts) (given : List (List ℕ)) (answers : List Applied) (fates : Fates) (x : ℕ)
    → HasTaken check setup bonded taken lasts given
    → IsAfter setup.flow_record.first setup.flow_record.window taken answers fates → IsExpected fates x
    → Notes setup.flow_record.first x channel number lasts noted
    → HasTaken check setup after (taken ++ skips_to passed) noted given
    × (setup.rule ≡ Decided → passed ≡ None)
    × (setup.rule ≢ Decided → IsPassing (ruled_flow setup) noted x (skips_to passed))

-- whatever it stood for, it stands for that and for this event, which was answered so
abbrev pub TakesEvent : BondedFlow → FlowEvent → Applied → BondedFlow → Type 0
TakesEvent bonded event answer after =
    (check : List ℕ → Bool) (setup : FlowSetup) (taken : List FlowEvent) (lasts : Lasts) (given : List (List ℕ))
    → (has : HasTaken check setup bonded taken lasts given)
    → (now : HasTaken check setup after (taken ++ event ∷ []) lasts given) × (now.answers ≡ has.answers ++ answer ∷ [])

-- Whatever it stood for, it stands for that and for the skip by which the window slides to a
-- segment with this number.
abbrev pub SkipsSlid : BondedFlow → ℕ → Option ℕ → BondedFlow → Type 0
SkipsSlid bonded number slid after =
    (check : List ℕ → Bool) (setup : FlowSetup) (taken sliding : List FlowEvent) (lasts : Lasts) (given : List (List ℕ))
    → HasTaken check setup bonded taken lasts given → SlidesNext setup taken number sliding
    → HasTaken check setup after (taken ++ sliding) lasts given × (sliding ≡ skips_to slid)

-- Whatever it stood for, it stands for that and for a decision, by which a segment is lost or not.
pub record TakesDecision (bonded : BondedFlow) (event : FlowEvent) (lost : Bool) (after : BondedFlow) : Type 0 where
  pub answer : Applied
  pub says : says_any_lost answer ≡ lost
  pub taken : TakesEvent bonded event answer after

-- Whatever it stood for, it stands for that and a gap, if the expected segment is lost by it;
-- otherwise nothing changes, and the flow is closed.
pub record TakesGap (bonded : BondedFlow) (lost : Bool) (after : BondedFlow) : Type 0 where
  pub declared : Declared
  pub loses : IsTrue lost → IsLoss declared
  pub taken : TakesEvent bonded gap (Decision declared) after
  pub unchanged : ¬ (IsTrue lost) → after ≡ bonded
  pub closed : ¬ (IsTrue lost) → (check : List ℕ → Bool) (setup : FlowSetup) (events : List FlowEvent) (lasts : Lasts) (given : List (List ℕ))
      → (has : HasTaken check setup bonded events lasts given) → IsClosed has.stands.fates

module _ {O : Type 0} (after : O → List Given → O → Type 0) where
  -- the consumer was given these frames of the flow with this index, in order
  abbrev pub WasGiven : ℕ → O → List (List ℕ) → O → Type 0
  WasGiven index out frames out' = (start : O) (given : List Given) → after start given out → after start (given ++ map (Frame index) frames) out'

  -- a flow by itself: whatever it stood for it still stands for, and has given these frames more
  pub record Joins (check : List ℕ → Bool) (index : ℕ) (flow : Flow) (out : O) (flow' : Flow) (out' : O) : Type 0 where
    pub more : List (List ℕ)
    pub was_given : WasGiven index out more out'
    pub stands : (flow_record : FlowRecord) (events : List FlowEvent) (answers : List Applied) (y : ℕ) (given : List (List ℕ))
        → StandsFor check flow_record flow events answers y given
        → (z : ℕ) × StandsFor check flow_record flow' events answers z (given ++ more)

  -- whatever it stood for, it still stands for that, and has given these frames more
  pub record GivesMore (check : List ℕ → Bool) (bonded : BondedFlow) (out : O) (bonded' : BondedFlow) (out' : O) : Type 0 where
    pub more : List (List ℕ)
    pub was_given : WasGiven bonded.index out more out'
    pub has_taken : (setup : FlowSetup) (taken : List FlowEvent) (lasts : Lasts) (given : List (List ℕ))
        → (has : HasTaken check setup bonded taken lasts given)
        → (now : HasTaken check setup bonded' taken lasts (given ++ more)) × (now.answers ≡ has.answers)

  -- whatever it stood for, it stands for that and a segment that arrives
  pub record TakesArrival (check : List ℕ → Bool) (bonded : BondedFlow) (out : O) (segment : Segment) (bonded' : BondedFlow) (out' : O) : Type 0 where
    pub more : List (List ℕ)
    pub was_given : WasGiven bonded.index out more out'
    pub taking : (setup : FlowSetup) (taken : List FlowEvent) (lasts : Lasts) (given : List (List ℕ))
        → HasTaken check setup bonded taken lasts given
        → IsTaking check setup bonded' (taken ++ arrives segment ∷ []) lasts (given ++ more)

  -- and before that for the skip by which the window slides to it
  pub record TakesSliding (check : List ℕ → Bool) (bonded : BondedFlow) (out : O) (segment : Segment) (bonded' : BondedFlow) (out' : O) : Type 0 where
    pub more : List (List ℕ)
    pub was_given : WasGiven bonded.index out more out'
    pub taking : (setup : FlowSetup) (taken sliding : List FlowEvent) (lasts : Lasts) (given : List (List ℕ))
        → HasTaken check setup bonded taken lasts given → SlidesNext setup taken segment.head.sequence sliding
        → IsTaking check setup bonded' ((taken ++ sliding) ++ arrives segment ∷ []) lasts (given ++ more)

  -- **Whatever came to it, these came to it besides**, and what it has given more was given to the
  -- consumer, in order.
  pub record Takes (check : List ℕ → Bool) (bonded : BondedFlow) (out : O) (comings : List Coming) (bonded' : BondedFlow) (out' : O) : Type 0 where
    pub more : List (List ℕ)
    pub was_given : WasGiven bonded.index out more out'
    pub has_come : (setup : FlowSetup) (before : List Coming) (given : List (List ℕ))
        → HasCome check setup bonded before given → HasCome check setup bonded' (before ++ comings) (given ++ more)

  -- The flow is closed, and what it gave at last was given to the consumer: whatever came to it, it
  -- gave what by the rule comes of that.
  pub record Closes (check : List ℕ → Bool) (bonded : BondedFlow) (out : O) (counts : FlowCounts) (out' : O) : Type 0 where
    pub more : List (List ℕ)
    pub was_given : WasGiven bonded.index out more out'
    pub gave : (setup : FlowSetup) (comings : List Coming) (given : List (List ℕ))
        → HasCome check setup bonded comings given → GaveByRule check setup comings (given ++ more) counts
