-- What a segment that comes on a channel does, step by step.
use Rattle.std.specs.Prelude.{◌≡◌, ℕ, ◌+◌, ◌<◌, ◌⊎◌, IsSome, List, [], ◌∷◌, ◌++◌, length}
use Rattle.std.specs.FinMap as map
use Rattle.docsis_wire.specs.declared.segment.Segment.{Segment}
use Rattle.reorder.specs.Limits.{numbers_ahead}
use Rattle.flow_core.specs.declared.event.Applied.{Applied}
use Rattle.flow_core.specs.Fates.{Fates, IsOpen, IsExpected}
use Rattle.flow_core.specs.Events.{FlowEvent, arrives, IsAhead, Changes, Leads}
use Rattle.loss_rule.specs.declared.rule.LossRule.{LossRule}
use Rattle.loss_rule.specs.declared.rule.LossRule.TheVariants.{Decided, Passed, PassedOrSlid}
use Rattle.loss_rule.specs.Rule.{RuledFlow, HasChannel, Lasts, IsLastOn, IsPassed, Notes, IsPassing, IsSliding}

-- each last index lies less than 4096 after the expected index x, or before it
abbrev pub AreBounded : Lasts → ℕ → Type 0
AreBounded lasts x = (channel index : ℕ) → IsLastOn lasts channel index → index < x + numbers_ahead

-- What holds after every list of comings, by a rule that looks at what passed: what every channel
-- has passed is settled.
pub record IsUpToDate (flow : RuledFlow) (lasts : Lasts) (fates : Fates) : Type 0 where
  pub size : length lasts ≡ length flow.channels
  pub bounded : (x : ℕ) → IsExpected fates x → AreBounded lasts x
  pub settled : (own i : ℕ) → HasChannel flow own → IsPassed flow lasts i → IsSome (map.get fates i)

-- what the rule skips so that the window slides
abbrev pub Slides : LossRule → RuledFlow → ℕ → ℕ → List FlowEvent → Type 0
Slides Decided flow y number sliding = ⊥
Slides Passed flow y number sliding = sliding ≡ []
Slides PassedOrSlid flow y number sliding = IsSliding flow y number sliding

-- The window slid: the number's index is in it now and open, or lay in it already or not ahead.
abbrev pub SlidTo : RuledFlow → ℕ → ℕ → ℕ → Fates → Fates → Type 0
SlidTo flow number y z between slid =
    ((index : ℕ) × IsAhead flow.first y number index × IsAhead flow.first z number index × (index < z + flow.width) × IsOpen slid index)
    ⊎ (((index : ℕ) → IsAhead flow.first y number index → index < y + flow.width) × (slid ≡ between))

-- Some skips, and at last the segment arrives.
pub record ArrivesAtLast (flow : RuledFlow) (fates : Fates) (skips : List FlowEvent) (segment : Segment) (answers : List Applied) (after : Fates) : Type 0 where
  pub skip_answers : List Applied
  pub skipped : Fates
  pub leads : Leads flow.first flow.width fates skips skip_answers skipped
  pub z : ℕ
  pub expected : IsExpected skipped z
  pub answer : Applied
  pub changes : Changes flow.first flow.width z (arrives segment) answer skipped after
  pub answers_are : answers ≡ skip_answers ++ answer ∷ []

-- A segment comes, by a rule that looks at what passed: it is noted, what every channel has passed
-- is skipped, then the window may slide, and then it arrives.
pub record ArrivesBy (rule : LossRule) (flow : RuledFlow) (lasts : Lasts) (fates : Fates) (channel : ℕ) (segment : Segment) (events : List FlowEvent) (answers : List Applied) (noted : Lasts) (after : Fates) : Type 0 where
  pub x : ℕ
  pub expected : IsExpected fates x
  pub notes : Notes flow.first x channel segment.head.sequence lasts noted
  pub passing : List FlowEvent
  pub passing_answers : List Applied
  pub between : Fates
  pub passes : IsPassing flow noted x passing
  pub leads_passing : Leads flow.first flow.width fates passing passing_answers between
  pub y : ℕ
  pub expected_between : IsExpected between y
  pub sliding : List FlowEvent
  pub sliding_answers : List Applied
  pub slid : Fates
  pub slides : Slides rule flow y segment.head.sequence sliding
  pub leads_sliding : Leads flow.first flow.width between sliding sliding_answers slid
  pub z : ℕ
  pub expected_slid : IsExpected slid z
  pub answer : Applied
  pub changes : Changes flow.first flow.width z (arrives segment) answer slid after
  pub events_are : events ≡ (passing ++ sliding) ++ arrives segment ∷ []
  pub answers_are : answers ≡ (passing_answers ++ sliding_answers) ++ answer ∷ []
