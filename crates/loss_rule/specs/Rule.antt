-- The rule by which a receiver decides by itself what is lost, said by true indexes.
--
-- On a channel the segments of a flow come in the modem's order. So what lies before the last
-- segment of each of the flow's channels can't come any more.
use Rattle.std.specs.Prelude.{◌≡◌, ℕ, ◌+◌, ◌-◌, ◌<◌, ◌≤◌, ◌⊎◌, Bool, true, Option, Some, None, List, [], ◌∷◌, ◌++◌, length, replicate, slice_get, slice_set}
use Rattle.docsis_wire.specs.declared.segment.Segment.{Segment}
use Rattle.flow_core.specs.declared.event.Applied.{Applied}
use Rattle.flow_core.specs.Fates.{Fates, no_fates, number_of, IsExpected}
use Rattle.flow_core.specs.Events.{FlowEvent, arrives, skip_to, IsAhead, Leads}
use Rattle.loss_rule.specs.declared.rule.LossRule.{LossRule}
use Rattle.loss_rule.specs.declared.rule.LossRule.TheVariants.{Decided, Passed, PassedOrSlid}

-- What comes to one flow: a segment on a channel, or a decision that is handed in.
pub data Coming : Type 0 where
  on_channel : ℕ → Segment → Coming
  handed_in : FlowEvent → Coming

-- the event that it is by itself
abbrev pub own_event : Coming → FlowEvent
own_event (on_channel channel segment) = arrives segment
own_event (handed_in event) = event

-- What the rule has to know of a flow: the number of its first segment, the width of its window,
-- and of each channel whether the flow has a service identifier there.
pub record RuledFlow : Type 0 where
  pub first : ℕ
  pub width : ℕ
  pub channels : List Bool

abbrev pub HasChannel : RuledFlow → ℕ → Type 0
HasChannel flow channel = slice_get flow.channels channel ≡ Some true

-- Of each channel the index of the last segment that came there; nothing where none came yet, or
-- where its number lay behind.
abbrev pub Lasts : Type 0
Lasts = List (Option ℕ)

abbrev pub no_lasts : RuledFlow → Lasts
no_lasts flow = replicate (length flow.channels) None

abbrev pub IsLastOn : Lasts → ℕ → ℕ → Type 0
IsLastOn lasts channel index = slice_get lasts channel ≡ Some (Some index)

-- every channel of the flow has passed the index: its last one lies after it
abbrev pub IsPassed : RuledFlow → Lasts → ℕ → Type 0
IsPassed flow lasts i = (channel : ℕ) → HasChannel flow channel → (index : ℕ) × IsLastOn lasts channel index × (i < index)

-- Each channel of the flow has come to this index: each has a last one, and this is the least.
pub record HaveComeTo (flow : RuledFlow) (lasts : Lasts) (least : ℕ) : Type 0 where
  pub own : ℕ
  pub has : HasChannel flow own
  pub last : IsLastOn lasts own least
  pub each : (channel : ℕ) → HasChannel flow channel → (index : ℕ) × IsLastOn lasts channel index × (least ≤ index)

-- the index of a number, where it lies ahead of the expected index x
abbrev pub IsIndexAhead : ℕ → ℕ → ℕ → Option ℕ → Type 0
IsIndexAhead first x number (Some index) = IsAhead first x number index
IsIndexAhead first x number None = (index : ℕ) → ¬ (IsAhead first x number index)

-- a segment with this number came on this channel, where x is the expected index
abbrev pub Notes : ℕ → ℕ → ℕ → ℕ → Lasts → Lasts → Type 0
Notes first x channel number lasts noted = (last : Option ℕ) × IsIndexAhead first x number last × (noted ≡ slice_set lasts channel last)

-- The least of the last indexes of the flow's channels. Each channel has one, and all of them lie
-- after the expected index x.
pub record IsLeastLast (flow : RuledFlow) (lasts : Lasts) (x least : ℕ) : Type 0 where
  pub ahead : x < least
  pub one : (channel : ℕ) × HasChannel flow channel × IsLastOn lasts channel least
  pub each : (channel : ℕ) → HasChannel flow channel → (index : ℕ) × IsLastOn lasts channel index × (least ≤ index)

-- The skip to what every channel has passed, or none where some channel has no last index after the
-- expected one.
abbrev pub IsPassing : RuledFlow → Lasts → ℕ → List FlowEvent → Type 0
IsPassing flow lasts x skips =
    ((least : ℕ) × IsLeastLast flow lasts x least × (skips ≡ skip_to (number_of flow.first least) ∷ []))
    ⊎ (((least : ℕ) → ¬ (IsLeastLast flow lasts x least)) × (skips ≡ []))

-- The skip after which the index of a number is the last of the window, or none where it lies in
-- the window already or isn't ahead.
abbrev pub IsSliding : RuledFlow → ℕ → ℕ → List FlowEvent → Type 0
IsSliding flow x number skips =
    ((index : ℕ) × IsAhead flow.first x number index × (x + flow.width ≤ index)
    × (skips ≡ skip_to (number_of flow.first (index + 1 - flow.width)) ∷ []))
    ⊎ (((index : ℕ) → IsAhead flow.first x number index → index < x + flow.width) × (skips ≡ []))

-- The skips before a segment with this number is taken, once it is noted.
abbrev pub AreSkips : LossRule → RuledFlow → Lasts → Fates → ℕ → List FlowEvent → Type 0
AreSkips Decided flow noted fates number skips = skips ≡ []
AreSkips Passed flow noted fates number skips = (x : ℕ) × IsExpected fates x × IsPassing flow noted x skips
AreSkips PassedOrSlid flow noted fates number skips =
    (x y : ℕ) × (passing sliding : List FlowEvent) × (answers : List Applied) × (between : Fates)
    × IsExpected fates x × IsPassing flow noted x passing
    × Leads flow.first flow.width fates passing answers between × IsExpected between y × IsSliding flow y number sliding
    × (skips ≡ passing ++ sliding)

-- The events that one coming makes, and what is noted after it. A segment is noted, then comes what
-- is skipped, and then it arrives. A decision that is handed in stays what it is.
abbrev pub IsRuled : LossRule → RuledFlow → Lasts → Fates → Coming → List FlowEvent → Lasts → Type 0
IsRuled rule flow lasts fates (handed_in event) events noted = (events ≡ event ∷ []) × (noted ≡ lasts)
IsRuled rule flow lasts fates (on_channel channel segment) events noted =
    (x : ℕ) × (skips : List FlowEvent)
    × IsExpected fates x × Notes flow.first x channel segment.head.sequence lasts noted
    × AreSkips rule flow noted fates segment.head.sequence skips × (events ≡ skips ++ arrives segment ∷ [])

-- Comings one after another make these events, and lead to these last indexes and fates.
abbrev pub Rules : LossRule → RuledFlow → Lasts → Fates → List Coming → List FlowEvent → Lasts → Fates → Type 0
Rules rule flow lasts fates [] events noted after = (events ≡ []) × (noted ≡ lasts) × (after ≡ fates)
Rules rule flow lasts fates (coming ∷ comings) events noted after =
    (own rest : List FlowEvent) × (answers : List Applied) × (between_lasts : Lasts) × (between : Fates)
    × IsRuled rule flow lasts fates coming own between_lasts
    × Leads flow.first flow.width fates own answers between
    × Rules rule flow between_lasts between comings rest noted after
    × (events ≡ own ++ rest)

-- these are all events of a flow to which all this came
abbrev pub AreRuled : LossRule → RuledFlow → List Coming → List FlowEvent → Lasts → Fates → Type 0
AreRuled rule flow comings events noted fates = Rules rule flow (no_lasts flow) no_fates comings events noted fates
