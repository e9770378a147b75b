-- What comes in channel order: the premise of all that is promised of the rule, by true indexes.
use Rattle.std.specs.Prelude.{◌≡◌, ◌≢◌, ℕ, ◌+◌, ◌<◌, ◌≤◌, ◌⊎◌, Some, List, [], ◌∷◌, ◌++◌, length, slice_get}
use Rattle.docsis_wire.specs.declared.segment.Segment.{Segment}
use Rattle.docsis_wire.specs.Stream.{place_of}
use Rattle.docsis_wire.specs.Span.{IsInSpan}
use Rattle.reorder.specs.Limits.{numbers_ahead}
use Rattle.flow_core.specs.declared.event.Applied.{Applied}
use Rattle.flow_core.specs.Fates.{Fates, IsLost, IsExpected}
use Rattle.flow_core.specs.Events.{FlowEvent, arrives, gap, gap_to, skip_to, IsAhead, Leads}
use Rattle.loss_rule.specs.declared.rule.LossRule.{LossRule}
use Rattle.loss_rule.specs.declared.rule.LossRule.TheVariants.{Decided, Passed, PassedOrSlid}
use Rattle.loss_rule.specs.Rule.{Coming, on_channel, handed_in, RuledFlow, Lasts, HasChannel, Notes, IsPassing, AreSkips, AreRuled}

-- at place p of all that comes, this segment comes on this channel
abbrev pub Comes : List Coming → ℕ → ℕ → Segment → Type 0
Comes comings p channel segment = slice_get comings p ≡ Some (on_channel channel segment)

-- Channel order, where index_at has the true index of the segment at each place: each is the cut's
-- segment of that index and comes on a channel of the flow, none comes twice, and those of one
-- channel come in the modem's order.
pub record AreInChannelOrder (flow : RuledFlow) (segments : List Segment) (comings : List Coming) (index_at : ℕ → ℕ) : Type 0 where
  pub of_cut : (p channel : ℕ) (segment : Segment) → Comes comings p channel segment → slice_get segments (index_at p) ≡ Some segment
  pub on_flow : (p channel : ℕ) (segment : Segment) → Comes comings p channel segment → HasChannel flow channel
  pub once : (p q channel other : ℕ) (segment another : Segment)
      → Comes comings p channel segment → Comes comings q other another → index_at p ≡ index_at q → p ≡ q
  pub in_order : (p q channel : ℕ) (segment another : Segment)
      → p < q → Comes comings p channel segment → Comes comings q channel another → index_at p < index_at q

-- each segment comes when the expected index is near to its own, as in `AreNear` of a flow
abbrev pub ComeNear : LossRule → RuledFlow → List Coming → (ℕ → ℕ) → Type 0
ComeNear rule flow comings index_at =
    (before behind : List Coming) (channel x : ℕ) (segment : Segment) (events : List FlowEvent) (lasts : Lasts) (fates : Fates)
    → comings ≡ before ++ on_channel channel segment ∷ behind → AreRuled rule flow before events lasts fates → IsExpected fates x
    → (x ≤ index_at (length before) + numbers_ahead) × (index_at (length before) < x + numbers_ahead)

-- No segment comes after one whose index is d or more greater.
abbrev pub ComeWithin : List Coming → (ℕ → ℕ) → ℕ → Type 0
ComeWithin comings index_at d =
    (p q own channel : ℕ) (segment other : Segment) → Comes comings p own segment → Comes comings q channel other → index_at q + d ≤ index_at p → q < p

-- No window has to slide: the index of each segment lies less than the window's width after the one
-- that is expected once the segment is noted and the rule has skipped what every channel has
-- passed.
abbrev pub NeedNoSlide : LossRule → RuledFlow → List Coming → (ℕ → ℕ) → Type 0
NeedNoSlide rule flow comings index_at =
    (before behind : List Coming) (channel x y : ℕ) (segment : Segment) (events passing : List FlowEvent) (answers : List Applied) (lasts noted : Lasts)
    (fates between : Fates)
    → comings ≡ before ++ on_channel channel segment ∷ behind → AreRuled rule flow before events lasts fates → IsExpected fates x
    → Notes flow.first x channel segment.head.sequence lasts noted → IsPassing flow noted x passing
    → Leads flow.first flow.width fates passing answers between → IsExpected between y
    → index_at (length before) < y + flow.width

-- Each segment falls into the window. By a rule that doesn't slide it does so as the window stands.
-- By the one that slides the window goes along with what comes near, and loses what lies its width
-- or more before that: so no segment may come so late.
abbrev pub FallIntoTheWindow : LossRule → RuledFlow → List Coming → (ℕ → ℕ) → Type 0
FallIntoTheWindow Decided flow comings index_at = NeedNoSlide Decided flow comings index_at
FallIntoTheWindow Passed flow comings index_at = NeedNoSlide Passed flow comings index_at
FallIntoTheWindow PassedOrSlid flow comings index_at = ComeNear PassedOrSlid flow comings index_at × ComeWithin comings index_at flow.width

-- Numbers show how far a flow was out, said of the comings alone: each segment lies at most 4096
-- less the window's width after one that came before, or less than 4096 after the first index of
-- all.
abbrev pub HaveShortOutages : RuledFlow → List Coming → (ℕ → ℕ) → Type 0
HaveShortOutages flow comings index_at =
    (p own : ℕ) (segment : Segment) → Comes comings p own segment
    → (index_at p < numbers_ahead)
    ⊎ ((q channel : ℕ) × (last : Segment) × (q < p) × Comes comings q channel last × (index_at p + flow.width ≤ index_at q + numbers_ahead))

-- Nothing comes further ahead than the window can hold, said of the comings alone. Each segment
-- lies less than the window's width after the last one of every channel of the flow, itself
-- counted, or after the first index of all; and less than 4096 after the one before it on its own
-- channel.
pub record FitTheWindow (flow : RuledFlow) (comings : List Coming) (index_at : ℕ → ℕ) : Type 0 where
  pub skew : (p own channel : ℕ) (segment : Segment) → Comes comings p own segment → HasChannel flow channel
      → (index_at p < flow.width)
      ⊎ ((q : ℕ) × (last : Segment) × (q ≤ p) × Comes comings q channel last × (index_at p < index_at q + flow.width))
  pub outage : (p own : ℕ) (segment : Segment) → Comes comings p own segment
      → (index_at p < numbers_ahead)
      ⊎ ((q : ℕ) × (last : Segment) × (q < p) × Comes comings q own last × (index_at p < index_at q + numbers_ahead))

-- Slides are safe: what the rule skips before a segment is taken, and the window loses as it
-- slides, is the index of none that comes then or later.
abbrev pub SlideSafely : RuledFlow → List Coming → (ℕ → ℕ) → Type 0
SlideSafely flow comings index_at =
    (before behind : List Coming) (channel other q x : ℕ) (segment another : Segment) (events skips : List FlowEvent) (answers : List Applied)
    (lasts noted : Lasts) (fates after : Fates)
    → comings ≡ before ++ on_channel channel segment ∷ behind → AreRuled PassedOrSlid flow before events lasts fates → IsExpected fates x
    → Notes flow.first x channel segment.head.sequence lasts noted → AreSkips PassedOrSlid flow noted fates segment.head.sequence skips
    → Leads flow.first flow.width fates skips answers after
    → length before ≤ q → Comes comings q other another → IsLost after (index_at q) → IsLost fates (index_at q)

-- no decision is handed in
abbrev pub HaveNoDecision : List Coming → Type 0
HaveNoDecision comings = (p : ℕ) (event : FlowEvent) → ¬ (slice_get comings p ≡ Some (handed_in event))

-- what is handed in is a decision: no segment arrives by it
abbrev pub HandInDecisions : List Coming → Type 0
HandInDecisions comings = (p : ℕ) (segment : Segment) → ¬ (slice_get comings p ≡ Some (handed_in (arrives segment)))

-- Decisions that are handed in are safe: no segment arrives by them, and they lose no index whose
-- segment still comes.
pub record DecideSafely (rule : LossRule) (flow : RuledFlow) (comings : List Coming) (index_at : ℕ → ℕ) : Type 0 where
  pub decisions : HandInDecisions comings
  pub safe : (before behind : List Coming) (q channel : ℕ) (event : FlowEvent) (segment : Segment) (events : List FlowEvent) (answers : List Applied)
      (lasts : Lasts) (fates after : Fates)
      → comings ≡ before ++ handed_in event ∷ behind → AreRuled rule flow before events lasts fates
      → Leads flow.first flow.width fates (event ∷ []) answers after
      → length before ≤ q → Comes comings q channel segment → IsLost after (index_at q) → IsLost fates (index_at q)

-- the index before which a decision loses what it loses, where x is the expected index: a gap loses
-- at most that one
abbrev pub DecidesBefore : ℕ → ℕ → FlowEvent → ℕ → Type 0
DecidesBefore first x (arrives segment) end = ⊥
DecidesBefore first x gap end = end ≡ x + 1
DecidesBefore first x (gap_to number) end = IsAhead first x number end
DecidesBefore first x (skip_to number) end = IsAhead first x number end

-- Decisions that are handed in are about the past: no segment comes later with an index before the
-- one up to which they decide.
abbrev pub DecideThePast : LossRule → RuledFlow → List Coming → (ℕ → ℕ) → Type 0
DecideThePast rule flow comings index_at =
    (before behind : List Coming) (q channel x end : ℕ) (event : FlowEvent) (segment : Segment) (events : List FlowEvent) (lasts : Lasts) (fates : Fates)
    → comings ≡ before ++ handed_in event ∷ behind → AreRuled rule flow before events lasts fates → IsExpected fates x
    → DecidesBefore flow.first x event end → length before ≤ q → Comes comings q channel segment → end ≤ index_at q

-- no segment of this index comes
abbrev pub NeverComes : List Coming → (ℕ → ℕ) → ℕ → Type 0
NeverComes comings index_at i = (p channel : ℕ) (segment : Segment) → Comes comings p channel segment → index_at p ≢ i

-- on each channel of the flow comes a segment of a later index
abbrev pub IsOvertaken : RuledFlow → List Coming → (ℕ → ℕ) → ℕ → Type 0
IsOvertaken flow comings index_at i =
    (channel : ℕ) → HasChannel flow channel → (q : ℕ) × (segment : Segment) × Comes comings q channel segment × (i < index_at q)

-- frame j lies wholly in the cut, and each segment of its span came
pub record IsAllCome (frames chunks : List (List ℕ)) (comings : List Coming) (index_at : ℕ → ℕ) (j : ℕ) : Type 0 where
  pub whole : place_of frames (j + 1) ≤ place_of chunks (length chunks)
  pub came : (i : ℕ) → IsInSpan frames chunks j i
      → (p channel : ℕ) × (segment : Segment) × Comes comings p channel segment × (index_at p ≡ i)
