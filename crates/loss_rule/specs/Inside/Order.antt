-- What holds after the first n of comings that are in channel order.
use Rattle.std.specs.Prelude.{◌≡◌, ℕ, ◌+◌, ◌<◌, ◌≤◌, List, ◌∷◌, ◌++◌, length}
use Rattle.docsis_wire.specs.declared.segment.Segment.{Segment}
use Rattle.reorder.specs.Limits.{numbers_ahead}
use Rattle.flow_core.specs.declared.event.Applied.{Applied}
use Rattle.flow_core.specs.Fates.{Fates, IsKept, IsKeptAs, IsLost, IsExpected}
use Rattle.flow_core.specs.Events.{FlowEvent, Leads}
use Rattle.loss_rule.specs.declared.rule.LossRule.{LossRule}
use Rattle.loss_rule.specs.Rule.{Coming, on_channel, RuledFlow, Lasts, IsLastOn, Notes, IsPassing, AreRuled}
use Rattle.loss_rule.specs.InOrder.{Comes}
use Rattle.loss_rule.specs.Inside.Arrival.{ArrivesBy}

-- each last index is that of one of them on its channel
abbrev pub AreOfComings : List Coming → (ℕ → ℕ) → ℕ → Lasts → Type 0
AreOfComings comings index_at n lasts =
    (channel index : ℕ) → IsLastOn lasts channel index
    → (p : ℕ) × (segment : Segment) × (p < n) × Comes comings p channel segment × (index_at p ≡ index)

-- each index that is kept came with one of them
abbrev pub KeptHaveCome : List Coming → (ℕ → ℕ) → ℕ → Fates → Type 0
KeptHaveCome comings index_at n fates = (i : ℕ) → IsKept fates i → (p channel : ℕ) × (segment : Segment) × (p < n) × Comes comings p channel segment × (index_at p ≡ i)

-- Each last index is that of one of them on its channel, and none on it has a later one; what is
-- kept came, and what is lost doesn't come any more.
pub record IsInStep (flow : RuledFlow) (comings : List Coming) (index_at : ℕ → ℕ) (n : ℕ) (lasts : Lasts) (fates : Fates) : Type 0 where
  pub of_comings : AreOfComings comings index_at n lasts
  pub latest : (p channel : ℕ) (segment : Segment) → p < n → Comes comings p channel segment → (index : ℕ) × IsLastOn lasts channel index × (index_at p ≤ index)
  pub came : KeptHaveCome comings index_at n fates
  pub gone : (q channel : ℕ) (segment : Segment) → n ≤ q → Comes comings q channel segment → ¬ (IsLost fates (index_at q))

-- what a window loses as it slides is the index of no segment that comes after the first n
abbrev pub Spares : List Coming → (ℕ → ℕ) → ℕ → Fates → Fates → Type 0
Spares comings index_at n between slid =
    (q channel : ℕ) (segment : Segment) → n ≤ q → Comes comings q channel segment → IsLost slid (index_at q) → IsLost between (index_at q)

-- each of them is kept under its index
abbrev pub AreKept : List Coming → (ℕ → ℕ) → ℕ → Fates → Type 0
AreKept comings index_at n fates = (p channel : ℕ) (segment : Segment) → p < n → Comes comings p channel segment → IsKeptAs fates (index_at p) segment

-- Each segment that comes next lies less than 4096 after the expected index, and within the window
-- once what every channel has passed is skipped.
abbrev pub AreWithin : LossRule → RuledFlow → List Coming → (ℕ → ℕ) → Type 0
AreWithin rule flow comings index_at =
    (before behind : List Coming) (channel x y : ℕ) (segment : Segment) (events passing : List FlowEvent) (answers : List Applied) (lasts noted : Lasts)
    (fates between : Fates)
    → comings ≡ before ++ on_channel channel segment ∷ behind → AreRuled rule flow before events lasts fates
    → IsInStep flow comings index_at (length before) lasts fates → IsExpected fates x
    → Notes flow.first x channel segment.head.sequence lasts noted → IsPassing flow noted x passing
    → Leads flow.first flow.width fates passing answers between → IsExpected between y
    → (index_at (length before) < x + numbers_ahead) × (index_at (length before) < y + flow.width)

-- Each segment that comes next is taken in: it lies less than 4096 after the expected index, and
-- within the window once the rule has skipped; and the window loses none by that which comes then
-- or later.
abbrev pub AreTakenIn : LossRule → RuledFlow → List Coming → (ℕ → ℕ) → Type 0
AreTakenIn rule flow comings index_at =
    (before behind : List Coming) (channel : ℕ) (segment : Segment) (so_far events : List FlowEvent) (answers : List Applied) (lasts noted : Lasts)
    (fates after : Fates)
    → comings ≡ before ++ on_channel channel segment ∷ behind → AreRuled rule flow before so_far lasts fates
    → IsInStep flow comings index_at (length before) lasts fates → AreKept comings index_at (length before) fates
    → (t : ArrivesBy rule flow lasts fates channel segment events answers noted after)
    → (index_at (length before) < t.x + numbers_ahead) × (index_at (length before) < t.z + flow.width)
    × Spares comings index_at (length before) t.between t.slid
