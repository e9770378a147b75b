-- How a modem deals its segments over channels, and how late they come: what fits a window.
use Rattle.std.specs.Prelude.{◌≡◌, ℕ, zero, suc, ◌+◌, ◌-◌, ◌*◌, ◌/◌, ◌%◌, ◌<◌, ◌≤◌, Option, Some, None, List, [], ◌∷◌, ◌++◌, length, slice_get}
use Rattle.docsis_wire.specs.declared.segment.Segment.{Segment}
use Rattle.reorder.specs.Limits.{numbers_ahead}
use Rattle.loss_rule.specs.Rule.{Coming, on_channel, RuledFlow, HasChannel}
use Rattle.loss_rule.specs.InOrder.{Comes}

-- Of m indexes in a row, up to that of a segment that comes, each channel of the flow brings one.
abbrev pub AreSpread : RuledFlow → List Coming → (ℕ → ℕ) → ℕ → Type 0
AreSpread flow comings index_at m =
    (i p own channel : ℕ) (segment : Segment) → Comes comings p own segment → HasChannel flow channel → i + m ≤ index_at p + 1
    → (q : ℕ) × (other : Segment) × Comes comings q channel other × (i ≤ index_at q) × (index_at q < i + m)

-- the segments from index k on, dealt in turn over so many channels
abbrev pub dealt_from : ℕ → ℕ → List Segment → List Coming
dealt_from count k [] = []
dealt_from count k (segment ∷ segments) = on_channel (k % count) segment ∷ dealt_from count (k + 1) segments

abbrev pub dealt : ℕ → List Segment → List Coming
dealt count segments = dealt_from count 0 segments

-- the segment on its channel, if there is one
abbrev pub coming_of : ℕ → Option Segment → List Coming
coming_of channel None = []
coming_of channel (Some segment) = on_channel channel segment ∷ []

-- From place k on so many segments of a cut, where index_at has the index of the segment at each
-- place, and channel_of the channel on which that of an index comes. A segment whose index is at no
-- place is lost.
abbrev pub dealt_out_from : (ℕ → ℕ) → (ℕ → ℕ) → List Segment → ℕ → ℕ → List Coming
dealt_out_from channel_of index_at segments k zero = []
dealt_out_from channel_of index_at segments k (suc n) =
    coming_of (channel_of (index_at k)) (slice_get segments (index_at k)) ++ dealt_out_from channel_of index_at segments (k + 1) n

abbrev pub dealt_out : (ℕ → ℕ) → (ℕ → ℕ) → List Segment → ℕ → List Coming
dealt_out channel_of index_at segments n = dealt_out_from channel_of index_at segments 0 n

-- So many segments are dealt out over channels of the flow, whatever others there are, and on each
-- come in the modem's order.
pub record AreDealtOut (flow : RuledFlow) (channel_of index_at : ℕ → ℕ) (segments : List Segment) (n : ℕ) : Type 0 where
  pub of_cut : (p : ℕ) → p < n → index_at p < length segments
  pub on_flow : (p : ℕ) → p < n → HasChannel flow (channel_of (index_at p))
  pub in_order : (p q : ℕ) → p < q → q < n → channel_of (index_at p) ≡ channel_of (index_at q) → index_at p < index_at q

-- Of any m indexes one after another, up to one that comes, each channel brings one, and none comes
-- after one that is d or more greater.
pub record AreSpreadOut (flow : RuledFlow) (channel_of index_at : ℕ → ℕ) (n m d : ℕ) : Type 0 where
  pub spread : (i p channel : ℕ) → p < n → HasChannel flow channel → i + m ≤ index_at p + 1
      → (q : ℕ) × (q < n) × (channel_of (index_at q) ≡ channel) × (i ≤ index_at q) × (index_at q < i + m)
  pub within : (p q : ℕ) → p < n → q < n → index_at q + d ≤ index_at p → q < p

-- They come in the modem's order, and after an outage at most 4096 less the window's width after
-- the one before.
pub record RiseOverOutages (width : ℕ) (index_at : ℕ → ℕ) (n : ℕ) : Type 0 where
  pub rise : (p q : ℕ) → p < q → q < n → index_at p < index_at q
  pub start : index_at 0 < numbers_ahead
  pub step : (p : ℕ) → p + 1 < n → index_at (p + 1) + width ≤ index_at p + numbers_ahead

-- One way to deal: of three segments one after another the second comes first, on channel 2, then
-- the first on channel 0, and the third is lost.
abbrev pub two_of_three : ℕ → ℕ
two_of_three p = 3 * (p / 2) + 1 - p % 2

abbrev pub channel_of_three : ℕ → ℕ
channel_of_three i = 2 * (i % 3)
