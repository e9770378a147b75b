-- What comes to a flow where all its segments are those of one modem.
use Rattle.std.specs.Prelude.{ℕ, zero, suc, ◌+◌, ◌%◌, Bool, List, [], ◌∷◌, map}
use Rattle.docsis_wire.specs.declared.segment.Segment.{Segment}
use Rattle.docsis_wire.specs.Cut.{IsLawfulCut}
use Rattle.flow_records.specs.declared.event.Event.{Event}
use Rattle.flow_records.specs.declared.event.Event.TheVariants.{Arrive}
use Rattle.lane.specs.Limits.{channel_limit}
use Rattle.loss_rule.specs.declared.rule.LossRule.{LossRule}
use Rattle.loss_rule.specs.Rule.{Coming, RuledFlow}
use Rattle.loss_rule.specs.InOrder.{AreInChannelOrder, FallIntoTheWindow}

-- What comes to a flow is of a modem that sends these frames: of one lawful cut of them, none
-- twice, on each channel in the modem's order, and each segment falls into the window.
pub record ComeFromAModem (rule : LossRule) (check : List ℕ → Bool) (flow : RuledFlow) (frames : List (List ℕ)) (comings : List Coming) : Type 0 where
  pub chunks : List (List ℕ)
  pub fill : ℕ
  pub segments : List Segment
  pub cut : IsLawfulCut check frames flow.first fill chunks segments
  pub index_at : ℕ → ℕ
  pub in_order : AreInChannelOrder flow segments comings index_at
  pub falls : FallIntoTheWindow rule flow comings index_at

-- the channels of n segments that come in turn over all channels, from index i on
abbrev pub turns_from : ℕ → ℕ → List ℕ
turns_from i zero = []
turns_from i (suc n) = i % channel_limit ∷ turns_from (i + 1) n

-- these segments arrive, each at flow k
abbrev pub all_arrive : ℕ → List Segment → List Event
all_arrive k segments = map (Arrive k) segments
