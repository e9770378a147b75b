-- A flow that begins anew, of which each part is what a modem sends.
use Rattle.std.specs.Prelude.{◌≡◌, ℕ, Bool, List, [], ◌∷◌, ◌++◌, replicate}
use Rattle.docsis_wire.specs.declared.segment.Segment.{Segment}
use Rattle.docsis_wire.specs.Cut.{IsLawfulCut}
use Rattle.ccf.specs.Filter.{FiltersTo}
use Rattle.flow_core.specs.declared.event.Applied.{Applied}
use Rattle.flow_core.specs.Fates.{Fates}
use Rattle.flow_core.specs.Events.{FlowEvent, gap, IsAfter}
use Rattle.flow_core.specs.Near.{AreNear}
use Rattle.flow_core.specs.Delivery.{IsDeliverySequence}
use Rattle.flow_core.specs.Closing.{IsClosed}
use Rattle.loss_rule.specs.Rule.{Lasts, AreRuled}
use Rattle.loss_rule.specs.InOrder.{DecideSafely, IsAllCome}
use Rattle.bonded_flows.specs.FlowSetup.{FlowSetup, ruled_flow}
use Rattle.bonded_flows.specs.Parts.{FlowInput, Part, parts_over, last_part, begun_at}
use Rattle.receiver.specs.Modem.{ComeFromAModem}

-- all parts of a flow of which this was handed in, the last one too
abbrev pub all_parts : FlowSetup → List FlowInput → List Part
all_parts setup inputs = parts_over setup inputs ++ last_part setup inputs ∷ []

-- something gave these frames: the first of these what it gives, then each of the others in turn
abbrev pub GiveInTurn : {S : Type 0} → (S → List (List ℕ) → Type 0) → List S → List (List ℕ) → Type 0
GiveInTurn Gives [] frames = frames ≡ []
GiveInTurn Gives (one ∷ others) frames = (own rest : List (List ℕ)) × Gives one own × GiveInTurn Gives others rest × (frames ≡ own ++ rest)

module _ (check : List ℕ → Bool) (setup : FlowSetup) where
  -- A part that is of a modem which sends these frames, in channel order, where all falls into the
  -- window, and decisions lose nothing that still comes.
  pub record SentPart : Type 0 where
    pub part : Part
    pub frames : List (List ℕ)
    pub modem : ComeFromAModem setup.rule check (ruled_flow (begun_at setup part.first)) frames part.comings
    pub safe : DecideSafely setup.rule (ruled_flow (begun_at setup part.first)) part.comings modem.index_at

  -- it gives the modem's frames all of whose segments came to the part
  abbrev pub GivesAllThatCame : SentPart → List (List ℕ) → Type 0
  GivesAllThatCame sent gave = FiltersTo (IsAllCome sent.frames sent.modem.chunks sent.part.comings sent.modem.index_at) sent.frames gave

  -- A part of which what comes by the rule is near, of one lawful cut of these frames.
  pub record NearPart : Type 0 where
    pub part : Part
    pub frames : List (List ℕ)
    pub chunks : List (List ℕ)
    pub fill : ℕ
    pub segments : List Segment
    pub cut : IsLawfulCut check frames part.first fill chunks segments
    pub near : (events : List FlowEvent) (lasts : Lasts) (fates : Fates)
        → AreRuled setup.rule (ruled_flow (begun_at setup part.first)) part.comings events lasts fates
        → AreNear part.first setup.flow_record.window segments events

  -- it gives its delivery sequence, of what by the rule comes to it and of its close
  pub record GivesItsSequence (near : NearPart) (gave : List (List ℕ)) : Type 0 where
    pub events : List FlowEvent
    pub lasts : Lasts
    pub before : Fates
    pub ruled : AreRuled setup.rule (ruled_flow (begun_at setup near.part.first)) near.part.comings events lasts before
    pub n : ℕ
    pub answers : List Applied
    pub fates : Fates
    pub after : IsAfter near.part.first setup.flow_record.window (events ++ replicate n gap) answers fates
    pub closed : IsClosed fates
    pub sequence : IsDeliverySequence near.frames near.chunks fates gave
