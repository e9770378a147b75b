-- What was handed in so far of a trace whose inputs and decisions are handed in as lines are read.
use Rattle.std.specs.Prelude.{◌≡◌, ◌<◌, Option, Some, None, List, [], length}
use Rattle.loss_rule.specs.declared.rule.LossRule.{LossRule}
use Rattle.receiver.specs.declared.setup.Setup.{Setup}
use Rattle.receiver.specs.declared.width.Width.{Width}
use Rattle.receiver.specs.Entries.{Entry}
use Rattle.text_lines.specs.Capacities.{default_capacity}
use Rattle.text_lines.specs.Format.{Format}
use Rattle.texts.specs.Trace.Line.{shape_of}
use Rattle.texts.specs.Trace.Place.{Said, nothing_said_in, trace_format}
use Rattle.texts.specs.Inside.SetupLines.{SetupSoFar, HasSetup}

-- What is known of lines that are handed in: what is known of what takes their entries, by which
-- rule and for which width they are handed in, and what they say.
pub record TraceState (State : Type 0) : Type 0 where
  pub state : State
  pub rule : LossRule
  pub width : Width
  pub said : Said

-- what is known where no line was read
abbrev pub nothing_taken : {State : Type 0} → State → LossRule → Width → TraceState State
nothing_taken state rule width = record { state = state; rule = rule; width = width; said = nothing_said_in (shape_of width default_capacity) }

-- The lines of a trace. What no line says is given before.
abbrev pub taking_format : {State : Type 0} → Format (TraceState State)
taking_format = record {
  Takes = λ before fields after.
      (after.state ≡ before.state) × (after.rule ≡ before.rule) × (after.width ≡ before.width) × trace_format.Takes before.said fields after.said;
  HasFault = λ above. trace_format.HasFault above.said;
}

module _ {State P : Type 0} (starts : State → Type 0) (has_taken : State → LossRule → Width → Setup → List Entry → P → Type 0) where
  -- These entries were handed in, or what may stand in for them, to what begins with the first.
  abbrev pub WereTaken : State → LossRule → Width → Setup → Option P → List Entry → Type 0
  WereTaken state rule width setup None entries = starts state × (entries ≡ [])
  WereTaken state rule width setup (Some taker) entries = (0 < length entries) × has_taken state rule width setup entries taker

  -- What the lines say was set up, and handed in by this rule for this width.
  pub record HasTakenLines (given : TraceState State) (width : Width) (rule : LossRule) (so_far : SetupSoFar) (taker : Option P) : Type 0 where
    pub width_is : width ≡ given.width
    pub rule_is : rule ≡ given.rule
    pub setup : HasSetup given.said so_far
    pub mailbox : so_far.setup.mailbox ≡ default_capacity
    pub taken : WereTaken given.state given.rule given.width so_far.setup taker given.said.entries
