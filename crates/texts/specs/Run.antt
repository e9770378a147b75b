-- The text of a trace that is received on threads.
use Rattle.std.specs.Prelude.{◌≡◌, ℕ, List}
use Rattle.loss_rule.specs.declared.rule.LossRule.{LossRule}
use Rattle.receiver.specs.declared.outcome.Outcome.{Outcome}
use Rattle.receiver.specs.Items.{incoming_of}
use Rattle.receiver.specs.Outcome.{IsOutcome}
use Rattle.receiver.specs.Ruled.{IsOutcomeBy}
use Rattle.texts.specs.declared.trace.Trace.{Trace as TraceValue}
use Rattle.texts.specs.AnyHeader.{any_header}
use Rattle.texts.specs.Report.{report_text}
use Rattle.texts.specs.Trace.{IsTrace}

-- what a trace may give on threads: the one-thread answer in the order that the outcome states,
-- which is a lawful one of all that its lines admit
abbrev pub IsReceived : TraceValue → Outcome → Type 0
IsReceived trace outcome = IsOutcome any_header trace.setup (incoming_of trace.lists) outcome.order.items outcome

-- a text that an input may have on threads: the report of what its trace may give
pub record IsRunText (ring mailbox : ℕ) (input text : List ℕ) : Type 0 where
  pub trace : TraceValue
  pub is_trace : IsTrace ring mailbox input trace
  pub outcome : Outcome
  pub received : IsReceived trace outcome
  pub printed : text ≡ report_text outcome

-- what a trace may give on threads by a loss rule: the one-thread answer by that rule, in the order
-- that the outcome states
abbrev pub IsReceivedBy : LossRule → TraceValue → Outcome → Type 0
IsReceivedBy rule trace outcome = IsOutcomeBy rule any_header trace.setup (incoming_of trace.lists) outcome.order.items outcome

-- a text that an input may have on threads by a loss rule: the report of what its trace may give
-- by it
pub record IsRunTextBy (rule : LossRule) (ring mailbox : ℕ) (input text : List ℕ) : Type 0 where
  pub trace : TraceValue
  pub is_trace : IsTrace ring mailbox input trace
  pub outcome : Outcome
  pub received : IsReceivedBy rule trace outcome
  pub printed : text ≡ report_text outcome
