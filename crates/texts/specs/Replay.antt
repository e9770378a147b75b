-- The text that stands for a trace.
use Rattle.std.specs.Prelude.{◌≡◌, ℕ, List, map}
use Rattle.loss_rule.specs.declared.rule.LossRule.{LossRule}
use Rattle.receiver.specs.declared.outcome.Outcome.{Outcome}
use Rattle.receiver.specs.declared.setup.Setup.{Setup}
use Rattle.receiver.specs.Entries.{tag_of, incoming_in}
use Rattle.receiver.specs.Outcome.{IsOutcome}
use Rattle.receiver.specs.Ruled.{IsOutcomeBy}
use Rattle.receiver.specs.AdmittedOrder.{IsAdmittedOrder}
use Rattle.text_lines.specs.declared.fault.TextFault.{TextFault}
use Rattle.text_lines.specs.declared.fault.TextFault.TheVariants.{Trace, Cut, OutOfMemory}
use Rattle.text_lines.specs.Capacities.{default_capacity}
use Rattle.text_lines.specs.Lines.{lines_of}
use Rattle.text_lines.specs.Format.{IsRead, IsFirstFaultyLine}
use Rattle.texts.specs.AnyHeader.{any_header}
use Rattle.texts.specs.Report.{report_text}
use Rattle.texts.specs.Trace.Place.{Said, nothing_said, trace_format}

-- the setup that lines give which say this: the flows and the rows, with mailboxes of the capacity
-- that is taken where none is asked for
pub record IsSetupOf (said : Said) (setup : Setup) : Type 0 where
  pub flows : setup.flows.items ≡ said.flows
  pub sids : setup.sids.items ≡ said.sids
  pub mailbox : setup.mailbox ≡ default_capacity

-- what lines give that say this: the one-thread answer, in the order in which they say that what
-- was admitted came
pub record IsPlayed (said : Said) (outcome : Outcome) : Type 0 where
  pub setup : Setup
  pub given : IsSetupOf said setup
  pub order : List ℕ
  pub admitted : IsAdmittedOrder setup (incoming_in said.entries) (map tag_of said.entries) order
  pub answered : IsOutcome any_header setup (incoming_in said.entries) order outcome

-- the text that stands for an input: the report of what its lines give
pub record IsReplayed (input text : List ℕ) : Type 0 where
  pub said : Said
  pub read : IsRead trace_format (nothing_said default_capacity) (lines_of input) said
  pub outcome : Outcome
  pub played : IsPlayed said outcome
  pub printed : text ≡ report_text outcome

-- what lines that say this give by a loss rule: the one-thread answer by that rule, in the same
-- order
pub record IsPlayedBy (rule : LossRule) (said : Said) (outcome : Outcome) : Type 0 where
  pub setup : Setup
  pub given : IsSetupOf said setup
  pub order : List ℕ
  pub admitted : IsAdmittedOrder setup (incoming_in said.entries) (map tag_of said.entries) order
  pub answered : IsOutcomeBy rule any_header setup (incoming_in said.entries) order outcome

-- the text that stands for an input by a loss rule: the report of what its lines give by it
pub record IsReplayedBy (rule : LossRule) (input text : List ℕ) : Type 0 where
  pub said : Said
  pub read : IsRead trace_format (nothing_said default_capacity) (lines_of input) said
  pub outcome : Outcome
  pub played : IsPlayedBy rule said outcome
  pub printed : text ≡ report_text outcome

-- why an input has no report, with rings of this capacity: its first faulty line, or a failed
-- allocation
abbrev pub IsReportFault : ℕ → List ℕ → TextFault → Type 0
IsReportFault ring input (Trace fault) = IsFirstFaultyLine trace_format (nothing_said ring) (lines_of input) fault
IsReportFault ring input (Cut fault) = ⊥
IsReportFault ring input OutOfMemory = Unit {0}

-- why an input was not replayed
abbrev pub IsReplayFault : List ℕ → TextFault → Type 0
IsReplayFault = IsReportFault default_capacity
