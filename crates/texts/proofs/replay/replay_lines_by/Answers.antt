use Rattle.std.proofs.Common.{ℕ, List, refl, subst}
use Rattle.std.proofs.lemmas.Result.{err_from_is_err_and}
use Rattle.text_lines.specs.Capacities.{default_capacity}
use Rattle.text_lines.specs.Fault.{text_fault_of_parse}
use Rattle.text_lines.specs.Format.{IsRead}
use Rattle.text_lines.specs.Lines.{lines_of}
use Rattle.texts.specs.Replay.{IsPlayedBy, IsReplayFault}
use Rattle.texts.specs.Trace.Place.{nothing_said, trace_format}
use Rattle.loss_rule.specs.declared.rule.LossRule.{LossRule}
use Rattle.texts.proofs.HandedLines.{read_alone}
use Rattle.texts.proofs.OneReplay.{replay_fault}
use Rattle.texts.proofs.replay.replay_lines_by.Goals as goal

pub returns-in_err-take_lines-clause-fault : goal.returns-in_err-take_lines-clause-fault
returns-in_err-take_lines-clause-fault c =
    let p = err_from_is_err_and c.from_residual-in_err-take_lines.result c.from_residual-in_err-take_lines.ensures.1 in
    let faulty = c.in_err-take_lines.ensures.fault _ (c.in_ok-lines.ensures.lines tt tt) in
    rw (p.1, p.2)
    (subst (λ (input : List ℕ). IsReplayFault input (text_fault_of_parse c.in_err-take_lines.field-0.0)) c.deref.ensures.value
    (replay_fault _ c.deref.result.now c.in_err-take_lines.field-0.0 refl faulty))

pub finish_replay-requires : goal.finish_replay-requires
finish_replay-requires c = let read = c.in_ok-take_lines.ensures.read _ (c.in_ok-lines.ensures.lines tt tt) in (read.0, read.2)

pub returns-clause-text : goal.returns-clause-text
returns-clause-text c =
    let read = c.in_ok-take_lines.ensures.read _ (c.in_ok-lines.ensures.lines tt tt) in
    let all = read_alone read.1 in
    let said = read.0.said in
    let outcome = c.in_ok-outcome.outcome in
    record {
      said = said;
      read = subst (λ (input : List ℕ). IsRead trace_format (nothing_said default_capacity) (lines_of input) said) c.deref.ensures.value all.3;
      outcome = outcome;
      played = subst (λ (rule : LossRule). IsPlayedBy rule said outcome) all.1 (c.in_ok-outcome.ensures read.0 read.2);
      printed = c.in_ok-report.ensures;
    }
