-- Words are read as what they ask for.
use Rattle.std.proofs.Common.{Bool, Ok, sym, ap, ◌∙◌, arith}
use Rattle.std.proofs.lemmas.Option.{same_Some}
use Rattle.std.specs.Prelude.{map, codes}
use Rattle.loss_rule.specs.declared.rule.LossRule.{LossRule}
use Rattle.flow_selection.specs.declared.selection.Selection.TheVariants.{All}
use Rattle.command_line.specs.declared.command.Command.TheVariants.{Follow}
use Rattle.command_line.specs.Channels.{channels_max}
use Rattle.command_line.specs.Command.{options_in, last_followed}
use Rattle.command_line.proofs.AskedRules.{AskForRule-alone}
use Rattle.command_line.proofs.AskedEvents.{AskForRule-follow, AskForEvents-alone}
use Rattle.command_line.proofs.AskedChannels.{AskForChannels-alone}
use Rattle.command_line.proofs.AskedFlows.{AsksToReplayFlows-alone, AskForFlows-follow}
use Rattle.command_line.proofs.AskedWithoutHelp.{replays_without_help, runs_without_help, follows_without_help}
use Rattle.command_line.proofs.CommandsApart.{commands_apart, replay_is_not_run, follow_is_not_replay, follow_is_not_run}
use Rattle.command_line.proofs.AskedWords.{AsksForAnEngine-with_options}
use Rattle.command_line.proofs.command.read_words.Goals as goal
use Rattle.command_line.proofs.command.read_words.Goals.{then-not-asks_alone+in_ok-read_with_options+in-Help-1, then-not-asks_alone+in_ok-read_with_options+in-Join-1, then-not-asks_alone+in_ok-read_with_options+in-Replay+in-Listed-1, then-not-asks_alone+in_ok-read_with_options+in-Replay+in-All-1, then-not-asks_alone+in_ok-read_with_options+in-Follow+in-Listed-1, then-not-asks_alone+in_ok-read_with_options+in-Follow+in-All-1, else-not-asks_alone}

pub returns-in-Some-clause-asked : goal.returns-in-Some-clause-asked
returns-in-Some-clause-asked g c =
    let words = map g.S.AsStr.text c.args.words.now in
    let replays = (c.asked_replay_alone.ensures c.in-Some.rule).0 c.in-Some.is in
    (AsksToReplayFlows-alone c.in-Some.rule words replays, replays_without_help c.in-Some.rule words replays)

pub returns-in-Some-clause-replay : goal.returns-in-Some-clause-replay
returns-in-Some-clause-replay g c = λ rule asks. cc ((c.asked_replay_alone.ensures rule).1 asks, c.in-Some.is)

pub returns-in-Some-clause-run : goal.returns-in-Some-clause-run
returns-in-Some-clause-run g c = λ rule asks.
    let replays = (c.asked_replay_alone.ensures c.in-Some.rule).0 c.in-Some.is in
    absurd (commands_apart (codes "replay") (codes "run") replay_is_not_run (map g.S.AsStr.text c.args.words.now) replays.0 asks.0)

pub returns-in-Some-asked_run_alone-clause-asked : goal.returns-in-Some-asked_run_alone-clause-asked
returns-in-Some-asked_run_alone-clause-asked g c =
    let words = map g.S.AsStr.text c.args.words.now in
    let rule = c.in-Some-asked_run_alone.rule in
    let runs = (c.asked_run_alone.ensures rule).0 c.in-Some-asked_run_alone.is in
    ((runs.0, AskForRule-alone rule (options_in words) runs.1), runs_without_help rule words runs, omega arith, omega arith)

pub returns-in-Some-asked_run_alone-clause-replay : goal.returns-in-Some-asked_run_alone-clause-replay
returns-in-Some-asked_run_alone-clause-replay g c = λ rule asks. absurd (c.in_default.not-Some rule ((c.asked_replay_alone.ensures rule).1 asks))

pub returns-in-Some-asked_run_alone-clause-run : goal.returns-in-Some-asked_run_alone-clause-run
returns-in-Some-asked_run_alone-clause-run g c = λ rule asks. cc ((c.asked_run_alone.ensures rule).1 asks, c.in-Some-asked_run_alone.is)

pub returns-in_default-before_help-clause-run : goal.returns-in_default-before_help-clause-run
returns-in_default-before_help-clause-run g c = λ rule asks. absurd (c.in_default-asked_run_alone.not-Some rule ((c.asked_run_alone.ensures rule).1 asks))

pub returns-in_err-help_text-clause-run : goal.returns-in_err-help_text-clause-run
returns-in_err-help_text-clause-run g c = λ rule asks. absurd (c.in_default-asked_run_alone.not-Some rule ((c.asked_run_alone.ensures rule).1 asks))

pub returns-clause-run : goal.returns-clause-run
returns-clause-run g c = λ rule asks. absurd (c.in_default-asked_run_alone.not-Some rule ((c.asked_run_alone.ensures rule).1 asks))

pub returns-in_default-before_help-clause-replay : goal.returns-in_default-before_help-clause-replay
returns-in_default-before_help-clause-replay g c = λ rule asks. absurd (c.in_default.not-Some rule ((c.asked_replay_alone.ensures rule).1 asks))

pub returns-in_err-help_text-clause-replay : goal.returns-in_err-help_text-clause-replay
returns-in_err-help_text-clause-replay g c = λ rule asks. absurd (c.in_default.not-Some rule ((c.asked_replay_alone.ensures rule).1 asks))

pub returns-clause-replay : goal.returns-clause-replay
returns-clause-replay g c = λ rule asks. absurd (c.in_default.not-Some rule ((c.asked_replay_alone.ensures rule).1 asks))

pub returns-clause-asked : goal.returns-clause-asked
returns-clause-asked g c =
    let before = map g.S.AsStr.text c.in-Some-before_help.before.now in
    elim c.if-not-asks_alone.branch [
      | then-not-asks_alone+in_ok-read_with_options+in-Help-1 w ↦
          (before, c.in-Some-before_help.ensures, AsksForAnEngine-with_options before w.in_ok-read_with_options.field-0 w.in_ok-read_with_options.ensures)
      | then-not-asks_alone+in_ok-read_with_options+in-Join-1 w ↦
          (before, c.in-Some-before_help.ensures, AsksForAnEngine-with_options before w.in_ok-read_with_options.field-0 w.in_ok-read_with_options.ensures)
      | then-not-asks_alone+in_ok-read_with_options+in-Replay+in-Listed-1 w ↦
          (before, c.in-Some-before_help.ensures, AsksForAnEngine-with_options before w.in_ok-read_with_options.field-0 w.in_ok-read_with_options.ensures)
      | then-not-asks_alone+in_ok-read_with_options+in-Replay+in-All-1 w ↦
          (before, c.in-Some-before_help.ensures, AsksForAnEngine-with_options before w.in_ok-read_with_options.field-0 w.in_ok-read_with_options.ensures)
      | then-not-asks_alone+in_ok-read_with_options+in-Follow+in-Listed-1 w ↦
          (before, c.in-Some-before_help.ensures, AsksForAnEngine-with_options before w.in_ok-read_with_options.field-0 w.in_ok-read_with_options.ensures)
      | then-not-asks_alone+in_ok-read_with_options+in-Follow+in-All-1 w ↦
          (before, c.in-Some-before_help.ensures, AsksForAnEngine-with_options before w.in_ok-read_with_options.field-0 w.in_ok-read_with_options.ensures)
      | else-not-asks_alone w ↦
          (before, c.in-Some-before_help.ensures, c.asks_alone.ensures w.if-not-asks_alone.false)
    ]

pub returns-in-Some-clause-follow : goal.returns-in-Some-clause-follow
returns-in-Some-clause-follow g c = λ rule events asks.
    let replays = (c.asked_replay_alone.ensures c.in-Some.rule).0 c.in-Some.is in
    absurd (commands_apart (codes "follow") (codes "replay") follow_is_not_replay (map g.S.AsStr.text c.args.words.now) asks.0 replays.0)

pub returns-in-Some-asked_run_alone-clause-follow : goal.returns-in-Some-asked_run_alone-clause-follow
returns-in-Some-asked_run_alone-clause-follow g c = λ rule events asks.
    let runs = (c.asked_run_alone.ensures c.in-Some-asked_run_alone.rule).0 c.in-Some-asked_run_alone.is in
    absurd (commands_apart (codes "follow") (codes "run") follow_is_not_run (map g.S.AsStr.text c.args.words.now) asks.0 runs.0)

pub returns-in-Some-asked_follow_alone-clause-asked : goal.returns-in-Some-asked_follow_alone-clause-asked
returns-in-Some-asked_follow_alone-clause-asked g c =
    let words = map g.S.AsStr.text c.args.words.now in
    let rule = c.in-Some-asked_follow_alone.rule in
    let events = c.in-Some-asked_follow_alone.events in
    let follows = (c.asked_follow_alone.ensures rule events).0 c.in-Some-asked_follow_alone.is in (
      (follows.0, AskForRule-follow rule events (options_in words) follows.1, AskForChannels-alone rule events (options_in words) follows.1),
      follows_without_help rule events words follows,
      AskForEvents-alone rule events (options_in words) follows.1,
      AskForFlows-follow last_followed rule events (options_in words) follows.1,
    )

pub returns-in-Some-asked_follow_alone-clause-replay : goal.returns-in-Some-asked_follow_alone-clause-replay
returns-in-Some-asked_follow_alone-clause-replay g c = λ rule asks. absurd (c.in_default.not-Some rule ((c.asked_replay_alone.ensures rule).1 asks))

pub returns-in-Some-asked_follow_alone-clause-run : goal.returns-in-Some-asked_follow_alone-clause-run
returns-in-Some-asked_follow_alone-clause-run g c = λ rule asks. absurd (c.in_default-asked_run_alone.not-Some rule ((c.asked_run_alone.ensures rule).1 asks))

pub returns-in-Some-asked_follow_alone-clause-follow : goal.returns-in-Some-asked_follow_alone-clause-follow
returns-in-Some-asked_follow_alone-clause-follow g c = λ rule events asks.
    let found = c.in-Some-asked_follow_alone in
    let same = same_Some (found.rule, found.events) (rule, events) (sym found.is ∙ (c.asked_follow_alone.ensures rule events).1 asks) in
    ap (λ (asked : LossRule × Bool). Ok (Follow asked.0 channels_max asked.1 All)) same

pub returns-in_default-before_help-clause-follow : goal.returns-in_default-before_help-clause-follow
returns-in_default-before_help-clause-follow g c = λ rule events asks.
    absurd (c.in_default-asked_follow_alone.not-Some (rule, events) ((c.asked_follow_alone.ensures rule events).1 asks))

pub returns-in_err-help_text-clause-follow : goal.returns-in_err-help_text-clause-follow
returns-in_err-help_text-clause-follow g c = λ rule events asks.
    absurd (c.in_default-asked_follow_alone.not-Some (rule, events) ((c.asked_follow_alone.ensures rule events).1 asks))

pub returns-clause-follow : goal.returns-clause-follow
returns-clause-follow g c = λ rule events asks.
    absurd (c.in_default-asked_follow_alone.not-Some (rule, events) ((c.asked_follow_alone.ensures rule events).1 asks))

pub returns-in_err-read_with_options-clause-run : goal.returns-in_err-read_with_options-clause-run
returns-in_err-read_with_options-clause-run g c = λ rule asks. absurd (c.in_default-asked_run_alone.not-Some rule ((c.asked_run_alone.ensures rule).1 asks))

pub returns-in_err-read_with_options-clause-replay : goal.returns-in_err-read_with_options-clause-replay
returns-in_err-read_with_options-clause-replay g c = λ rule asks. absurd (c.in_default.not-Some rule ((c.asked_replay_alone.ensures rule).1 asks))

pub returns-in_err-read_with_options-clause-follow : goal.returns-in_err-read_with_options-clause-follow
returns-in_err-read_with_options-clause-follow g c = λ rule events asks.
    absurd (c.in_default-asked_follow_alone.not-Some (rule, events) ((c.asked_follow_alone.ensures rule events).1 asks))
