use Rattle.std.proofs.Common.{◌≡◌, Bool, inr, refl}
use Rattle.std.specs.Prelude.{map}
use Rattle.flow_selection.specs.declared.selection.Selection.TheVariants.{All}
use Rattle.loss_rule.specs.declared.rule.LossRule.{LossRule}
use Rattle.command_line.specs.declared.command.Command.TheVariants.{Join, Replay, Run, Follow, Map}
use Rattle.engines.specs.Fault.{usage_fault}
use Rattle.command_line.specs.Command.{AsksToJoin, AsksToReplayBy, AsksToRunByAlone, AsksToFollowAlone, AsksToMap}
use Rattle.command_line.specs.Channels.{channels_max}
use Rattle.text_lines.specs.Capacities.{default_capacity}
use Rattle.engines.specs.Device.{inner_of}
use Rattle.commands.proofs.ShownWords.{shown-asked}
use Rattle.commands.proofs.ObeyedWords.{Obeys-performed, Obeys-refused, is_fault}
use Rattle.commands.proofs.whole_program.obey.Goals as goal

pub returns-clause-obeys : goal.returns-clause-obeys
returns-clause-obeys g c =
    let words = map g.S.AsStr.text c.args.words.now in
    let joins : AsksToJoin words → c.in_ok-command.command ≡ Join = λ asks. cc (c.in_ok-command.was, c.read_words.ensures.join asks) in
    let maps : AsksToMap words → c.in_ok-command.command ≡ Map = λ asks. cc (c.in_ok-command.was, c.read_words.ensures.map asks) in
    let replays : (rule : LossRule) → AsksToReplayBy rule words → c.in_ok-command.command ≡ Replay rule All =
    λ rule asks. cc (c.in_ok-command.was, c.read_words.ensures.replay rule asks)
    in
    let runs : (rule : LossRule) → AsksToRunByAlone rule words → c.in_ok-command.command ≡ Run rule default_capacity default_capacity =
    λ rule asks. cc (c.in_ok-command.was, c.read_words.ensures.run rule asks)
    in
    let follows : (rule : LossRule) (events : Bool) → AsksToFollowAlone rule events words → c.in_ok-command.command ≡ Follow rule channels_max events All =
    λ rule events asks. cc (c.in_ok-command.was, c.read_words.ensures.follow rule events asks)
    in
    Obeys-performed g.R.Read.remaining g.W.Write.contents words c.args.reader.now c.perform.new.reader c.args.out.now c.perform.new.out
    c.in_ok-command.command c.perform.result c.replay_by_decisions_alone_is_a_replay.ensures.replay c.run_by_decisions_alone_is_a_run.ensures.run
    c.report_of_all_flows_is_the_report.ensures.replay c.requires.reader c.requires.out c.in_ok-command.ensures.asked joins maps replays runs follows c.perform.ensures.performs

pub returns-in_err-command-clause-obeys : goal.returns-in_err-command-clause-obeys
returns-in_err-command-clause-obeys g c =
    let words = map g.S.AsStr.text c.args.words.now in
    let no_join : ¬ AsksToJoin words = λ asks. absurd (cc (c.in_err-command.was, c.read_words.ensures.join asks)) in
    let no_map : ¬ AsksToMap words = λ asks. absurd (cc (c.in_err-command.was, c.read_words.ensures.map asks)) in
    let no_replay : (rule : LossRule) → ¬ AsksToReplayBy rule words =
    λ rule asks. absurd (cc (c.in_err-command.was, c.read_words.ensures.replay rule asks))
    in
    let no_alone : (rule : LossRule) → ¬ AsksToRunByAlone rule words =
    λ rule asks. absurd (cc (c.in_err-command.was, c.read_words.ensures.run rule asks))
    in
    let no_follow : (rule : LossRule) (events : Bool) → ¬ AsksToFollowAlone rule events words =
    λ rule events asks. absurd (cc (c.in_err-command.was, c.read_words.ensures.follow rule events asks))
    in
    rw (is_fault (usage_fault c.in_err-command.field-0.0) c.from_residual.result c.from_residual.ensures.1)
    (Obeys-refused g.R.Read.remaining g.W.Write.contents words c.args.reader.now c.args.out.now c.in_err-command.field-0.0 c.requires.reader no_join no_replay no_alone no_follow no_map)

pub returns-clause-shown : goal.returns-clause-shown
returns-clause-shown g c =
    shown-asked g.R.ReadBehind.after g.R.Read.remaining g.W.Write.contents (map g.S.AsStr.text c.args.words.now) (inner_of c.args.reader.now) (inner_of c.perform.new.reader)
    (inner_of c.args.out.now) c.in_ok-command.command c.in_ok-command.ensures.asked c.perform.ensures.shown

pub returns-in_err-command-clause-shown : goal.returns-in_err-command-clause-shown
returns-in_err-command-clause-shown g c = λ is start made. inr refl
