-- What the step that obeys the words promises, by the command that they were read as.
use Rattle.std.proofs.Common.{◌≡◌, ℕ, ◌≤◌, ◌^◌, ◌-◌, ◌⊎◌, Bool, true, false, List, [], ◌∷◌, length, Option, Some, Result, Ok, Err, OnOk, IfErr, inl, inr, refl, sym, ap, ◌∙◌, subst, arith}
use Rattle.std.specs.Prelude.{string_bytes, codes, slice_get, IsErrAnd}
use Rattle.docsis_wire.proofs.StreamPlaces.{slice_get-at}
use Rattle.loss_rule.specs.declared.rule.LossRule.{LossRule}
use Rattle.loss_rule.specs.declared.rule.LossRule.TheVariants.{Decided}
use Rattle.flow_selection.specs.declared.selection.Selection.{Selection}
use Rattle.flow_selection.specs.declared.selection.Selection.TheVariants.{All}
use Rattle.texts.specs.Selected.{IsReplayedOf}
use Rattle.engines.specs.declared.device.Device.{Device}
use Rattle.command_line.specs.declared.command.Command.{Command}
use Rattle.command_line.specs.declared.command.Command.TheVariants.{Join, Cut, Replay, Run, Follow, Map, Help}
use Rattle.command_line.specs.declared.command.UsageFault.{UsageFault}
use Rattle.command_line.specs.declared.command.UsageFault.TheVariants as usage
use Rattle.engines.specs.declared.fault.EngineFault.{EngineFault}
use Rattle.engines.specs.declared.fault.EngineFault.TheVariants.{Read, Write}
use Rattle.text_lines.specs.Capacities.{default_capacity}
use Rattle.text_lines.specs.declared.fault.TextFault.{TextFault}
use Rattle.texts.specs.Join.{IsJoined, IsJoinFault}
use Rattle.texts.specs.Cut.{IsCutText, IsCutFault}
use Rattle.texts.specs.Replay.{IsReplayed, IsReplayedBy, IsReplayFault, IsReportFault}
use Rattle.texts.specs.Run.{IsRunText, IsRunTextBy}
use Rattle.engines.specs.Device.{inner_of, has_failed, given_of, IsFresh}
use Rattle.engines.specs.Transfer.{IsReadFault}
use Rattle.std.specs.Io.KnownBytes.{IsAtEnd}
use Rattle.engines.specs.Fault.{usage_fault}
use Rattle.engines.specs.Engine.{HasCause, RunsEngine}
use Rattle.command_line.specs.Command.{options_in, AsksToJoin, AsksToReplay, AsksToReplayBy, AsksToRun, AsksToRunBy, AsksToRunByAlone, AsksToFollow, AsksToFollowAlone, AsksToMap, IsCommand, AsksForHelp, HasNoHelpWord, Asks}
use Rattle.command_line.specs.Channels.{channels_max}
use Rattle.command_line.proofs.AskedChannels.{AskForChannels-one}
use Rattle.command_line.proofs.AskedRules.{AskForRule-one}
use Rattle.command_line.proofs.AskedWithoutHelp.{map_without_help}
use Rattle.command_line.proofs.CommandsApart.{commands_apart, cut_is_not_run, cut_is_not_replay, replay_is_not_run, follow_is_not_cut, follow_is_not_run, follow_is_not_replay, cut_is_not_map, replay_is_not_map, run_is_not_map, follow_is_not_map, maps_alone, join_is_another, join_is_not_cut, join_is_not_replay, join_is_not_run, join_is_not_follow, join_is_not_map}
use Rattle.engines.proofs.WeakerTexts.{RunsEngine-weaker}
use Rattle.engines.specs.Following.{HasFollowCause}
use Rattle.texts.specs.Follow.{of_all_flows}
use Rattle.receiver.specs.declared.width.Width.{Width}
use Rattle.capture_engines.specs.Mapping.{HasMapCause, MapsCapture}
use Rattle.commands.specs.Program.{AsksToReplayOnly, RunsReplay, AsksToCutOnly, AsksToRunOnly, AsksToRunByOnly, AsksToFollowOnly, AsksForNothing, RunsCut, RunsRun, RunsRunBy, RunsRunAlone, RunsFollowBy, RunsFollow, WritesHelp, Obeys}
use Rattle.commands.specs.Inside.Program.{Performs}

-- where no rule is asked for, `Decided` is
replays_by_decisions : (words : List (List ℕ)) → AsksToReplay words → AsksToReplayBy Decided words
replays_by_decisions [] asks = absurd asks
replays_by_decisions (name ∷ []) asks = absurd asks
replays_by_decisions (name ∷ word ∷ []) asks = (asks, refl)
replays_by_decisions (name ∷ word ∷ another ∷ more) asks = absurd asks

runs_by_decisions : (words : List (List ℕ)) → AsksToRun words → AsksToRunBy Decided words
runs_by_decisions words asks = (asks.0, inl (asks.1, refl))

-- by decisions alone the texts by the rule are those without one
abbrev pub ReplaysByDecisions : Type 0
ReplaysByDecisions = (input text : List ℕ) → IsReplayedBy Decided input text → IsReplayed input text

-- and a report of all flows is the whole one
abbrev pub ReplaysAll : Type 0
ReplaysAll = (rule : LossRule) (input text : List ℕ) → IsReplayedOf All rule input text → IsReplayedBy rule input text

abbrev pub RunsByDecisions : Type 0
RunsByDecisions = (ring mailbox : ℕ) (input text : List ℕ) → IsRunTextBy Decided ring mailbox input text → IsRunText ring mailbox input text

module _ {R W : Type 0} (remaining : R → Option (List ℕ)) (contents : W → Option (List ℕ)) (words : List (List ℕ)) (reader reader' : Device R)
    (writer writer' : Device W) where
  -- so are the promises where no rule is asked for
  replayed_by_decisions : (result : Result (Unit {0}) EngineFault) → ReplaysByDecisions
      → ((rule : LossRule) → AsksToReplayBy rule words → RunsEngine remaining contents (IsReplayedBy rule) IsReplayFault reader reader' writer writer' result)
      → AsksToReplay words → RunsEngine remaining contents IsReplayed IsReplayFault reader reader' writer writer' result
  replayed_by_decisions result same replays asks =
      RunsEngine-weaker remaining contents (IsReplayedBy Decided) IsReplayed IsReplayFault reader reader' writer writer' result same
      (replays Decided (replays_by_decisions words asks))

  received_by_decisions : (result : Result (Unit {0}) EngineFault) → RunsByDecisions
      → ((rule : LossRule) → AsksToRunByOnly rule words → RunsRunBy rule remaining contents reader reader' writer writer' result)
      → AsksToRunOnly words → RunsRun remaining contents reader reader' writer writer' result
  received_by_decisions result same runs asks =
      let ran = runs Decided (runs_by_decisions words asks.0, asks.1) in (
        ran.0,
        ran.1,
        ran.2,
        ran.3,
        RunsEngine-weaker remaining contents (IsRunTextBy Decided ran.1 ran.0) (IsRunText ran.1 ran.0) (IsReportFault ran.1) reader reader' writer writer'
            result (same ran.1 ran.0) ran.4,
      )

  -- words that ask for an engine, and not for help, have what it promises
  Obeys-engine : (IsText : List ℕ → List ℕ → Type 0) (IsFault : List ℕ → TextFault → Type 0) (result : Result (Unit {0}) EngineFault)
      → ReplaysByDecisions → RunsByDecisions
      → RunsEngine remaining contents IsText IsFault reader reader' writer writer' result
      → (AsksToJoin words → RunsEngine remaining contents IsJoined IsJoinFault reader reader' writer writer' result)
      → (AsksToCutOnly words → RunsCut remaining contents reader reader' writer writer' result)
      → ((rule : LossRule) → AsksToReplayBy rule words → RunsEngine remaining contents (IsReplayedBy rule) IsReplayFault reader reader' writer writer' result)
      → ((rule : LossRule) → AsksToReplayOnly rule words → RunsReplay rule words remaining contents reader reader' writer writer' result)
      → ((rule : LossRule) → AsksToRunByOnly rule words → RunsRunBy rule remaining contents reader reader' writer writer' result)
      → ((rule : LossRule) → AsksToRunByAlone rule words → RunsRunAlone rule remaining contents reader reader' writer writer' result)
      → ((rule : LossRule) (channels : ℕ) → ¬ AsksToFollow rule channels words)
      → ((rule : LossRule) (events : Bool) → AsksToFollowAlone rule events words → RunsFollowBy rule channels_max (of_all_flows events) remaining contents reader reader' writer writer' result)
      → ¬ AsksToMap words
      → ¬ AsksForNothing words → (¬ AsksToJoin words → HasNoHelpWord words) → Obeys remaining contents words reader reader' writer writer' result
  Obeys-engine IsText IsFault (Ok done) replay_same run_same ran joins cuts replays for_flows runs alone no_follow followed no_map something no_help = record {
    join = joins;
    cut = λ asks. inl (cuts asks);
    replay = replayed_by_decisions (Ok done) replay_same replays;
    run = λ asks. inl (received_by_decisions (Ok done) run_same runs asks);
    replay_by = replays;
    replay_flows = λ rule asks. inl (for_flows rule asks);
    run_by = λ rule asks. inl (runs rule asks);
    run_alone = alone;
    follow = λ rule channels asks. absurd (no_follow rule channels asks.0);
    follow_alone = followed;
    map = λ asks. absurd (no_map asks);
    nothing = λ asks. absurd (something asks);
    help = λ other asks. absurd (asks (no_help other));
    flushed = ran.flushed;
    no_cause = ran.no_cause.1;
    read_fault = λ is. absurd cc;
    write_fault = λ is. absurd cc;
    read_first = λ _ _. tt;
  }
  Obeys-engine IsText IsFault (Err fault) replay_same run_same ran joins cuts replays for_flows runs alone no_follow followed no_map something no_help =
      let P : EngineFault → Type 0 = HasCause IsFault (remaining (inner_of reader)) reader' writer' in
      record {
        join = joins;
        cut = λ asks. inl (cuts asks);
        replay = replayed_by_decisions (Err fault) replay_same replays;
        run = λ asks. inl (received_by_decisions (Err fault) run_same runs asks);
        replay_by = replays;
        replay_flows = λ rule asks. inl (for_flows rule asks);
        run_by = λ rule asks. inl (runs rule asks);
        run_alone = alone;
        follow = λ rule channels asks. absurd (no_follow rule channels asks.0);
        follow_alone = followed;
        map = λ asks. absurd (no_map asks);
        nothing = λ asks. absurd (something asks);
        help = λ other asks. absurd (asks (no_help other));
        flushed = tt;
        no_cause = tt;
        read_fault = λ is. let same : fault ≡ Read = cc in subst P same ran.cause;
        write_fault = λ is. let same : fault ≡ Write = cc in subst P same ran.cause;
        read_first = λ _ _ other. (ran.read_first other).0;
      }

  -- so have those that ask for help, where its text is written
  Obeys-help : (text : List ℕ) (result : Result (Unit {0}) EngineFault) → IsFresh reader → IsFresh writer
      → ¬ AsksToJoin words → ¬ AsksToCutOnly words → ((rule : LossRule) → ¬ AsksToReplayBy rule words) → ((rule : LossRule) → ¬ AsksToReplayOnly rule words)
      → ((rule : LossRule) → ¬ AsksToRunByOnly rule words)
      → ((rule : LossRule) → ¬ AsksToRunByAlone rule words) → ((rule : LossRule) (channels : ℕ) → ¬ AsksToFollowOnly rule channels words)
      → ((rule : LossRule) (events : Bool) → ¬ AsksToFollowAlone rule events words) → ¬ AsksToMap words → ¬ AsksForNothing words
      → WritesHelp contents text reader reader' writer writer' result
      → Obeys remaining contents words reader reader' writer writer' result
  Obeys-help text (Ok done) unread unwritten other no_cut no_replay no_flows no_run no_alone no_follow no_follow_alone no_map something wrote = record {
    join = λ asks. absurd (other asks);
    cut = λ asks. absurd (no_cut asks);
    replay = λ asks. absurd (no_replay Decided (replays_by_decisions words asks));
    run = λ asks. absurd (no_run Decided (runs_by_decisions words asks.0, asks.1));
    replay_by = λ rule asks. absurd (no_replay rule asks);
    replay_flows = λ rule asks. absurd (no_flows rule asks);
    run_by = λ rule asks. absurd (no_run rule asks);
    run_alone = λ rule asks. absurd (no_alone rule asks);
    follow = λ rule channels asks. absurd (no_follow rule channels asks);
    follow_alone = λ rule events asks. absurd (no_follow_alone rule events asks);
    map = λ asks. absurd (no_map asks);
    nothing = λ asks. absurd (something asks);
    help = λ _ _. inl (text, wrote);
    flushed = wrote.left_flushed;
    no_cause = wrote.writes.sound ∙ unwritten.0;
    read_fault = λ is. absurd cc;
    write_fault = λ is. absurd cc;
    read_first = λ _ _. tt;
  }
  Obeys-help text (Err fault) unread unwritten other no_cut no_replay no_flows no_run no_alone no_follow no_follow_alone no_map something wrote = record {
    join = λ asks. absurd (other asks);
    cut = λ asks. absurd (no_cut asks);
    replay = λ asks. absurd (no_replay Decided (replays_by_decisions words asks));
    run = λ asks. absurd (no_run Decided (runs_by_decisions words asks.0, asks.1));
    replay_by = λ rule asks. absurd (no_replay rule asks);
    replay_flows = λ rule asks. absurd (no_flows rule asks);
    run_by = λ rule asks. absurd (no_run rule asks);
    run_alone = λ rule asks. absurd (no_alone rule asks);
    follow = λ rule channels asks. absurd (no_follow rule channels asks);
    follow_alone = λ rule events asks. absurd (no_follow_alone rule events asks);
    map = λ asks. absurd (no_map asks);
    nothing = λ asks. absurd (something asks);
    help = λ _ _. inl (text, wrote);
    flushed = tt;
    no_cause = tt;
    read_fault = λ is. absurd (cc wrote.only);
    write_fault = λ _. wrote.writes.failed;
    read_first = λ _ _ _. rw wrote.unread (unread.0, omega (arith, unread.1));
  }

  -- the reader's part in a fault of what is followed
  followed_reader : (width : Width) (fault : EngineFault) → fault ≡ Read → HasFollowCause width (remaining (inner_of reader)) reader' writer' fault → IsReadFault reader'
  followed_reader width fault is cause = failed_or_long (subst (HasFollowCause width (remaining (inner_of reader)) reader' writer') is cause) where
    failed_or_long : (has_failed reader' ≡ true) ⊎ (2 ^ 64 - 1 ≤ given_of reader') → IsReadFault reader'
    failed_or_long (inl failed) = inl failed
    failed_or_long (inr many) = inr (omega (arith, many))

  -- words that ask to follow a trace
  Obeys-follow : (rule : LossRule) (channels : ℕ) (result : Result (Unit {0}) EngineFault) → AsksToFollow rule channels words → HasNoHelpWord words
      → RunsFollow rule channels words remaining contents reader reader' writer writer' result
      → ((rule : LossRule) (events : Bool) → AsksToFollowAlone rule events words → RunsFollowBy rule channels_max (of_all_flows events) remaining contents reader reader' writer writer' result)
      → ¬ AsksForNothing words → Obeys remaining contents words reader reader' writer writer' result
  Obeys-follow rule channels result asked no_help ran followed something = record {
    join = λ asks. absurd (join_is_another (codes "follow") join_is_not_follow words asks asked.0);
    cut = λ asks. absurd (commands_apart (codes "follow") (codes "cut") follow_is_not_cut words asked.0 asks.0);
    replay = λ asks. absurd (commands_apart (codes "follow") (codes "replay") follow_is_not_replay words asked.0 (replays_by_decisions words asks).0);
    run = λ asks. absurd (commands_apart (codes "follow") (codes "run") follow_is_not_run words asked.0 asks.0.0);
    replay_by = λ other asks. absurd (commands_apart (codes "follow") (codes "replay") follow_is_not_replay words asked.0 asks.0);
    replay_flows = λ other asks. absurd (commands_apart (codes "follow") (codes "replay") follow_is_not_replay words asked.0 asks.0);
    run_by = λ other asks. absurd (commands_apart (codes "follow") (codes "run") follow_is_not_run words asked.0 asks.0.0);
    run_alone = λ other asks. absurd (commands_apart (codes "follow") (codes "run") follow_is_not_run words asked.0 asks.0);
    follow = λ other wide asks.
        let same : rule ≡ other = AskForRule-one (options_in words) rule other asked.1 asks.0.1 in
        let as_wide : channels ≡ wide = AskForChannels-one (options_in words) channels wide asked.2 asks.0.2 in
        let ran_by : RunsFollow other channels words remaining contents reader reader' writer writer' result =
        subst (λ (by : LossRule). RunsFollow by channels words remaining contents reader reader' writer writer' result) same ran
        in
        inl (subst (λ (n : ℕ). RunsFollow other n words remaining contents reader reader' writer writer' result) as_wide ran_by);
    follow_alone = followed;
    map = λ asks. absurd (commands_apart (codes "follow") (codes "map") follow_is_not_map words asked.0 (maps_alone words asks));
    nothing = λ asks. absurd (something asks);
    help = λ other asks. absurd (asks no_help);
    flushed = ran.3.2.flushed;
    no_cause = OnOk-weaker result ran.3.2.no_cause;
    read_fault = λ is. followed_fault result is ran.3.2.cause;
    write_fault = λ is. followed_write result is ran.3.2.cause;
    read_first = λ none _. absurd (none rule channels (asked, λ helps. absurd (no_help_asked helps)));
  } where
    OnOk-weaker : (result : Result (Unit {0}) EngineFault)
        → OnOk result ((has_failed reader' ≡ false) × IsAtEnd (remaining (inner_of reader')) × (has_failed writer' ≡ false)) → OnOk result (has_failed writer' ≡ false)
    OnOk-weaker (Ok done) is = is.2
    OnOk-weaker (Err fault) is = tt

    followed_fault : (result : Result (Unit {0}) EngineFault) → result ≡ Err Read → IfErr result (HasFollowCause ran.3.0 (remaining (inner_of reader)) reader' writer')
        → IsReadFault reader'
    followed_fault (Ok done) is cause = absurd cc
    followed_fault (Err fault) is cause = let same : fault ≡ Read = cc in followed_reader ran.3.0 fault same cause

    followed_write : (result : Result (Unit {0}) EngineFault) → result ≡ Err Write → IfErr result (HasFollowCause ran.3.0 (remaining (inner_of reader)) reader' writer')
        → has_failed writer' ≡ true
    followed_write (Ok done) is cause = absurd cc
    followed_write (Err fault) is cause =
        let same : fault ≡ Write = cc in subst (HasFollowCause ran.3.0 (remaining (inner_of reader)) reader' writer') same cause

    no_help_asked : AsksForHelp words → ⊥
    no_help_asked helps =
        let stands = helps.1 in
        no_help (length helps.0) stands.word stands.named (subst (λ all. slice_get all (length helps.0) ≡ Some stands.word) (sym stands.are)
        (slice_get-at helps.0 stands.word stands.after)) stands.help

  -- words that ask for a map
  Obeys-map : (result : Result (Unit {0}) EngineFault) → AsksToMap words → MapsCapture remaining contents reader reader' writer writer' result
      → ¬ AsksForNothing words → Obeys remaining contents words reader reader' writer writer' result
  Obeys-map result asked ran something = record {
    join = λ asks. absurd (join_is_another (codes "map") join_is_not_map words asks maps);
    cut = λ asks. absurd (commands_apart (codes "cut") (codes "map") cut_is_not_map words asks.0 maps);
    replay = λ asks. absurd (commands_apart (codes "replay") (codes "map") replay_is_not_map words (replays_by_decisions words asks).0 maps);
    run = λ asks. absurd (commands_apart (codes "run") (codes "map") run_is_not_map words asks.0.0 maps);
    replay_by = λ rule asks. absurd (commands_apart (codes "replay") (codes "map") replay_is_not_map words asks.0 maps);
    replay_flows = λ rule asks. absurd (commands_apart (codes "replay") (codes "map") replay_is_not_map words asks.0 maps);
    run_by = λ rule asks. absurd (commands_apart (codes "run") (codes "map") run_is_not_map words asks.0.0 maps);
    run_alone = λ rule asks. absurd (commands_apart (codes "run") (codes "map") run_is_not_map words asks.0 maps);
    follow = λ rule channels asks. absurd (commands_apart (codes "follow") (codes "map") follow_is_not_map words asks.0.0 maps);
    follow_alone = λ rule events asks. absurd (commands_apart (codes "follow") (codes "map") follow_is_not_map words asks.0 maps);
    map = λ _. ran;
    nothing = λ asks. absurd (something asks);
    help = λ other no_help. absurd (no_help (map_without_help words asked));
    flushed = ran.flushed;
    no_cause = OnOk-weaker result ran.no_cause;
    read_fault = λ is. mapped_read result is ran.cause;
    write_fault = λ is. mapped_write result is ran.cause;
    read_first = λ _ no_map. absurd (no_map asked);
  } where
    maps : IsCommand (codes "map") words
    maps = maps_alone words asked

    OnOk-weaker : (result : Result (Unit {0}) EngineFault)
        → OnOk result ((has_failed reader' ≡ false) × IsAtEnd (remaining (inner_of reader')) × (has_failed writer' ≡ false)) → OnOk result (has_failed writer' ≡ false)
    OnOk-weaker (Ok done) is = is.2
    OnOk-weaker (Err fault) is = tt

    failed_or_long : (has_failed reader' ≡ true) ⊎ (2 ^ 64 - 1 ≤ given_of reader') → IsReadFault reader'
    failed_or_long (inl failed) = inl failed
    failed_or_long (inr many) = inr (omega (arith, many))

    mapped_read : (result : Result (Unit {0}) EngineFault) → result ≡ Err Read → IfErr result (HasMapCause (remaining (inner_of reader)) reader' writer')
        → IsReadFault reader'
    mapped_read (Ok done) is cause = absurd cc
    mapped_read (Err fault) is cause =
        let same : fault ≡ Read = cc in failed_or_long (subst (HasMapCause (remaining (inner_of reader)) reader' writer') same cause)

    mapped_write : (result : Result (Unit {0}) EngineFault) → result ≡ Err Write → IfErr result (HasMapCause (remaining (inner_of reader)) reader' writer')
        → has_failed writer' ≡ true
    mapped_write (Ok done) is cause = absurd cc
    mapped_write (Err fault) is cause =
        let same : fault ≡ Write = cc in subst (HasMapCause (remaining (inner_of reader)) reader' writer') same cause

  -- a command that was read as a run by a rule alone is that
  performed_alone : (command : Command) (result : Result (Unit {0}) EngineFault) → Performs remaining contents command reader reader' writer writer' result
      → ((rule : LossRule) → AsksToRunByAlone rule words → command ≡ Run rule default_capacity default_capacity)
      → (rule : LossRule) → AsksToRunByAlone rule words → RunsRunAlone rule remaining contents reader reader' writer writer' result
  performed_alone command result ran runs rule asks =
      subst (λ is. Performs remaining contents is reader reader' writer writer' result) (runs rule asks) ran

  -- and one that was read as following with no option but a rule and events
  performed_follow : (command : Command) (result : Result (Unit {0}) EngineFault) → Performs remaining contents command reader reader' writer writer' result
      → ((rule : LossRule) (events : Bool) → AsksToFollowAlone rule events words → command ≡ Follow rule channels_max events All)
      → (rule : LossRule) (events : Bool) → AsksToFollowAlone rule events words → RunsFollowBy rule channels_max (of_all_flows events) remaining contents reader reader' writer writer' result
  performed_follow command result ran follows rule events asks =
      subst (λ is. Performs remaining contents is reader reader' writer writer' result) (follows rule events asks) ran

  -- a replay of all flows is a replay
  performed_whole : (rule : LossRule) (result : Result (Unit {0}) EngineFault) → ReplaysAll
      → Performs remaining contents (Replay rule All) reader reader' writer writer' result
      → RunsEngine remaining contents (IsReplayedBy rule) IsReplayFault reader reader' writer writer' result
  performed_whole rule result all_same ran =
      RunsEngine-weaker remaining contents (IsReplayedOf All rule) (IsReplayedBy rule) IsReplayFault reader reader' writer writer' result (all_same rule) ran

  -- each command, where the words ask for it and for nothing else
  pub Obeys-performed : (command : Command) (result : Result (Unit {0}) EngineFault) → ReplaysByDecisions → RunsByDecisions → ReplaysAll
      → IsFresh reader → IsFresh writer → Asks words command → (AsksToJoin words → command ≡ Join) → (AsksToMap words → command ≡ Map)
      → ((rule : LossRule) → AsksToReplayBy rule words → command ≡ Replay rule All)
      → ((rule : LossRule) → AsksToRunByAlone rule words → command ≡ Run rule default_capacity default_capacity)
      → ((rule : LossRule) (events : Bool) → AsksToFollowAlone rule events words → command ≡ Follow rule channels_max events All)
      → Performs remaining contents command reader reader' writer writer' result
      → Obeys remaining contents words reader reader' writer writer' result
  Obeys-performed Join result replay_same run_same all_same unread unwritten asked joins maps replays runs follows ran =
      Obeys-engine IsJoined IsJoinFault result replay_same run_same ran (λ _. ran)
      (λ asks. absurd (join_is_another (codes "cut") join_is_not_cut words asked asks.0)) (λ rule asks. let e = replays rule asks in absurd cc)
      (λ rule asks. absurd (join_is_another (codes "replay") join_is_not_replay words asked asks.0))
      (λ rule asks. absurd (join_is_another (codes "run") join_is_not_run words asked asks.0.0)) (performed_alone Join result ran runs)
      (λ rule channels asks. absurd (join_is_another (codes "follow") join_is_not_follow words asked asks.0)) (performed_follow Join result ran follows)
      (λ asks. let e = maps asks in absurd cc)
      (λ nothing. nothing.0 (inl asked))
      (λ other. absurd (other asked))
  Obeys-performed (Cut first fill) result replay_same run_same all_same unread unwritten asked joins maps replays runs follows ran =
      Obeys-engine (IsCutText first fill) IsCutFault result replay_same run_same ran
      (λ asks. absurd (join_is_another (codes "cut") join_is_not_cut words asks asked.0)) (λ _. (first, fill, asked.2, ran))
      (λ rule asks. let e = replays rule asks in absurd cc)
      (λ rule asks. absurd (commands_apart (codes "cut") (codes "replay") cut_is_not_replay words asked.0 asks.0))
      (λ rule asks. absurd (commands_apart (codes "cut") (codes "run") cut_is_not_run words asked.0 asks.0.0)) (performed_alone (Cut first fill) result ran runs)
      (λ rule channels asks. absurd (commands_apart (codes "follow") (codes "cut") follow_is_not_cut words asks.0 asked.0)) (performed_follow (Cut first fill) result ran follows)
      (λ asks. let e = maps asks in absurd cc)
      (λ nothing. nothing.0 (inr (inl asked.0))) (λ _. asked.1)
  Obeys-performed (Replay rule selected) result replay_same run_same all_same unread unwritten asked joins maps replays runs follows ran =
      Obeys-engine (IsReplayedOf selected rule) IsReplayFault result replay_same run_same ran (λ asks. let e = joins asks in absurd cc)
      (λ asks. absurd (commands_apart (codes "cut") (codes "replay") cut_is_not_replay words asks.0 asked.0.0))
      (λ other asks. performed_whole other result all_same (subst (λ is. Performs remaining contents is reader reader' writer writer' result) (replays other asks) ran))
      (λ other asks.
      let same : rule ≡ other = AskForRule-one (options_in words) rule other asked.0.1 asks.1 in
      subst (λ by. RunsReplay by words remaining contents reader reader' writer writer' result) same (selected, asked.0.2, ran))
      (λ other asks. absurd (commands_apart (codes "replay") (codes "run") replay_is_not_run words asked.0.0 asks.0.0))
      (performed_alone (Replay rule selected) result ran runs)
      (λ other channels asks. absurd (commands_apart (codes "follow") (codes "replay") follow_is_not_replay words asks.0 asked.0.0))
      (performed_follow (Replay rule selected) result ran follows)
      (λ asks. let e = maps asks in absurd cc) (λ nothing. nothing.0 (inr (inr (inl (rule, selected, asked.0))))) (λ _. asked.1)
  Obeys-performed (Run rule mailbox ring) result replay_same run_same all_same unread unwritten asked joins maps replays runs follows ran =
      Obeys-engine (IsRunTextBy rule ring mailbox) (IsReportFault ring) result replay_same run_same ran
      (λ asks. absurd (join_is_another (codes "run") join_is_not_run words asks asked.0.0))
      (λ asks. absurd (commands_apart (codes "cut") (codes "run") cut_is_not_run words asks.0 asked.0.0))
      (λ other asks. let e = replays other asks in absurd cc)
      (λ other asks. absurd (commands_apart (codes "replay") (codes "run") replay_is_not_run words asks.0 asked.0.0))
      (λ other asks.
      let same : rule ≡ other = AskForRule-one (options_in words) rule other asked.0.1 asks.0.1 in
      subst (λ by. RunsRunBy by remaining contents reader reader' writer writer' result) same (mailbox, ring, asked.2, asked.3, ran))
      (performed_alone (Run rule mailbox ring) result ran runs)
      (λ other channels asks. absurd (commands_apart (codes "follow") (codes "run") follow_is_not_run words asks.0 asked.0.0)) (performed_follow (Run rule mailbox ring) result ran follows)
      (λ asks. let e = maps asks in absurd cc)
      (λ nothing. nothing.0 (inr (inr (inr (inl (rule, asked.0)))))) (λ _. asked.1)
  Obeys-performed (Follow rule channels events selected) result replay_same run_same all_same unread unwritten asked joins maps replays runs follows ran =
      Obeys-follow rule channels result asked.0 asked.1 (record { events = events; selected = selected }, asked.2, asked.3, ran) (performed_follow (Follow rule channels events selected) result ran follows)
      (λ nothing. nothing.0 (inr (inr (inr (inr (inl (rule, channels, asked.0)))))))
  Obeys-performed Map result replay_same run_same all_same unread unwritten asked joins maps replays runs follows ran =
      Obeys-map result asked ran (λ nothing. nothing.0 (inr (inr (inr (inr (inr asked))))))
  Obeys-performed (Help text) result replay_same run_same all_same unread unwritten asked joins maps replays runs follows ran =
      Obeys-help (string_bytes text) result unread unwritten (λ asks. let e = joins asks in absurd cc) (λ asks. asks.1 asked)
      (λ rule asks. let e = replays rule asks in absurd cc) (λ rule asks. asks.2 asked) (λ rule asks. asks.1 asked) (λ rule asks. let e = runs rule asks in absurd cc)
      (λ rule channels asks. asks.1 asked) (λ rule events asks. let e = follows rule events asks in absurd cc) (λ asks. let e = maps asks in absurd cc)
      (λ nothing. nothing.1 asked) ran

-- words that were refused ask neither to join, nor for a map, nor to replay, nor to run or to
-- follow by a rule alone, and nothing is read or written
pub Obeys-refused : {R W : Type 0} (remaining : R → Option (List ℕ)) (contents : W → Option (List ℕ)) (words : List (List ℕ)) (reader : Device R)
    (writer : Device W) (fault : UsageFault) → IsFresh reader → ¬ AsksToJoin words → ((rule : LossRule) → ¬ AsksToReplayBy rule words)
    → ((rule : LossRule) → ¬ AsksToRunByAlone rule words) → ((rule : LossRule) (events : Bool) → ¬ AsksToFollowAlone rule events words) → ¬ AsksToMap words
    → Obeys remaining contents words reader reader writer writer (Err (usage_fault fault))
Obeys-refused remaining contents words reader writer usage.Usage unread other no_replay no_alone no_follow no_map = record {
  join = λ asks. absurd (other asks);
  cut = λ _. inr (record { fault = inl refl; unread = refl; unwritten = refl });
  replay = λ asks. absurd (no_replay Decided (replays_by_decisions words asks));
  run = λ _. inr (record { fault = inl refl; unread = refl; unwritten = refl });
  replay_by = λ rule asks. absurd (no_replay rule asks);
  replay_flows = λ rule _. inr (record { fault = inl refl; unread = refl; unwritten = refl });
  run_by = λ rule _. inr (record { fault = inl refl; unread = refl; unwritten = refl });
  run_alone = λ rule asks. absurd (no_alone rule asks);
  follow = λ rule channels _. inr (record { fault = inl refl; unread = refl; unwritten = refl });
  follow_alone = λ rule events asks. absurd (no_follow rule events asks);
  map = λ asks. absurd (no_map asks);
  nothing = λ _. record { fault = inl refl; unread = refl; unwritten = refl };
  help = λ _ _. inr (record { fault = inl refl; unread = refl; unwritten = refl });
  flushed = tt;
  no_cause = tt;
  read_fault = λ is. absurd cc;
  write_fault = λ is. absurd cc;
  read_first = λ _ _ _. (unread.0, omega (arith, unread.1));
}
Obeys-refused remaining contents words reader writer usage.OutOfMemory unread other no_replay no_alone no_follow no_map = record {
  join = λ asks. absurd (other asks);
  cut = λ _. inr (record { fault = inr refl; unread = refl; unwritten = refl });
  replay = λ asks. absurd (no_replay Decided (replays_by_decisions words asks));
  run = λ _. inr (record { fault = inr refl; unread = refl; unwritten = refl });
  replay_by = λ rule asks. absurd (no_replay rule asks);
  replay_flows = λ rule _. inr (record { fault = inr refl; unread = refl; unwritten = refl });
  run_by = λ rule _. inr (record { fault = inr refl; unread = refl; unwritten = refl });
  run_alone = λ rule asks. absurd (no_alone rule asks);
  follow = λ rule channels _. inr (record { fault = inr refl; unread = refl; unwritten = refl });
  follow_alone = λ rule events asks. absurd (no_follow rule events asks);
  map = λ asks. absurd (no_map asks);
  nothing = λ _. record { fault = inr refl; unread = refl; unwritten = refl };
  help = λ _ _. inr (record { fault = inr refl; unread = refl; unwritten = refl });
  flushed = tt;
  no_cause = tt;
  read_fault = λ is. absurd cc;
  write_fault = λ is. absurd cc;
  read_first = λ _ _ _. (unread.0, omega (arith, unread.1));
}

-- an answer whose fault is this one
pub is_fault : (fault : EngineFault) (result : Result (Unit {0}) EngineFault) → IsErrAnd result (λ found. found ≡ fault) → result ≡ Err fault
is_fault fault (Ok done) is = absurd is
is_fault fault (Err found) is = ap Err is
