-- What stood flushed at each read, by the words that were obeyed.
use Rattle.std.proofs.Common.{◌≡◌, ℕ, inl, inr, Option, List}
use Rattle.std.specs.Prelude.{codes}
use Rattle.command_line.specs.Command.{Asks}
use Rattle.command_line.specs.declared.command.Command.{Command}
use Rattle.command_line.specs.declared.command.Command.TheVariants.{Join, Cut, Replay, Run, Follow, Map, Help}
use Rattle.command_line.proofs.CommandsApart.{commands_apart, follow_is_not_cut, follow_is_not_run, follow_is_not_replay, follow_is_not_map, maps_alone, join_is_another, join_is_not_follow}
use Rattle.engines.specs.FlushedReads.{FlushedRead}
use Rattle.commands.specs.Program.{ShowsFollowed}
use Rattle.commands.specs.Inside.Program.{ShowsCommand}

module _ {R W : Type 0} (after : R → List FlushedRead → R → Type 0) (remaining : R → Option (List ℕ)) (contents : W → Option (List ℕ)) (words : List (List ℕ)) (reader reader' : R) (writer : W) where
  -- the command that words ask for was done
  pub shown-asked : (command : Command) → Asks words command → ShowsCommand after remaining contents command reader reader' writer
      → ShowsFollowed after remaining contents words reader reader' writer
  shown-asked Join asks shown = λ is start made. absurd (join_is_another (codes "follow") join_is_not_follow words asks is)
  shown-asked (Cut first fill) asks shown = λ is start made. absurd (commands_apart (codes "follow") (codes "cut") follow_is_not_cut words is asks.0)
  shown-asked (Replay rule selected) asks shown = λ is start made. absurd (commands_apart (codes "follow") (codes "replay") follow_is_not_replay words is asks.0.0)
  shown-asked (Run rule mailbox ring) asks shown = λ is start made. absurd (commands_apart (codes "follow") (codes "run") follow_is_not_run words is asks.0.0)
  shown-asked (Follow rule channels events selected) asks shown = λ is start made.
      let behind = shown start made in
      inl (record {
        rule = rule;
        channels = channels;
        width = behind.0;
        settings = record { events = events; selected = selected };
        asked = asks.0;
        wide = behind.1;
        events = asks.2;
        flows = asks.3;
        shown = behind.2;
      })
  shown-asked Map asks shown = λ is start made. absurd (commands_apart (codes "follow") (codes "map") follow_is_not_map words is (maps_alone words asks))
  shown-asked (Help text) asks shown = λ is start made. inr shown
