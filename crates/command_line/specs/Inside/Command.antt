-- What commands with options ask for.
use Rattle.std.specs.Prelude.{◌<◌, ◌≤◌, ℕ, List}
use Rattle.docsis_wire.specs.Limits.{sequence_modulus}
use Rattle.command_line.specs.declared.command.Command.{Command}
use Rattle.command_line.specs.declared.command.Command.TheVariants.{Join, Cut, Replay, Run, Follow, Map, Help}
use Rattle.command_line.specs.Command.{AsksToCut, AsksToReplayFlows, AsksToRunBy, AsksToFollow, AskForEvents, last_followed, options_in}
use Rattle.command_line.specs.Flows.{AskForFlows}

-- the words begin with a command that has options, and this is it
abbrev pub AsksWithOptions : List (List ℕ) → Command → Type 0
AsksWithOptions words Join = ⊥
AsksWithOptions words (Cut first fill) = AsksToCut words × (first < sequence_modulus)
AsksWithOptions words (Replay rule selected) = AsksToReplayFlows rule selected words
AsksWithOptions words (Run rule mailbox ring) = AsksToRunBy rule words × (1 ≤ mailbox) × (1 ≤ ring)
AsksWithOptions words (Follow rule channels events selected) =
    AsksToFollow rule channels words × AskForEvents events (options_in words) × AskForFlows last_followed selected (options_in words)
AsksWithOptions words Map = ⊥
AsksWithOptions words (Help text) = ⊥
