-- Words that ask for what the program does, the program's name first.
use Rattle.std.specs.Prelude.{◌≡◌, ◌<◌, ◌≤◌, ◌⊎◌, ◌↔◌, ℕ, Bool, true, false, IsTrue, List, [], ◌∷◌, ◌++◌, length, drop, codes, slice_get, Some}
use Rattle.docsis_wire.specs.Limits.{sequence_modulus}
use Rattle.loss_rule.specs.declared.rule.LossRule.{LossRule}
use Rattle.command_line.specs.Losses.{HasNoLossesWord, AskForRule, AskForRuleAlone}
use Rattle.command_line.specs.Channels.{AskForChannels}
use Rattle.command_line.specs.Flows.{AskForFlows}
use Rattle.flow_selection.specs.declared.selection.Selection.{Selection}
use Rattle.command_line.specs.declared.command.Command.{Command}
use Rattle.command_line.specs.declared.command.Command.TheVariants.{Join, Cut, Replay, Run, Follow, Map, Help}

-- the command's word alone follows the name
abbrev pub IsCommandAlone : List ℕ → List (List ℕ) → Type 0
IsCommandAlone command [] = ⊥
IsCommandAlone command (name ∷ []) = ⊥
IsCommandAlone command (name ∷ word ∷ []) = word ≡ command
IsCommandAlone command (name ∷ word ∷ another ∷ more) = ⊥

-- to join, no word follows the name, or the command's own alone
abbrev pub AsksToJoin : List (List ℕ) → Type 0
AsksToJoin [] = Unit {0}
AsksToJoin (name ∷ []) = Unit {0}
AsksToJoin (name ∷ word ∷ []) = word ≡ codes "join"
AsksToJoin (name ∷ word ∷ another ∷ more) = ⊥

-- the command's word follows the name, and its options may follow that
abbrev pub IsCommand : List ℕ → List (List ℕ) → Type 0
IsCommand command [] = ⊥
IsCommand command (name ∷ []) = ⊥
IsCommand command (name ∷ word ∷ options) = word ≡ command

-- the words behind the command's
abbrev pub options_in : List (List ℕ) → List (List ℕ)
options_in = drop 2

-- to cut has options, which are read by the library
abbrev pub AsksToCut : List (List ℕ) → Type 0
AsksToCut words = IsCommand (codes "cut") words

-- to run has some too; by a loss rule, where one of them asks for it
abbrev pub AsksToRun : List (List ℕ) → Type 0
AsksToRun words = IsCommand (codes "run") words × HasNoLossesWord (options_in words)

abbrev pub AsksToRunBy : LossRule → List (List ℕ) → Type 0
AsksToRunBy rule words = IsCommand (codes "run") words × AskForRule rule (options_in words)

-- so by a rule and with no option besides
abbrev pub AsksToRunByAlone : LossRule → List (List ℕ) → Type 0
AsksToRunByAlone rule words = IsCommand (codes "run") words × AskForRuleAlone rule (options_in words)

-- to replay, the command's word alone follows the name; by a loss rule, the option for it behind
-- that and nothing else
abbrev pub AsksToReplay : List (List ℕ) → Type 0
AsksToReplay words = IsCommandAlone (codes "replay") words

abbrev pub AsksToReplayBy : LossRule → List (List ℕ) → Type 0
AsksToReplayBy rule words = IsCommand (codes "replay") words × AskForRuleAlone rule (options_in words)

-- the greatest index of a flow of a trace that is replayed
abbrev pub last_replayed : ℕ
last_replayed = 63

-- and in any order of the options, where some flows are asked for
abbrev pub AsksToReplayFlows : LossRule → Selection → List (List ℕ) → Type 0
AsksToReplayFlows rule selected words =
    IsCommand (codes "replay") words × AskForRule rule (options_in words) × AskForFlows last_replayed selected (options_in words)

-- to follow has options too, for a loss rule as to run, and for how many channels the trace may
-- have
abbrev pub AsksToFollow : LossRule → ℕ → List (List ℕ) → Type 0
AsksToFollow rule channels words = IsCommand (codes "follow") words × AskForRule rule (options_in words) × AskForChannels channels (options_in words)

-- the greatest index of a flow of a trace that is followed
abbrev pub last_followed : ℕ
last_followed = 16383

-- the option for events
abbrev pub events_option : List ℕ
events_option = codes "--events"

-- options are these and that option, which stands before or behind them
abbrev pub AreWithEvents : List (List ℕ) → List (List ℕ) → Type 0
AreWithEvents options rest = (options ≡ events_option ∷ rest) ⊎ (options ≡ rest ++ events_option ∷ [])

-- so with no option besides the rule's and that for events, in any order
abbrev pub AskToFollowAlone : LossRule → Bool → List (List ℕ) → Type 0
AskToFollowAlone rule false options = AskForRuleAlone rule options
AskToFollowAlone rule true options = (rest : List (List ℕ)) × AreWithEvents options rest × AskForRuleAlone rule rest

abbrev pub AsksToFollowAlone : LossRule → Bool → List (List ℕ) → Type 0
AsksToFollowAlone rule events words = IsCommand (codes "follow") words × AskToFollowAlone rule events (options_in words)

-- for a map, the command's word alone follows the name
abbrev pub AsksToMap : List (List ℕ) → Type 0
AsksToMap words = IsCommandAlone (codes "map") words

-- one of the words is this one
abbrev pub HasWord : List ℕ → List (List ℕ) → Type 0
HasWord word [] = ⊥
HasWord word (first ∷ more) = (first ≡ word) ⊎ HasWord word more

-- options ask for events just if one of them is `--events`
abbrev pub AskForEvents : Bool → List (List ℕ) → Type 0
AskForEvents events options = IsTrue events ↔ HasWord events_option options

-- the word asks for help
abbrev pub IsHelpWord : List ℕ → Type 0
IsHelpWord word = (word ≡ codes "-h") ⊎ (word ≡ codes "--help")

-- none of the words after the name asks for help
abbrev pub HasNoHelpWord : List (List ℕ) → Type 0
HasNoHelpWord words = (k : ℕ) (word : List ℕ) → 0 < k → slice_get words k ≡ Some word → ¬ IsHelpWord word

-- these words stand before the first one after the name that asks for help
pub record StandsBeforeHelp (before words : List (List ℕ)) : Type 0 where
  pub word : List ℕ
  pub after : List (List ℕ)
  pub are : words ≡ before ++ word ∷ after
  pub named : 0 < length before
  pub help : IsHelpWord word
  pub first : HasNoHelpWord before

-- the words ask for an engine, to run, to replay or to follow by some loss rule, which is `Decided`
-- where none is asked for; or for a map
abbrev pub AsksForAnEngine : List (List ℕ) → Type 0
AsksForAnEngine words =
    AsksToJoin words ⊎ AsksToCut words ⊎ ((rule : LossRule) × (selected : Selection) × AsksToReplayFlows rule selected words) ⊎ ((rule : LossRule) × AsksToRunBy rule words)
    ⊎ ((rule : LossRule) × (channels : ℕ) × AsksToFollow rule channels words) ⊎ AsksToMap words

-- a word asks for help, and the words before it ask for an engine
abbrev pub AsksForHelp : List (List ℕ) → Type 0
AsksForHelp words = (before : List (List ℕ)) × StandsBeforeHelp before words × AsksForAnEngine before

-- The words ask for this. The first number of a cut is one of a segment, and mailboxes and rings
-- have room for something; no word of a command with options asks for help.
abbrev pub Asks : List (List ℕ) → Command → Type 0
Asks words Join = AsksToJoin words
Asks words (Cut first fill) = AsksToCut words × HasNoHelpWord words × (first < sequence_modulus)
Asks words (Replay rule selected) = AsksToReplayFlows rule selected words × HasNoHelpWord words
Asks words (Run rule mailbox ring) = AsksToRunBy rule words × HasNoHelpWord words × (1 ≤ mailbox) × (1 ≤ ring)
Asks words (Follow rule channels events selected) =
    AsksToFollow rule channels words × HasNoHelpWord words × AskForEvents events (options_in words) × AskForFlows last_followed selected (options_in words)
Asks words Map = AsksToMap words
Asks words (Help text) = AsksForHelp words
