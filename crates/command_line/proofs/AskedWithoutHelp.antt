-- Words that ask for a loss rule and for events at most ask for no help.
use Rattle.std.proofs.Common.{◌≡◌, ℕ, zero, suc, length, Some, All, Bool, List, [], ◌∷◌, ◌++◌, get_or, inl, inr, sym, ap, subst, arith}
use Rattle.std.proofs.lemmas.Option.{same_Some}
use Rattle.std.proofs.lemmas.List.Elements.{All-nil, All-cons, All-head, All-tail}
use Rattle.std.specs.Prelude.{codes, slice_get}
use Rattle.loss_rule.specs.declared.rule.LossRule.{LossRule}
use Rattle.command_line.specs.Losses.{rule_name, losses_option, AskForRuleAlone}
use Rattle.command_line.specs.Command.{IsCommand, options_in, events_option, AskToFollowAlone, AsksToReplayBy, AsksToRunByAlone, AsksToFollowAlone, AsksToMap, IsHelpWord, HasNoHelpWord}
use Rattle.command_line.proofs.AskedRules.{name_without_dash, each_alone}
use Rattle.command_line.proofs.AskedEvents.{each_follow_alone}

-- none of these words asks for help
abbrev NoneHelps : List (List ℕ) → Type 0
NoneHelps = All (λ word. ¬ IsHelpWord word)

none_at : (words : List (List ℕ)) (k : ℕ) (word : List ℕ) → NoneHelps words → slice_get words k ≡ Some word → ¬ IsHelpWord word
none_at [] k word none at = absurd cc
none_at (first ∷ words) zero word none at =
    subst (λ (w : List ℕ). ¬ IsHelpWord w) (same_Some first word at) (All-head (λ w. ¬ IsHelpWord w) first words none)
none_at (first ∷ words) (suc k) word none at = none_at words k word (All-tail (λ w. ¬ IsHelpWord w) first words none) at

behind_name : (name : List ℕ) (words : List (List ℕ)) → NoneHelps words → HasNoHelpWord (name ∷ words)
behind_name name words none zero word behind at = absurd (omega arith)
behind_name name words none (suc k) word behind at = none_at words k word none at

-- the words of the commands, of the options and of the rules ask for none
no_help_in_replay : ¬ IsHelpWord (codes "replay")
no_help_in_replay (inl short) = let e : 6 ≡ 2 = ap length short in omega (arith, e)
no_help_in_replay (inr long) = let e : 114 ≡ 45 = ap (λ text. get_or text 0 0) long in omega (arith, e)

no_help_in_run : ¬ IsHelpWord (codes "run")
no_help_in_run (inl short) = let e : 3 ≡ 2 = ap length short in omega (arith, e)
no_help_in_run (inr long) = let e : 114 ≡ 45 = ap (λ text. get_or text 0 0) long in omega (arith, e)

no_help_in_follow : ¬ IsHelpWord (codes "follow")
no_help_in_follow (inl short) = let e : 6 ≡ 2 = ap length short in omega (arith, e)
no_help_in_follow (inr long) = let e : 102 ≡ 45 = ap (λ text. get_or text 0 0) long in omega (arith, e)

no_help_in_map : ¬ IsHelpWord (codes "map")
no_help_in_map (inl short) = let e : 3 ≡ 2 = ap length short in omega (arith, e)
no_help_in_map (inr long) = let e : 109 ≡ 45 = ap (λ text. get_or text 0 0) long in omega (arith, e)

no_help_in_events : ¬ IsHelpWord events_option
no_help_in_events (inl short) = let e : 8 ≡ 2 = ap length short in omega (arith, e)
no_help_in_events (inr long) = let e : 101 ≡ 104 = ap (λ text. get_or text 2 0) long in omega (arith, e)

no_help_in_option : (rest : List ℕ) → ¬ IsHelpWord (losses_option ++ rest)
no_help_in_option rest (inl short) = let e = ap length short in omega (arith, e)
no_help_in_option rest (inr long) = let e : 108 ≡ 104 = ap (λ text. get_or text 2 0) long in omega (arith, e)

no_help_in_rule : (rule : LossRule) → ¬ IsHelpWord (rule_name rule)
no_help_in_rule rule (inl short) = name_without_dash rule (ap (λ text. get_or text 0 0) short)
no_help_in_rule rule (inr long) = name_without_dash rule (ap (λ text. get_or text 0 0) long)

no_help_alone : (rule : LossRule) (options : List (List ℕ)) → AskForRuleAlone rule options → NoneHelps options
no_help_alone = each_alone (λ word. ¬ IsHelpWord word) no_help_in_option no_help_in_rule

-- so a command has no word that asks for help where none of its options does
commands_without_help : (command : List ℕ) → ¬ IsHelpWord command → (words : List (List ℕ)) → IsCommand command words → NoneHelps (options_in words)
    → HasNoHelpWord words
commands_without_help command other [] is none = absurd is
commands_without_help command other (name ∷ []) is none = absurd is
commands_without_help command other (name ∷ word ∷ options) is none =
    behind_name name (word ∷ options) (All-cons (λ w. ¬ IsHelpWord w) word options (subst (λ (w : List ℕ). ¬ IsHelpWord w) (sym is) other) none)

pub replays_without_help : (rule : LossRule) (words : List (List ℕ)) → AsksToReplayBy rule words → HasNoHelpWord words
replays_without_help rule words replays =
    commands_without_help (codes "replay") no_help_in_replay words replays.0 (no_help_alone rule (options_in words) replays.1)

pub runs_without_help : (rule : LossRule) (words : List (List ℕ)) → AsksToRunByAlone rule words → HasNoHelpWord words
runs_without_help rule words runs = commands_without_help (codes "run") no_help_in_run words runs.0 (no_help_alone rule (options_in words) runs.1)

-- nor where one more is for events
no_help_with_events : (rule : LossRule) (events : Bool) (options : List (List ℕ)) → AskToFollowAlone rule events options → NoneHelps options
no_help_with_events = each_follow_alone (λ word. ¬ IsHelpWord word) no_help_in_option no_help_in_rule no_help_in_events

pub follows_without_help : (rule : LossRule) (events : Bool) (words : List (List ℕ)) → AsksToFollowAlone rule events words → HasNoHelpWord words
follows_without_help rule events words follows =
    commands_without_help (codes "follow") no_help_in_follow words follows.0 (no_help_with_events rule events (options_in words) follows.1)

-- nor have words that ask for a map
pub map_without_help : (words : List (List ℕ)) → AsksToMap words → HasNoHelpWord words
map_without_help [] asks = absurd asks
map_without_help (name ∷ []) asks = absurd asks
map_without_help (name ∷ word ∷ []) asks =
    behind_name name (word ∷ []) (All-cons (λ w. ¬ IsHelpWord w) word [] (subst (λ (w : List ℕ). ¬ IsHelpWord w) (sym asks) no_help_in_map) (All-nil (λ w. ¬ IsHelpWord w)))
map_without_help (name ∷ word ∷ another ∷ more) asks = absurd asks
