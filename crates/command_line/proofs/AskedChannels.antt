-- For how many channels options ask: for one number at most.
use Rattle.std.proofs.Common.{◌≡◌, ◌≤◌, inl, inr, ℕ, Bool, Option, Some, None, List, ◌++◌, get_or, refl, ap, sym, subst, ◌∙◌, arith}
use Rattle.std.specs.Prelude.{◌↔◌}
use Rattle.std.proofs.lemmas.Option.{same_Some}
use Rattle.loss_rule.specs.declared.rule.LossRule.{LossRule}
use Rattle.text_lines.specs.Number.{IsNumberIn}
use Rattle.command_line.specs.OptionWords.{IsOption, HasNoOption, HasFirstValue, HasOneValue}
use Rattle.command_line.specs.Losses.{rule_name, losses_option}
use Rattle.command_line.specs.Channels.{channels_max, channels_option, AskForChannels}
use Rattle.command_line.specs.Command.{events_option, AskToFollowAlone}
use Rattle.command_line.proofs.OptionValues.{no_first, HasFirstValue-one, HasOneValue-one}
use Rattle.command_line.proofs.AskedRules.{name_without_dash}
use Rattle.command_line.proofs.AskedEvents.{each_follow_alone}

-- the channels of a value
abbrev pub IsChannels : List ℕ → ℕ → Type 0
IsChannels value = IsNumberIn value 1 channels_max

-- this was read of a value
abbrev pub IsReadChannels : List ℕ → Option ℕ → Type 0
IsReadChannels value result = (channels : ℕ) → (result ≡ Some channels) ↔ IsChannels value channels

-- a value has one number
IsChannels-one : (value : List ℕ) (channels other : ℕ) → IsChannels value channels → IsChannels value other → channels ≡ other
IsChannels-one value channels other is are = sym is.0.value ∙ are.0.value

pub channels_read : (value : List ℕ) (channels : ℕ) → IsChannels value channels → IsReadChannels value (Some channels)
channels_read value channels is other =
    (λ e. subst (IsChannels value) (same_Some channels other e) is, λ are. ap Some (IsChannels-one value channels other is are))

pub no_channels_read : (value : List ℕ) → ((channels : ℕ) → ¬ IsChannels value channels) → IsReadChannels value None
no_channels_read value none channels = (λ e. absurd cc, λ is. absurd (none channels is))

-- options without the option ask for 16
pub AskForChannels-none : (options : List (List ℕ)) → HasNoOption channels_option options → (channels : ℕ)
    → (Some channels_max ≡ Some channels) ↔ AskForChannels channels options
AskForChannels-none options none channels = (
  λ e. inl (none, sym (same_Some channels_max channels e)),
  λ asks. elim asks [ inl by ↦ ap Some (sym by.1) | inr named ↦ absurd (no_first channels_option options named.0 named.1.0 none named.1.1) ],
)

-- options with one ask for the number of its value
pub AskForChannels-given : (options : List (List ℕ)) (value : List ℕ) (result : Option ℕ) → HasOneValue channels_option options value
    → IsReadChannels value result → (channels : ℕ) → (result ≡ Some channels) ↔ AskForChannels channels options
AskForChannels-given options value result has read channels = (
  λ e. inr (value, has, (read channels).0 e),
  λ asks.
      elim asks [
        | inl by ↦ absurd (no_first channels_option options value has.0 by.0 has.1)
        | inr is ↦
            let same = HasOneValue-one channels_option options value is.0 has is.1 in
            (read channels).1 (subst (λ (text : List ℕ). IsChannels text channels) (sym same) is.2)
      ],
)

-- options with two ask for none
pub AskForChannels-twice : (options : List (List ℕ)) (value other : List ℕ) (behind rest : List (List ℕ))
    → HasFirstValue channels_option options value behind → HasFirstValue channels_option behind other rest → (channels : ℕ)
    → (◌≡◌ {A = Option ℕ} None (Some channels)) ↔ AskForChannels channels options
AskForChannels-twice options value other behind rest first second channels = (
  λ e. absurd cc,
  λ asks.
      elim asks [
        | inl by ↦ absurd (no_first channels_option options value behind by.0 first)
        | inr is ↦
            let same = HasFirstValue-one channels_option options value is.0 behind is.1.0 first is.1.1 in
            absurd (no_first channels_option behind other rest (subst (HasNoOption channels_option) (sym same.1) is.1.2) second)
      ],
)

-- options ask for one number
pub AskForChannels-one : (options : List (List ℕ)) (channels other : ℕ) → AskForChannels channels options → AskForChannels other options → channels ≡ other
AskForChannels-one options channels other (inl is) (inl are) = is.1 ∙ sym are.1
AskForChannels-one options channels other (inl is) (inr are) = absurd (no_first channels_option options are.0 are.1.0 is.0 are.1.1)
AskForChannels-one options channels other (inr is) (inl are) = absurd (no_first channels_option options is.0 is.1.0 are.0 is.1.1)
AskForChannels-one options channels other (inr is) (inr are) =
    let same = HasOneValue-one channels_option options is.0 are.0 is.1 are.1 in
    IsChannels-one is.0 channels other is.2 (subst (λ (text : List ℕ). IsChannels text other) (sym same) are.2)

-- from 1 to 16
pub AskForChannels-range : (options : List (List ℕ)) (channels : ℕ) → AskForChannels channels options → (1 ≤ channels) × (channels ≤ channels_max)
AskForChannels-range options channels (inl is) = rw is.1 (omega arith, omega arith)
AskForChannels-range options channels (inr is) = (is.2.1, is.2.0.within)

-- options that ask for a rule and for events at most ask for 16
not_the_losses : (rest : List ℕ) → ¬ IsOption channels_option (losses_option ++ rest)
not_the_losses rest (inl bare) = let at : 108 ≡ 99 = ap (λ text. get_or text 2 0) bare in omega (arith, at)
not_the_losses rest (inr with) = let at : 108 ≡ 99 = ap (λ text. get_or text 2 0) with.1 in omega (arith, at)

not_a_rule : (rule : LossRule) → ¬ IsOption channels_option (rule_name rule)
not_a_rule rule (inl bare) = name_without_dash rule (ap (λ text. get_or text 0 0) bare)
not_a_rule rule (inr with) = name_without_dash rule (ap (λ text. get_or text 0 0) with.1)

not_the_events : ¬ IsOption channels_option events_option
not_the_events (inl bare) = let at : 101 ≡ 99 = ap (λ text. get_or text 2 0) bare in omega (arith, at)
not_the_events (inr with) = let at : 101 ≡ 99 = ap (λ text. get_or text 2 0) with.1 in omega (arith, at)

pub AskForChannels-alone : (rule : LossRule) (events : Bool) (options : List (List ℕ)) → AskToFollowAlone rule events options → AskForChannels channels_max options
AskForChannels-alone rule events options alone =
    inl (each_follow_alone (λ word. ¬ IsOption channels_option word) not_the_losses not_a_rule not_the_events rule events options alone, refl)
