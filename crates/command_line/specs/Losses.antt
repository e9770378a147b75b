-- The option `--losses`, by which words ask for a loss rule.
use Rattle.std.specs.Prelude.{◌≡◌, ◌⊎◌, ℕ, List, [], ◌∷◌, codes}
use Rattle.loss_rule.specs.declared.rule.LossRule.{LossRule}
use Rattle.loss_rule.specs.declared.rule.LossRule.TheVariants.{Decided, Passed, PassedOrSlid}
use Rattle.command_line.specs.OptionWords.{with_value, HasNoOption, HasOneValue}

-- the name of a rule
abbrev pub rule_name : LossRule → List ℕ
rule_name Decided = codes "decided"
rule_name Passed = codes "passed"
rule_name PassedOrSlid = codes "slid"

-- the option, whose value is the name of a rule
abbrev pub losses_option : List ℕ
losses_option = codes "--losses"

-- none of these words is that option
abbrev pub HasNoLossesWord : List (List ℕ) → Type 0
HasNoLossesWord = HasNoOption losses_option

-- options ask for this rule: by the one `--losses` among them, and for the default one where there
-- is none; where there are two they ask for no rule
abbrev pub AskForLosses : LossRule → LossRule → List (List ℕ) → Type 0
AskForLosses default rule options = (HasNoLossesWord options × (rule ≡ default)) ⊎ HasOneValue losses_option options (rule_name rule)

-- so where `Decided` is the default one
abbrev pub AskForRule : LossRule → List (List ℕ) → Type 0
AskForRule = AskForLosses Decided

-- options ask for this rule and for nothing else
abbrev pub AskForRuleAlone : LossRule → List (List ℕ) → Type 0
AskForRuleAlone rule [] = rule ≡ Decided
AskForRuleAlone rule (option ∷ []) = option ≡ with_value losses_option (rule_name rule)
AskForRuleAlone rule (option ∷ value ∷ []) = (option ≡ losses_option) × (value ≡ rule_name rule)
AskForRuleAlone rule (option ∷ value ∷ another ∷ more) = ⊥
