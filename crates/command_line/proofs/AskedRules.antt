-- Which loss rule options ask for: one at most.
use Rattle.std.proofs.Common.{◌≡◌, ◌≢◌, inl, inr, ℕ, ◌<◌, ◌≤◌, All, Option, Some, None, List, [], ◌∷◌, ◌++◌, length, get_or, refl, ap, sym, subst, ◌∙◌, arith}
use Rattle.std.specs.Prelude.{map, ◌↔◌}
use Rattle.std.proofs.lemmas.Option.{same_Some}
use Rattle.std.proofs.lemmas.List.Elements.{All-nil, All-cons}
use Rattle.loss_rule.specs.declared.rule.LossRule.{LossRule}
use Rattle.loss_rule.specs.declared.rule.LossRule.TheVariants.{Decided, Passed, PassedOrSlid}
use Rattle.command_line.specs.OptionWords.{IsOption, HasFirstValue, HasOneValue}
use Rattle.command_line.specs.Losses.{rule_name, losses_option, HasNoLossesWord, AskForRule, AskForRuleAlone}
use Rattle.command_line.proofs.OptionValues.{no_first, HasFirstValue-one, HasOneValue-one}

-- rules have names of different lengths
rule_names_apart : (rule other : LossRule) → length (rule_name rule) ≡ length (rule_name other) → rule ≡ other
rule_names_apart Decided Decided e = refl
rule_names_apart Decided Passed e = absurd (omega (arith, e))
rule_names_apart Decided PassedOrSlid e = absurd (omega (arith, e))
rule_names_apart Passed Decided e = absurd (omega (arith, e))
rule_names_apart Passed Passed e = refl
rule_names_apart Passed PassedOrSlid e = absurd (omega (arith, e))
rule_names_apart PassedOrSlid Decided e = absurd (omega (arith, e))
rule_names_apart PassedOrSlid Passed e = absurd (omega (arith, e))
rule_names_apart PassedOrSlid PassedOrSlid e = refl

-- so a name is that of one rule
pub one_rule : (rule other : LossRule) → rule_name rule ≡ rule_name other → rule ≡ other
one_rule rule other e = rule_names_apart rule other (ap length e)

-- this is the rule of a name
abbrev pub IsRuleNamed : List ℕ → Option LossRule → Type 0
IsRuleNamed name result = (rule : LossRule) → (result ≡ Some rule) ↔ (name ≡ rule_name rule)

pub rule_of_its_name : (name : List ℕ) (is : LossRule) → name ≡ rule_name is → IsRuleNamed name (Some is)
rule_of_its_name name is named rule = (λ e. named ∙ ap rule_name (same_Some is rule e), λ e. ap Some (one_rule is rule (sym named ∙ e)))

-- options without the option ask for `Decided`
pub AskForRule-none : (options : List (List ℕ)) → HasNoLossesWord options → (rule : LossRule) → (Some Decided ≡ Some rule) ↔ AskForRule rule options
AskForRule-none options none rule = (
  λ e. inl (none, sym (same_Some Decided rule e)),
  λ asks. elim asks [ inl by ↦ ap Some (sym by.1) | inr named ↦ absurd (no_first losses_option options (rule_name rule) named.0 none named.1) ],
)

-- options with one ask for the rule of its value
pub AskForRule-named : (options : List (List ℕ)) (name : List ℕ) (result : Option LossRule) → HasOneValue losses_option options name → IsRuleNamed name result
    → (rule : LossRule) → (result ≡ Some rule) ↔ AskForRule rule options
AskForRule-named options name result has named rule = (
  λ e. inr (subst (HasOneValue losses_option options) ((named rule).0 e) has),
  λ asks.
      elim asks [
        | inl by ↦ absurd (no_first losses_option options name has.0 by.0 has.1)
        | inr is ↦ (named rule).1 (HasOneValue-one losses_option options name (rule_name rule) has is)
      ],
)

-- options with two ask for none
pub AskForRule-twice : (options : List (List ℕ)) (name other : List ℕ) (behind rest : List (List ℕ)) → HasFirstValue losses_option options name behind
    → HasFirstValue losses_option behind other rest → (rule : LossRule) → (None ≡ Some rule) ↔ AskForRule rule options
AskForRule-twice options name other behind rest first second rule = (
  λ e. absurd cc,
  λ asks.
      elim asks [
        | inl by ↦ absurd (no_first losses_option options name behind by.0 first)
        | inr is ↦
            let same = HasFirstValue-one losses_option options name (rule_name rule) behind is.0 first is.1 in
            absurd (no_first losses_option behind other rest (subst HasNoLossesWord (sym same.1) is.2) second)
      ],
)

-- options ask for one rule
pub AskForRule-one : (options : List (List ℕ)) (rule other : LossRule) → AskForRule rule options → AskForRule other options → rule ≡ other
AskForRule-one options rule other (inl is) (inl are) = is.1 ∙ sym are.1
AskForRule-one options rule other (inl is) (inr are) = absurd (no_first losses_option options (rule_name other) are.0 is.0 are.1)
AskForRule-one options rule other (inr is) (inl are) = absurd (no_first losses_option options (rule_name rule) is.0 are.0 is.1)
AskForRule-one options rule other (inr is) (inr are) = one_rule rule other (HasOneValue-one losses_option options (rule_name rule) (rule_name other) is are)

-- a rule's name does not begin with a dash, so it is not the option
pub name_without_dash : (rule : LossRule) → get_or (rule_name rule) 0 0 ≢ 45
name_without_dash Decided e = omega (arith, e)
name_without_dash Passed e = omega (arith, e)
name_without_dash PassedOrSlid e = omega (arith, e)

pub no_losses_word : (rule : LossRule) (word : List ℕ) → word ≡ rule_name rule → ¬ IsOption losses_option word
no_losses_word rule word is (inl bare) = name_without_dash rule (ap (λ text. get_or text 0 0) (sym is ∙ bare))
no_losses_word rule word is (inr with) = name_without_dash rule (ap (λ text. get_or text 0 0) (sym is ∙ with.1))

-- options that ask for a rule and for nothing else ask for it
pub AskForRule-alone : (rule : LossRule) (options : List (List ℕ)) → AskForRuleAlone rule options → AskForRule rule options
AskForRule-alone rule [] alone = inl (All-nil (λ w. ¬ IsOption losses_option w), alone)
AskForRule-alone rule (option ∷ []) alone = inr ([], inr (inl (alone, refl)), All-nil (λ w. ¬ IsOption losses_option w))
AskForRule-alone rule (option ∷ value ∷ []) alone =
    inr (
      value ∷ [],
      inl (alone.0, sym alone.1, refl),
      All-cons (λ w. ¬ IsOption losses_option w) value [] (no_losses_word rule value alone.1) (All-nil (λ w. ¬ IsOption losses_option w)),
    )
AskForRule-alone rule (option ∷ value ∷ another ∷ more) alone = absurd alone

-- each word of options that ask for a rule and for nothing else is the option, with its value or
-- without, or the name of a rule
pub each_alone : (P : List ℕ → Type 0) → ((rest : List ℕ) → P (losses_option ++ rest)) → ((rule : LossRule) → P (rule_name rule))
    → (rule : LossRule) (options : List (List ℕ)) → AskForRuleAlone rule options → All P options
each_alone P of_option of_name rule [] alone = All-nil P
each_alone P of_option of_name rule (option ∷ []) alone = All-cons P option [] (subst P (sym alone) (of_option (61 ∷ rule_name rule))) (All-nil P)
each_alone P of_option of_name rule (option ∷ value ∷ []) alone =
    All-cons P option (value ∷ []) (subst P (sym alone.0) (of_option [])) (All-cons P value [] (subst P (sym alone.1) (of_name rule)) (All-nil P))
each_alone P of_option of_name rule (option ∷ value ∷ another ∷ more) alone = absurd alone

-- two options ask for nothing but the rule that the second names, where the first is the option
pub AskForRuleAlone-two : {X : Type 0} (text : X → List ℕ) (options : List X) (option value : X) (result : Option LossRule) → 2 ≤ length options
    → length options < 3 → option ≡ get_or options 0 option → value ≡ get_or options 1 value → text option ≡ losses_option → IsRuleNamed (text value) result
    → (rule : LossRule) → (result ≡ Some rule) ↔ AskForRuleAlone rule (map text options)
AskForRuleAlone-two text [] option value result some few first second is named rule = absurd (omega arith)
AskForRuleAlone-two text (one ∷ []) option value result some few first second is named rule = absurd (omega arith)
AskForRuleAlone-two text (one ∷ two ∷ []) option value result some few first second is named rule = (
  λ e. (ap text (sym first) ∙ is, ap text (sym second) ∙ (named rule).0 e),
  λ asks. (named rule).1 (ap text second ∙ asks.1),
)
AskForRuleAlone-two text (one ∷ two ∷ three ∷ more) option value result some few first second is named rule = absurd (omega arith)
