-- Options that ask for a loss rule and for events at most: for which rule they ask, and whether for
-- events.
use Rattle.std.proofs.Common.{◌≡◌, ◌≢◌, ◌≤◌, ◌-◌, ℕ, zero, suc, All, Bool, true, false, Option, Some, None, List, [], ◌∷◌, ◌++◌, length, get_or, take, drop, inl, inr, refl, ap, sym, ◌∙◌, subst, arith}
use Rattle.std.specs.Prelude.{map, ◌↔◌}
use Rattle.std.proofs.lemmas.Option.{same_Some}
use Rattle.std.proofs.lemmas.List.{take_all, map-append}
use Rattle.std.proofs.lemmas.List.Elements.{All-nil, All-cons, All-head, All-tail, All-push}
use Rattle.loss_rule.specs.declared.rule.LossRule.{LossRule}
use Rattle.command_line.specs.OptionWords.{IsOption}
use Rattle.command_line.specs.Losses.{rule_name, losses_option, HasNoLossesWord, AskForRule, AskForRuleAlone}
use Rattle.command_line.specs.Command.{events_option, AreWithEvents, AskToFollowAlone, HasWord, AskForEvents}
use Rattle.command_line.proofs.AskedRules.{name_without_dash, no_losses_word, each_alone, AskForRule-alone, AskForRule-one}

-- ---- the option for events is no other

not_the_option : (rest : List ℕ) → losses_option ++ rest ≢ events_option
not_the_option rest e = let at : 108 ≡ 101 = ap (λ text. get_or text 2 0) e in omega (arith, at)

not_a_rule : (rule : LossRule) → rule_name rule ≢ events_option
not_a_rule rule e = name_without_dash rule (ap (λ text. get_or text 0 0) e)

no_events_alone : (rule : LossRule) (options : List (List ℕ)) → AskForRuleAlone rule options → All (λ word. word ≢ events_option) options
no_events_alone = each_alone (λ word. word ≢ events_option) not_the_option not_a_rule

events_for_no_rule : ¬ IsOption losses_option events_option
events_for_no_rule (inl bare) = let at : 101 ≡ 108 = ap (λ text. get_or text 2 0) bare in omega (arith, at)
events_for_no_rule (inr with) = let at : 101 ≡ 108 = ap (λ text. get_or text 2 0) with.1 in omega (arith, at)

only_events : HasNoLossesWord (events_option ∷ [])
only_events = All-cons (λ w. ¬ IsOption losses_option w) events_option [] events_for_no_rule (All-nil (λ w. ¬ IsOption losses_option w))

-- each word of options that ask for a rule and for events at most is an option, with its value or
-- without, or the name of a rule
pub each_follow_alone : (P : List ℕ → Type 0) → ((rest : List ℕ) → P (losses_option ++ rest)) → ((rule : LossRule) → P (rule_name rule)) → P events_option
    → (rule : LossRule) (events : Bool) (options : List (List ℕ)) → AskToFollowAlone rule events options → All P options
each_follow_alone P of_option of_name of_events rule false options alone = each_alone P of_option of_name rule options alone
each_follow_alone P of_option of_name of_events rule true options alone =
    let rest = each_alone P of_option of_name rule alone.0 alone.2 in
    elim alone.1 [
      | inl before ↦ subst (All P) (sym before) (All-cons P events_option alone.0 of_events rest)
      | inr behind ↦ subst (All P) (sym behind) (All-push P alone.0 events_option rest of_events)
    ]

-- ---- whether options ask for events

HasWord-not : (word : List ℕ) (words : List (List ℕ)) → All (λ w. w ≢ word) words → HasWord word words → ⊥
HasWord-not word [] all has = has
HasWord-not word (first ∷ more) all (inl is) = All-head (λ w. w ≢ word) first more all is
HasWord-not word (first ∷ more) all (inr behind) = HasWord-not word more (All-tail (λ w. w ≢ word) first more all) behind

HasWord-last : (word : List ℕ) (words : List (List ℕ)) → HasWord word (words ++ word ∷ [])
HasWord-last word [] = inl refl
HasWord-last word (first ∷ more) = inr (HasWord-last word more)

has_events : (options rest : List (List ℕ)) → AreWithEvents options rest → HasWord events_option options
has_events options rest (inl before) = subst (HasWord events_option) (sym before) (inl refl)
has_events options rest (inr behind) = subst (HasWord events_option) (sym behind) (HasWord-last events_option rest)

no_events : (rule : LossRule) (options : List (List ℕ)) → AskForRuleAlone rule options → HasWord events_option options → ⊥
no_events rule options alone = HasWord-not events_option options (no_events_alone rule options alone)

pub AskForEvents-alone : (rule : LossRule) (events : Bool) (options : List (List ℕ)) → AskToFollowAlone rule events options → AskForEvents events options
AskForEvents-alone rule false options alone = (λ t. absurd cc, λ has. absurd (no_events rule options alone has))
AskForEvents-alone rule true options alone = (λ t. has_events options alone.0 alone.1, λ has. refl)

-- ---- the rule for which they ask

rule_before : (rule : LossRule) (rest : List (List ℕ)) → AskForRule rule rest → AskForRule rule (events_option ∷ rest)
rule_before rule rest (inl none) = inl (All-cons (λ w. ¬ IsOption losses_option w) events_option rest events_for_no_rule none.0, none.1)
rule_before rule rest (inr one) = inr (one.0, inr (inr (events_for_no_rule, one.1)), one.2)

rule_behind : (rule : LossRule) (rest : List (List ℕ)) → AskForRuleAlone rule rest → AskForRule rule (rest ++ events_option ∷ [])
rule_behind rule [] alone = inl (only_events, alone)
rule_behind rule (option ∷ []) alone = inr (events_option ∷ [], inr (inl (alone, refl)), only_events)
rule_behind rule (option ∷ value ∷ []) alone =
    inr (
      value ∷ events_option ∷ [],
      inl (alone.0, sym alone.1, refl),
      All-cons (λ w. ¬ IsOption losses_option w) value (events_option ∷ []) (no_losses_word rule value alone.1) only_events,
    )
rule_behind rule (option ∷ value ∷ another ∷ more) alone = absurd alone

pub AskForRule-follow : (rule : LossRule) (events : Bool) (options : List (List ℕ)) → AskToFollowAlone rule events options → AskForRule rule options
AskForRule-follow rule false options alone = AskForRule-alone rule options alone
AskForRule-follow rule true options alone =
    elim alone.1 [
      | inl before ↦ subst (AskForRule rule) (sym before) (rule_before rule alone.0 (AskForRule-alone rule alone.0 alone.2))
      | inr behind ↦ subst (AskForRule rule) (sym behind) (rule_behind rule alone.0 alone.2)
    ]

-- ---- they ask for one thing

alone_one : (rule other : LossRule) (options : List (List ℕ)) → AskForRuleAlone rule options → AskForRuleAlone other options → rule ≡ other
alone_one rule other options is are = AskForRule-one options rule other (AskForRule-alone rule options is) (AskForRule-alone other options are)

-- where the option stands both first and last it is all, if the rest has it not
both_ends : (rest others : List (List ℕ)) → events_option ∷ rest ≡ others ++ events_option ∷ [] → All (λ w. w ≢ events_option) others → rest ≡ others
both_ends rest [] same none = cc
both_ends rest (first ∷ more) same none =
    let is : events_option ≡ first = cc in
    absurd (All-head (λ w. w ≢ events_option) first more none (sym is))

both_ends_back : (rest others : List (List ℕ)) → rest ++ events_option ∷ [] ≡ events_option ∷ others → All (λ w. w ≢ events_option) others → rest ≡ others
both_ends_back [] others same none = cc
both_ends_back (first ∷ more) others same none =
    let are : more ++ events_option ∷ [] ≡ others = cc in
    absurd (HasWord-not events_option others none (subst (HasWord events_option) are (HasWord-last events_option more)))

-- lists that end alike begin alike
same_fronts : (rest others : List (List ℕ)) → rest ++ events_option ∷ [] ≡ others ++ events_option ∷ [] → rest ≡ others
same_fronts [] [] same = refl
same_fronts [] (other ∷ []) same = absurd cc
same_fronts [] (other ∷ another ∷ others) same = absurd cc
same_fronts (first ∷ []) [] same = absurd cc
same_fronts (first ∷ second ∷ rest) [] same = absurd cc
same_fronts (first ∷ rest) (other ∷ others) same =
    let is : first ≡ other = cc in
    let are : rest ++ events_option ∷ [] ≡ others ++ events_option ∷ [] = cc in
    let more = same_fronts rest others are in
    cc

one_rest : (options rest others : List (List ℕ)) → AreWithEvents options rest → AreWithEvents options others → All (λ w. w ≢ events_option) others
    → rest ≡ others
one_rest options rest others (inl is) (inl are) none = let same : events_option ∷ rest ≡ events_option ∷ others = sym is ∙ are in cc
one_rest options rest others (inl is) (inr are) none = both_ends rest others (sym is ∙ are) none
one_rest options rest others (inr is) (inl are) none = both_ends_back rest others (sym is ∙ are) none
one_rest options rest others (inr is) (inr are) none = same_fronts rest others (sym is ∙ are)

module _ (options rest : List (List ℕ)) (with : AreWithEvents options rest) where
  -- what options ask for that have the option for events, the rest asks for
  follow-with : (rule : LossRule) (events : Bool) → AskToFollowAlone rule events options → (events ≡ true) × AskForRuleAlone rule rest
  follow-with rule false alone = absurd (no_events rule options alone (has_events options rest with))
  follow-with rule true alone =
      let same = one_rest options rest alone.0 with alone.1 (no_events_alone rule alone.0 alone.2) in
      (refl, subst (AskForRuleAlone rule) (sym same) alone.2)

  -- so they ask for it by this rule, with events
  pub follow-with_rule : (by : LossRule) → AskForRuleAlone by rest → (rule : LossRule) (events : Bool)
      → (◌≡◌ {A = Option (LossRule × Bool)} (Some (by, true)) (Some (rule, events))) ↔ AskToFollowAlone rule events options
  follow-with_rule by alone rule events = (
    λ e.
        let same : by ≡ rule = ap (λ (pair : LossRule × Bool). pair.0) (same_Some (by, true) (rule, events) e) in
        let asked : true ≡ events = ap (λ (pair : LossRule × Bool). pair.1) (same_Some (by, true) (rule, events) e) in
        subst (λ (b : Bool). AskToFollowAlone rule b options) asked (rest, with, subst (λ (r : LossRule). AskForRuleAlone r rest) same alone),
    λ asks.
        let found = follow-with rule events asks in
        let same : by ≡ rule = alone_one by rule rest alone found.1 in
        let told : events ≡ true = found.0 in
        cc,
  )

  -- or for nothing
  pub follow-with_none : ((rule : LossRule) → ¬ AskForRuleAlone rule rest) → (rule : LossRule) (events : Bool)
      → (◌≡◌ {A = Option (LossRule × Bool)} None (Some (rule, events))) ↔ AskToFollowAlone rule events options
  follow-with_none none rule events = (λ e. absurd cc, λ asks. absurd (none rule (follow-with rule events asks).1))

module _ (options : List (List ℕ)) (without : (rest : List (List ℕ)) → ¬ AreWithEvents options rest) where
  -- the same where they haven't that option at either end
  follow-without : (rule : LossRule) (events : Bool) → AskToFollowAlone rule events options → (events ≡ false) × AskForRuleAlone rule options
  follow-without rule false alone = (refl, alone)
  follow-without rule true alone = absurd (without alone.0 alone.1)

  pub follow-without_rule : (by : LossRule) → AskForRuleAlone by options → (rule : LossRule) (events : Bool)
      → (◌≡◌ {A = Option (LossRule × Bool)} (Some (by, false)) (Some (rule, events))) ↔ AskToFollowAlone rule events options
  follow-without_rule by alone rule events = (
    λ e.
        let same : by ≡ rule = ap (λ (pair : LossRule × Bool). pair.0) (same_Some (by, false) (rule, events) e) in
        let asked : false ≡ events = ap (λ (pair : LossRule × Bool). pair.1) (same_Some (by, false) (rule, events) e) in
        subst (λ (b : Bool). AskToFollowAlone rule b options) asked (subst (λ (r : LossRule). AskForRuleAlone r options) same alone),
    λ asks.
        let found = follow-without rule events asks in
        let same : by ≡ rule = alone_one by rule options alone found.1 in
        let told : events ≡ false = found.0 in
        cc,
  )

  pub follow-without_none : ((rule : LossRule) → ¬ AskForRuleAlone rule options) → (rule : LossRule) (events : Bool)
      → (◌≡◌ {A = Option (LossRule × Bool)} None (Some (rule, events))) ↔ AskToFollowAlone rule events options
  follow-without_none none rule events = (λ e. absurd cc, λ asks. absurd (none rule (follow-without rule events asks).1))

-- ---- where the option stands

-- options end with their last one
split_last : {X : Type 0} (options : List X) (n : ℕ) (last : X) → length options ≡ suc n → last ≡ get_or options n last → options ≡ take n options ++ last ∷ []
split_last [] n last long is = absurd (omega (arith, long))
split_last (one ∷ []) zero last long is = ap (λ x. x ∷ []) (sym is)
split_last (one ∷ []) (suc n) last long is = absurd (omega (arith, long))
split_last (one ∷ two ∷ more) zero last long is = absurd (omega (arith, long))
split_last (one ∷ two ∷ more) (suc n) last long is = ap (λ xs. one ∷ xs) (split_last (two ∷ more) n last (omega (arith, long)) is)

module _ {X : Type 0} (text : X → List ℕ) (options : List X) (some : 1 ≤ length options) where
  -- options begin with the first one
  first_of : (first : X) → first ≡ get_or options 0 first → map text options ≡ text first ∷ map text (take (length options - 1) (drop 1 options))
  first_of first is = begins options some is where
    begins : (all : List X) → 1 ≤ length all → first ≡ get_or all 0 first → map text all ≡ text first ∷ map text (take (length all - 1) (drop 1 all))
    begins [] few at = absurd (omega arith)
    begins (one ∷ more) few at =
        let whole = take_all (length (one ∷ more) - 1) more (omega arith) in
        ap (λ (x : X). text x ∷ map text more) (sym at) ∙ ap (λ (rest : List X). text first ∷ map text rest) (sym whole)

  last_of : (last : X) → last ≡ get_or options (length options - 1) last → map text options ≡ map text (take (length options - 1) options) ++ text last ∷ []
  last_of last is =
      ap (map text) (split_last options (length options - 1) last (omega (arith, some)) is) ∙ map-append text (take (length options - 1) options) (last ∷ [])

  -- the option for events stands first
  pub events_first : (first : X) (shown : List ℕ) → first ≡ get_or options 0 first → shown ≡ text first → shown ≡ events_option
      → map text options ≡ events_option ∷ map text (take (length options - 1) (drop 1 options))
  events_first first shown at shows is =
      first_of first at ∙ ap (λ (word : List ℕ). word ∷ map text (take (length options - 1) (drop 1 options))) (sym shows ∙ is)

  -- or last
  pub events_last : (last : X) (shown : List ℕ) → last ≡ get_or options (length options - 1) last → shown ≡ text last → shown ≡ events_option
      → map text options ≡ map text (take (length options - 1) options) ++ events_option ∷ []
  events_last last shown at shows is =
      last_of last at ∙ ap (λ (word : List ℕ). map text (take (length options - 1) options) ++ word ∷ []) (sym shows ∙ is)
