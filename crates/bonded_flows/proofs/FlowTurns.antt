-- Turns of one flow, one after another.
use Rattle.std.proofs.Common.{◌≡◌, ℕ, Bool, Result, Ok, Err, OnErr, List, [], ◌++◌, map, ap, sym, subst, ◌∙◌, append_assoc, append-nil}
use Rattle.std.proofs.lemmas.List.{map-append}
use Rattle.flow_core.specs.declared.counts.FlowCounts.{FlowCounts}
use Rattle.loss_rule.specs.Rule.{Coming}
use Rattle.consumer.specs.declared.given.Given.{Given}
use Rattle.consumer.specs.declared.given.Given.TheVariants.{Frame}
use Rattle.bonded_flows.specs.declared.bonded_flow.BondedFlow.{BondedFlow}
use Rattle.bonded_flows.specs.FlowSetup.{FlowSetup}
use Rattle.bonded_flows.specs.ByRule.{GaveByRule}
use Rattle.bonded_flows.specs.Stands.{HasCome, IsUnderWay}
use Rattle.bonded_flows.specs.Taking.{WasGiven, Takes, Closes}

module _ {O : Type 0} (after : O → List Given → O → Type 0) (check : List ℕ → Bool) where
  -- frames are given, and then others
  pub given-twice : (index : ℕ) (out mid end : O) (more others : List (List ℕ)) → WasGiven after index out more mid → WasGiven after index mid others end
      → WasGiven after index out (more ++ others) end
  given-twice index out mid end more others first second = λ start given before.
      subst (λ (all : List Given). after start all end)
      (append_assoc given (map (Frame index) more) (map (Frame index) others) ∙ ap (λ (t : List Given). given ++ t) (sym (map-append (Frame index) more others)))
      (second start (given ++ map (Frame index) more) (first start given before))

  -- whatever it takes, a flow keeps its index
  pub keeps-index : (bonded two : BondedFlow) (out end : O) (comings : List Coming) → Takes after check bonded out comings two end → IsUnderWay check bonded
      → two.index ≡ bonded.index
  keeps-index bonded two out end comings takes way =
      let now = takes.has_come way.setup way.comings way.given way.has_come in
      now.taking.has_taken.made.index ∙ sym way.has_come.taking.has_taken.made.index

  -- what stands for the same afterwards
  pub takes-still : (bonded two three : BondedFlow) (out end : O) → Takes after check bonded out [] two end
      → ((setup : FlowSetup) (comings : List Coming) (given : List (List ℕ)) → HasCome check setup two comings given → HasCome check setup three comings given)
      → Takes after check bonded out [] three end
  takes-still bonded two three out end takes still = record {
    more = takes.more;
    was_given = takes.was_given;
    has_come = λ setup before given has. still setup (before ++ []) (given ++ takes.more) (takes.has_come setup before given has);
  }

  module _ (bonded two : BondedFlow) (out mid : O) (way : IsUnderWay check bonded) (first : Takes after check bonded out [] two mid) where
    same : (setup : FlowSetup) (before : List Coming) (given : List (List ℕ)) → HasCome check setup bonded before given → HasCome check setup two before (given ++ first.more)
    same setup before given has =
        subst (λ (comings : List Coming). HasCome check setup two comings (given ++ first.more)) (append-nil before) (first.has_come setup before given has)

    -- what takes nothing, and then something
    pub takes-then : (three : BondedFlow) (end : O) (comings : List Coming) → Takes after check two mid comings three end → Takes after check bonded out comings three end
    takes-then three end comings second = record {
      more = first.more ++ second.more;
      was_given = given-twice bonded.index out mid end first.more second.more first.was_given
          (subst (λ (index : ℕ). WasGiven after index mid second.more end) (keeps-index bonded two out mid [] first way) second.was_given);
      has_come = λ setup before given has.
          subst (λ (frames : List (List ℕ)). HasCome check setup three (before ++ comings) frames) (append_assoc given first.more second.more)
          (second.has_come setup before (given ++ first.more) (same setup before given has));
    }

    -- and then closes
    pub closes-then : (end : O) (counts : FlowCounts) → Closes after check two mid counts end → Closes after check bonded out counts end
    closes-then end counts second = record {
      more = first.more ++ second.more;
      was_given = given-twice bonded.index out mid end first.more second.more first.was_given
          (subst (λ (index : ℕ). WasGiven after index mid second.more end) (keeps-index bonded two out mid [] first way) second.was_given);
      gave = λ setup comings given has.
          subst (λ (frames : List (List ℕ)). GaveByRule check setup comings frames counts) (append_assoc given first.more second.more)
          (second.gave setup comings (given ++ first.more) (same setup comings given has));
    }

-- what holds anyhow holds of each bad result
pub on-any_err : {T E : Type 0} {Q : Type 0} (result : Result T E) → Q → OnErr result Q
on-any_err (Ok t) is = tt
on-any_err (Err e) is = is
