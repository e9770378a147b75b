-- A decision that is handed in to a settled flow is taken, and what is told of it is so.
use Rattle.std.proofs.Common.{◌≡◌, ℕ, Bool, List, [], ◌∷◌, ◌++◌, refl, sym, subst}
use Rattle.flow_core.specs.declared.event.Applied.{Applied}
use Rattle.flow_core.specs.Events.{FlowEvent, IsAfter}
use Rattle.loss_rule.specs.Rule.{Coming, handed_in}
use Rattle.consumer.specs.declared.given.Given.{Given}
use Rattle.bonded_flows.specs.declared.bonded_flow.BondedFlow.{BondedFlow}
use Rattle.bonded_flows.specs.declared.pending.Pending.{Pending}
use Rattle.bonded_flows.specs.declared.pending.Pending.TheVariants.{Nothing}
use Rattle.bonded_flows.specs.FlowSetup.{FlowSetup}
use Rattle.bonded_flows.specs.ByRule.{IsToldLost}
use Rattle.bonded_flows.specs.Stands.{HasTaken, HasTakenSome, IsPending, HasCome, IsSettled, IsUnderWay}
use Rattle.bonded_flows.specs.Taking.{WasGiven, TakesDecision, GivesMore, Takes}
use Rattle.bonded_flows.proofs.SettledFlows.{all-taken}
use Rattle.bonded_flows.proofs.Comings.{decision-come}

module _ (check : List ℕ → Bool) (bonded mid : BondedFlow) (event : FlowEvent) (lost : Bool) (settled : IsSettled bonded) (takes : TakesDecision bonded event lost mid) where
  -- its event is taken
  pub record Decided (setup : FlowSetup) (before : List Coming) (given : List (List ℕ)) (has : HasCome check setup bonded before given) : Type 0 where
    pub now : HasTaken check setup mid (has.events ++ event ∷ []) has.lasts given
    pub earlier : List Applied
    pub answers : now.answers ≡ earlier ++ takes.answer ∷ []

  decided : (setup : FlowSetup) (before : List Coming) (given : List (List ℕ)) (has : HasCome check setup bonded before given) → Decided setup before given has
  decided setup before given has =
      let t = all-taken check setup bonded before given has settled in
      let n = takes.taken check setup has.events has.lasts given t in
      record { now = n.0; earlier = t.answers; answers = n.1 }

  pub some-decided : IsUnderWay check bonded → HasTakenSome check mid
  some-decided way = record {
    setup = way.setup;
    events = way.has_come.events ++ event ∷ [];
    lasts = way.has_come.lasts;
    given = way.given;
    has_taken = (decided way.setup way.comings way.given way.has_come).now;
  }

  pub decision-told : (setup : FlowSetup) (before : List Coming) (given : List (List ℕ)) → HasCome check setup bonded before given → IsToldLost setup before event lost
  decision-told setup before given has =
      let d = decided setup before given has in
      let after = d.now.stands.after in
      record {
        events = has.events ++ event ∷ [];
        lasts = has.lasts;
        fates = d.now.stands.fates;
        ruled = decision-come setup before has.events has.lasts has.fates d.now.stands.fates event d.now.answers has.ruled after;
        answers = d.earlier;
        answer = takes.answer;
        answered = subst (λ answers. IsAfter setup.flow_record.first setup.flow_record.window (has.events ++ event ∷ []) answers d.now.stands.fates) d.answers after;
        says = takes.says;
      }

  pub decision-takes : {O : Type 0} (after : O → List Given → O → Type 0) (two : BondedFlow) (out end : O) → mid.index ≡ bonded.index
      → GivesMore after check mid out two end → two.pending ≡ Nothing → Takes after check bonded out (handed_in event ∷ []) two end
  decision-takes after two out end index gives nothing = record {
    more = gives.more;
    was_given = subst (λ k. WasGiven after k out gives.more end) index gives.was_given;
    has_come = λ setup before given has.
        let d = decided setup before given has in
        let all = has.events ++ event ∷ [] in
        record {
          events = all;
          lasts = has.lasts;
          fates = d.now.stands.fates;
          ruled = decision-come setup before has.events has.lasts has.fates d.now.stands.fates event d.now.answers has.ruled d.now.stands.after;
          taking = record {
            taken = all;
            has_taken = (gives.has_taken setup all has.lasts given d.now).0;
            left = subst (λ (pending : Pending). IsPending setup pending all all) (sym nothing) refl;
          };
        };
  }
