-- What was left is done.
use Rattle.std.proofs.Common.{◌≡◌, ℕ, Bool, List, [], ◌++◌, refl, sym, subst, append-nil}
use Rattle.docsis_wire.specs.declared.segment.ReadySegment.{ReadySegment}
use Rattle.flow_core.specs.Events.{FlowEvent}
use Rattle.loss_rule.specs.Rule.{Coming, Lasts}
use Rattle.consumer.specs.declared.given.Given.{Given}
use Rattle.bonded_flows.specs.declared.bonded_flow.BondedFlow.{BondedFlow}
use Rattle.bonded_flows.specs.declared.pending.Pending.{Pending}
use Rattle.bonded_flows.specs.declared.pending.Pending.TheVariants.{Nothing, Slide, Arrive, Close}
use Rattle.bonded_flows.specs.FlowSetup.{FlowSetup}
use Rattle.bonded_flows.specs.Stands.{HasTakenSome, IsPending, IsTaking, HasCome, IsUnderWay}
use Rattle.bonded_flows.specs.Taking.{WasGiven, GivesMore, TakesArrival, TakesSliding, Takes}
use Rattle.bonded_flows.proofs.TakenEvents.{left-anyhow}

-- what is left is the close, if it is nothing else
pub only-Close : (pending : Pending) → (pending ≡ Nothing → ⊥) → ((ready : ReadySegment) → pending ≡ Slide ready → ⊥) → ((ready : ReadySegment) → pending ≡ Arrive ready → ⊥) → pending ≡ Close
only-Close Nothing some stays comes = absurd (some refl)
only-Close (Slide ready) some stays comes = absurd (stays ready refl)
only-Close (Arrive ready) some stays comes = absurd (comes ready refl)
only-Close Close some stays comes = refl

-- whatever is said to be left, it has taken something
pub some-anyhow : (check : List ℕ → Bool) (bonded : BondedFlow) (pending' : Pending) → IsUnderWay check bonded → HasTakenSome check (record bonded { pending = pending' })
some-anyhow check bonded pending' way =
    let t = way.has_come.taking in
    record {
      setup = way.setup;
      events = t.taken;
      lasts = way.has_come.lasts;
      given = way.given;
      has_taken = left-anyhow check way.setup bonded t.taken way.has_come.lasts way.given t.has_taken pending';
    }

-- what takes something is still under way
pub still-under_way : {O : Type 0} (after : O → List Given → O → Type 0) (check : List ℕ → Bool) (bonded two : BondedFlow) (out end : O) (comings : List Coming)
    → Takes after check bonded out comings two end → IsUnderWay check bonded → IsUnderWay check two
still-under_way after check bonded two out end comings takes way = record {
  setup = way.setup;
  comings = way.comings ++ comings;
  given = way.given ++ takes.more;
  has_come = takes.has_come way.setup way.comings way.given way.has_come;
}

module _ {O : Type 0} (after : O → List Given → O → Type 0) (check : List ℕ → Bool) (bonded two : BondedFlow) (out end : O) where
  -- nothing came besides
  module _ (more : List (List ℕ)) (was_given : WasGiven after bonded.index out more end)
      (taking : (setup : FlowSetup) (events : List FlowEvent) (lasts : Lasts) (given : List (List ℕ))
      → IsTaking check setup bonded events lasts given → IsTaking check setup two events lasts (given ++ more)) where
    nothing-comes : Takes after check bonded out [] two end
    nothing-comes = record {
      more = more;
      was_given = was_given;
      has_come = λ setup before given has.
          subst (λ (comings : List Coming). HasCome check setup two comings (given ++ more)) (sym (append-nil before))
          (record {
            events = has.events;
            lasts = has.lasts;
            fates = has.fates;
            ruled = has.ruled;
            taking = taking setup has.events has.lasts given has.taking;
          });
    }

  -- what is next is joined
  pub joined-goes-on : (pending' : Pending) → bonded.pending ≡ two.pending → GivesMore after check (record bonded { pending = pending' }) out two end
      → Takes after check bonded out [] two end
  joined-goes-on pending' same gives =
      nothing-comes gives.more gives.was_given
      (λ setup events lasts given t. record {
        taken = t.taken;
        has_taken = (gives.has_taken setup t.taken lasts given (left-anyhow check setup bonded t.taken lasts given t.has_taken pending')).0;
        left = subst (λ (p : Pending). IsPending setup p events t.taken) same t.left;
      })

  -- a segment arrives that has still to
  pub arrival-goes-on : (pending' : Pending) (ready : ReadySegment) → bonded.pending ≡ Arrive ready → TakesArrival after check (record bonded { pending = pending' }) out ready.segment two end
      → Takes after check bonded out [] two end
  arrival-goes-on pending' ready was takes =
      nothing-comes takes.more takes.was_given
      (λ setup events lasts given t.
      let left : IsPending setup (Arrive ready) events t.taken = subst (λ (p : Pending). IsPending setup p events t.taken) was t.left in
      subst (λ (e : List FlowEvent). IsTaking check setup two e lasts (given ++ takes.more)) (sym left)
      (takes.taking setup t.taken lasts given (left-anyhow check setup bonded t.taken lasts given t.has_taken pending')))

  -- and before it the window slides
  pub slide-goes-on : (pending' : Pending) (ready : ReadySegment) → bonded.pending ≡ Slide ready → TakesSliding after check (record bonded { pending = pending' }) out ready.segment two end
      → Takes after check bonded out [] two end
  slide-goes-on pending' ready was takes =
      nothing-comes takes.more takes.was_given
      (λ setup events lasts given t.
      let left : IsPending setup (Slide ready) events t.taken = subst (λ (p : Pending). IsPending setup p events t.taken) was t.left in
      subst (λ (e : List FlowEvent). IsTaking check setup two e lasts (given ++ takes.more)) (sym left.2)
      (takes.taking setup t.taken left.0 lasts given (left-anyhow check setup bonded t.taken lasts given t.has_taken pending') left.1))
