-- A segment that arrives at once, or later.
use Rattle.std.proofs.Common.{◌≡◌, ℕ, Bool, Option, List, [], ◌∷◌, ◌++◌, map, refl, ap, sym, subst, ◌∙◌, append_assoc}
use Rattle.std.proofs.lemmas.List.{map-append}
use Rattle.docsis_wire.specs.declared.segment.Segment.{Segment}
use Rattle.docsis_wire.specs.declared.segment.ReadySegment.{ReadySegment}
use Rattle.reorder.specs.declared.verdict.Verdict.{Verdict}
use Rattle.flow_core.specs.declared.flow.Flow.{Flow}
use Rattle.flow_core.specs.declared.event.Applied.TheVariants.{Arrival}
use Rattle.flow_core.specs.Events.{FlowEvent, arrives, IsAfter}
use Rattle.flow_core.specs.Stands.{TakesEvent as FlowTakesEvent}
use Rattle.loss_rule.specs.Rule.{Lasts}
use Rattle.loss_rule.specs.Numbers.{skips_to}
use Rattle.loss_rule.proofs.Rulings.{sliding-some}
use Rattle.consumer.specs.declared.given.Given.{Given}
use Rattle.consumer.specs.declared.given.Given.TheVariants.{Frame}
use Rattle.bonded_flows.specs.declared.bonded_flow.BondedFlow.{BondedFlow}
use Rattle.bonded_flows.specs.declared.pending.Pending.{Pending}
use Rattle.bonded_flows.specs.declared.pending.Pending.TheVariants.{Nothing, Slide, Arrive}
use Rattle.bonded_flows.specs.FlowSetup.{FlowSetup, ruled_flow}
use Rattle.bonded_flows.specs.Answers.{verdict_of}
use Rattle.bonded_flows.specs.ByRule.{EndInVerdict}
use Rattle.bonded_flows.specs.Stands.{HasTaken, HasTakenSome, SlidesNext, IsPending, IsTaking, IsUpToDate}
use Rattle.bonded_flows.specs.Taking.{WasGiven, GivesMore, TakesArrival, TakesSliding, SkipsSlid}
use Rattle.bonded_flows.proofs.TakenEvents.{event-taken, left-anyhow}

-- frames that are given in two parts
pub given-twice : {O : Type 0} (after : O → List Given → O → Type 0) (index other : ℕ) (out between out' : O) (more most : List (List ℕ)) → other ≡ index
    → WasGiven after index out more between → WasGiven after other between most out' → WasGiven after index out (more ++ most) out'
given-twice after index other out between out' more most same first second start given before =
    let f : List ℕ → Given = Frame index in
    subst (λ all. after start all out')
    (ap (λ k. (given ++ map f more) ++ map (Frame k) most) same
    ∙ append_assoc given (map f more) (map f most)
    ∙ ap (λ (all : List Given). given ++ all) (sym (map-append f more most)))
    (second start (given ++ map f more) (first start given before))

-- what gave more stands for something still
pub some-given : {O : Type 0} (after : O → List Given → O → Type 0) (check : List ℕ → Bool) (bonded one : BondedFlow) (out out' : O)
    → GivesMore after check bonded out one out' → HasTakenSome check bonded → HasTakenSome check one
some-given after check bonded one out out' gives some = record {
  setup = some.setup;
  events = some.events;
  lasts = some.lasts;
  given = some.given ++ gives.more;
  has_taken = (gives.has_taken some.setup some.events some.lasts some.given some.has_taken).0;
}

-- and once the window slid, too
pub some-slid : (check : List ℕ → Bool) (one mid : BondedFlow) (number : ℕ) (slid : Option ℕ) → SkipsSlid one number slid mid → HasTakenSome check one → HasTakenSome check mid
some-slid check one mid number slid skips some =
    let has = some.has_taken in
    let sliding = sliding-some (ruled_flow some.setup) has.stands.x number in
    record {
      setup = some.setup;
      events = some.events ++ sliding.0;
      lasts = some.lasts;
      given = some.given;
      has_taken = (skips check some.setup some.events sliding.0 some.lasts some.given has (has.answers, has.stands.fates, has.stands.x, has.stands.after, has.stands.expected, sliding.1)).0;
    }

module _ {O : Type 0} (after : O → List Given → O → Type 0) (check : List ℕ → Bool) (bonded one : BondedFlow) (out out' : O) (segment : Segment)
    (gives : GivesMore after check bonded out one out') where
  -- where an allocation failed before it arrives
  pub arrives-later : (ready : ReadySegment) → ready.segment ≡ segment → TakesArrival after check bonded out segment (record one { pending = Arrive ready }) out'
  arrives-later ready same = record {
    more = gives.more;
    was_given = gives.was_given;
    taking = λ setup taken lasts given has. record {
      taken = taken;
      has_taken = left-anyhow check setup one taken lasts (given ++ gives.more) (gives.has_taken setup taken lasts given has).0 (Arrive ready);
      left = ap (λ (s : Segment). taken ++ arrives s ∷ []) (sym same);
    };
  }

  -- and before the window slides
  pub slides-later : (ready : ReadySegment) → ready.segment ≡ segment → TakesSliding after check bonded out segment (record one { pending = Slide ready }) out'
  slides-later ready same = record {
    more = gives.more;
    was_given = gives.was_given;
    taking = λ setup taken sliding lasts given has slides. record {
      taken = taken;
      has_taken = left-anyhow check setup one taken lasts (given ++ gives.more) (gives.has_taken setup taken lasts given has).0 (Slide ready);
      left = (
        sliding,
        subst (λ (s : Segment). SlidesNext setup taken s.head.sequence sliding) (sym same) slides,
        ap (λ (s : Segment). (taken ++ sliding) ++ arrives s ∷ []) (sym same),
      );
    };
  }

  -- it arrives
  module _ (up : IsUpToDate one) (verdict : Verdict Segment) (flow' : Flow) (takes : FlowTakesEvent one.flow (arrives segment) (Arrival verdict) flow') where
    arrived : (setup : FlowSetup) (taken : List FlowEvent) (lasts : Lasts) (given : List (List ℕ)) → (has : HasTaken check setup bonded taken lasts given)
        → (now : HasTaken check setup (record one { flow = flow' }) (taken ++ arrives segment ∷ []) lasts (given ++ gives.more))
        × (now.answers ≡ (gives.has_taken setup taken lasts given has).0.answers ++ Arrival verdict ∷ [])
    arrived setup taken lasts given has =
        event-taken check setup one taken lasts (given ++ gives.more) (gives.has_taken setup taken lasts given has).0 up (arrives segment) (Arrival verdict) flow' takes

    pub some-arrived : HasTakenSome check bonded → HasTakenSome check (record one { flow = flow' })
    some-arrived some = record {
      setup = some.setup;
      events = some.events ++ arrives segment ∷ [];
      lasts = some.lasts;
      given = some.given ++ gives.more;
      has_taken = (arrived some.setup some.events some.lasts some.given some.has_taken).0;
    }

    pub arrived-told : (setup : FlowSetup) (taken : List FlowEvent) (lasts : Lasts) (given : List (List ℕ)) → HasTaken check setup bonded taken lasts given
        → EndInVerdict setup (taken ++ arrives segment ∷ []) (verdict_of verdict)
    arrived-told setup taken lasts given has =
        let now = arrived setup taken lasts given has in (
          (gives.has_taken setup taken lasts given has).0.answers,
          verdict,
          now.0.stands.fates,
          subst (λ answers. IsAfter setup.flow_record.first setup.flow_record.window (taken ++ arrives segment ∷ []) answers now.0.stands.fates) now.1 now.0.stands.after,
          refl,
        )

    pub arrives-now : (two : BondedFlow) (end : O) → one.index ≡ bonded.index → GivesMore after check (record one { flow = flow' }) out' two end → two.pending ≡ Nothing
        → TakesArrival after check bonded out segment two end
    arrives-now two end index more nothing = record {
      more = gives.more ++ more.more;
      was_given = given-twice after bonded.index one.index out out' end gives.more more.more index gives.was_given more.was_given;
      taking = λ setup taken lasts given has.
          let all = taken ++ arrives segment ∷ [] in
          let now = arrived setup taken lasts given has in
          let then = (more.has_taken setup all lasts (given ++ gives.more) now.0).0 in
          record {
            taken = all;
            has_taken = subst (HasTaken check setup two all lasts) (append_assoc given gives.more more.more) then;
            left = subst (λ (pending : Pending). IsPending setup pending all all) (sym nothing) refl;
          };
    }

  -- The window slides, and then it arrives.
  module _ (slid : Option ℕ) (mid two : BondedFlow) (end : O) (skips : SkipsSlid one segment.head.sequence slid mid) where
    pub slid-taken : (setup : FlowSetup) (taken sliding : List FlowEvent) (lasts : Lasts) (given : List (List ℕ)) → HasTaken check setup bonded taken lasts given
        → SlidesNext setup taken segment.head.sequence sliding
        → HasTaken check setup mid (taken ++ sliding) lasts (given ++ gives.more) × (sliding ≡ skips_to slid)
    slid-taken setup taken sliding lasts given has slides =
        skips check setup taken sliding lasts (given ++ gives.more) (gives.has_taken setup taken lasts given has).0 slides

    pub slides-now : mid.index ≡ bonded.index → TakesArrival after check mid out' segment two end → TakesSliding after check bonded out segment two end
    slides-now index arrival = record {
      more = gives.more ++ arrival.more;
      was_given = given-twice after bonded.index mid.index out out' end gives.more arrival.more index gives.was_given arrival.was_given;
      taking = λ setup taken sliding lasts given has slides.
          subst (IsTaking check setup two ((taken ++ sliding) ++ arrives segment ∷ []) lasts) (append_assoc given gives.more arrival.more)
          (arrival.taking setup (taken ++ sliding) lasts (given ++ gives.more) (slid-taken setup taken sliding lasts given has slides).0);
    }
