-- A segment that comes to a settled flow is taken, and what is told of it is so.
use Rattle.std.proofs.Common.{◌≡◌, ◌≢◌, ℕ, Bool, Option, None, Some, List, [], ◌∷◌, ◌++◌, refl, ap, sym, subst, ◌∙◌, append_assoc, append-nil}
use Rattle.docsis_wire.specs.declared.segment.Segment.{Segment}
use Rattle.flow_core.specs.Events.{FlowEvent, arrives, skip_to}
use Rattle.loss_rule.specs.declared.rule.LossRule.TheVariants.{PassedOrSlid}
use Rattle.loss_rule.specs.Rule.{Coming, on_channel, Lasts}
use Rattle.loss_rule.specs.Numbers.{skips_to}
use Rattle.consumer.specs.declared.given.Given.{Given}
use Rattle.bonded_flows.specs.declared.bonded_flow.BondedFlow.{BondedFlow}
use Rattle.bonded_flows.specs.declared.told.SegmentVerdict.{SegmentVerdict}
use Rattle.bonded_flows.specs.FlowSetup.{FlowSetup, ruled_flow}
use Rattle.bonded_flows.specs.ByRule.{EndInVerdict, IsLastSkip, IsTold}
use Rattle.bonded_flows.specs.Stands.{HasTaken, HasTakenSome, SlidesNext, IsTaking, HasCome, IsSettled, IsUnderWay}
use Rattle.bonded_flows.specs.Taking.{WasGiven, SkipsPassed, TakesArrival, TakesSliding, Takes}
use Rattle.bonded_flows.proofs.SettledFlows.{all-taken, expected-by_rule}
use Rattle.bonded_flows.proofs.Comings.{MakesSteps, steps-some, same-passing}

-- where two skips are told, the second one is the last
pub last-skip : (passed slid : Option ℕ) (sliding : List FlowEvent) (either : Option ℕ) → sliding ≡ skips_to slid
    → (slid ≡ None → either ≡ passed) → ((number : ℕ) → slid ≡ Some number → either ≡ slid) → IsLastSkip either (skips_to passed ++ sliding)
last-skip passed (Some number) sliding either is none some =
    subst (λ (e : Option ℕ). IsLastSkip e (skips_to passed ++ sliding)) (sym (some number refl)) (skips_to passed, ap (λ (s : List FlowEvent). skips_to passed ++ s) is)
last-skip passed None sliding either is none some =
    subst (λ (e : Option ℕ). IsLastSkip e (skips_to passed ++ sliding)) (sym (none refl)) (only passed)
  where
    only : (one : Option ℕ) → IsLastSkip one (skips_to one ++ sliding)
    only None = is
    only (Some number) = ([], ap (λ (s : List FlowEvent). skip_to number ∷ s) is)

module _ (check : List ℕ → Bool) (bonded mid : BondedFlow) (channel : ℕ) (segment : Segment) (passed : Option ℕ) (settled : IsSettled bonded)
    (skips : SkipsPassed bonded channel segment.head.sequence passed mid) where
  -- it makes these steps, of which the skip of what was passed is taken
  pub record Stepped (setup : FlowSetup) (before : List Coming) (given : List (List ℕ)) (has : HasCome check setup bonded before given) : Type 0 where
    pub noted : Lasts
    pub sliding : List FlowEvent
    pub makes : MakesSteps setup before has.events channel segment noted (skips_to passed) sliding
    pub mid_taken : HasTaken check setup mid (has.events ++ skips_to passed) noted given

  pub stepped : (setup : FlowSetup) (before : List Coming) (given : List (List ℕ)) (has : HasCome check setup bonded before given) → Stepped setup before given has
  stepped setup before given has =
      let t = all-taken check setup bonded before given has settled in
      let s = steps-some setup before has.events has.lasts has.fates t.stands.x channel segment has.ruled (expected-by_rule check setup bonded before given has settled) in
      let m = skips check setup has.events has.lasts s.0 given t.answers t.stands.fates t.stands.x t t.stands.after t.stands.expected s.4 in
      let same = same-passing setup.rule (ruled_flow setup) s.0 t.stands.x s.1 passed s.5 s.6 m.1 m.2 in
      record {
        noted = s.0;
        sliding = s.2;
        makes = subst (λ (passing : List FlowEvent). MakesSteps setup before has.events channel segment s.0 passing s.2) same s.3;
        mid_taken = m.0;
      }

  -- so something is taken then
  pub some-stepped : IsUnderWay check bonded → HasTakenSome check mid
  some-stepped way =
      let s = stepped way.setup way.comings way.given way.has_come in
      record { setup = way.setup; events = way.has_come.events ++ skips_to passed; lasts = s.noted; given = way.given; has_taken = s.mid_taken }

  -- lists of steps
  all-in-turn : (events p s : List FlowEvent) → ((events ++ p) ++ s) ++ arrives segment ∷ [] ≡ events ++ ((p ++ s) ++ arrives segment ∷ [])
  all-in-turn events p s = ap (λ (t : List FlowEvent). t ++ arrives segment ∷ []) (append_assoc events p s) ∙ append_assoc events (p ++ s) (arrives segment ∷ [])

  without-slide : (events p s : List FlowEvent) → s ≡ [] → (events ++ p) ++ arrives segment ∷ [] ≡ events ++ ((p ++ s) ++ arrives segment ∷ [])
  without-slide events p s none =
      append_assoc events p (arrives segment ∷ [])
      ∙ ap (λ (t : List FlowEvent). events ++ (t ++ arrives segment ∷ [])) (sym (append-nil p) ∙ ap (λ (t : List FlowEvent). p ++ t) (sym none))

  module _ {O : Type 0} (after : O → List Given → O → Type 0) (two : BondedFlow) (out end : O) (index : mid.index ≡ bonded.index) where
    -- the window slides, and it arrives
    pub slid-takes : bonded.rule ≡ PassedOrSlid → TakesSliding after check mid out segment two end → Takes after check bonded out (on_channel channel segment ∷ []) two end
    slid-takes rule takes = record {
      more = takes.more;
      was_given = subst (λ k. WasGiven after k out takes.more end) index takes.was_given;
      has_come = λ setup before given has.
          let s = stepped setup before given has in
          let by = sym has.taking.has_taken.made.rule ∙ rule in
          record {
            events = has.events ++ ((skips_to passed ++ s.sliding) ++ arrives segment ∷ []);
            lasts = s.noted;
            fates = s.makes.after;
            ruled = s.makes.ruled;
            taking = subst (λ (e : List FlowEvent). IsTaking check setup two e s.noted (given ++ takes.more)) (all-in-turn has.events (skips_to passed) s.sliding)
                (takes.taking setup (has.events ++ skips_to passed) s.sliding s.noted given s.mid_taken (s.makes.slides by));
          };
    }

    -- it arrives
    pub arrived-takes : bonded.rule ≢ PassedOrSlid → TakesArrival after check mid out segment two end → Takes after check bonded out (on_channel channel segment ∷ []) two end
    arrived-takes other takes = record {
      more = takes.more;
      was_given = subst (λ k. WasGiven after k out takes.more end) index takes.was_given;
      has_come = λ setup before given has.
          let s = stepped setup before given has in
          let none = s.makes.stays (λ by. other (has.taking.has_taken.made.rule ∙ by)) in
          record {
            events = has.events ++ ((skips_to passed ++ s.sliding) ++ arrives segment ∷ []);
            lasts = s.noted;
            fates = s.makes.after;
            ruled = s.makes.ruled;
            taking = subst (λ (e : List FlowEvent). IsTaking check setup two e s.noted (given ++ takes.more)) (without-slide has.events (skips_to passed) s.sliding none)
                (takes.taking setup (has.events ++ skips_to passed) s.noted given s.mid_taken);
          };
    }

  -- what is told of it
  module _ (verdict : SegmentVerdict) (either : Option ℕ) where
    pub slid-told : bonded.rule ≡ PassedOrSlid → (slid : Option ℕ)
        → ((setup : FlowSetup) (taken sliding : List FlowEvent) (lasts : Lasts) (given : List (List ℕ))
        → HasTaken check setup mid taken lasts given → SlidesNext setup taken segment.head.sequence sliding
        → (sliding ≡ skips_to slid) × EndInVerdict setup ((taken ++ sliding) ++ arrives segment ∷ []) verdict)
        → (slid ≡ None → either ≡ passed) → ((number : ℕ) → slid ≡ Some number → either ≡ slid)
        → (setup : FlowSetup) (before : List Coming) (given : List (List ℕ)) → HasCome check setup bonded before given
        → IsTold setup before channel segment (record { skipped_to = either; verdict = verdict })
    slid-told rule slid told none some setup before given has =
        let s = stepped setup before given has in
        let by = sym has.taking.has_taken.made.rule ∙ rule in
        let t = told setup (has.events ++ skips_to passed) s.sliding s.noted given s.mid_taken (s.makes.slides by) in
        record {
          events = has.events;
          lasts = has.lasts;
          fates = has.fates;
          before = has.ruled;
          skips = skips_to passed ++ s.sliding;
          noted = s.noted;
          after = s.makes.after;
          ruled = s.makes.ruled;
          skipped = last-skip passed slid s.sliding either t.0 none some;
          verdict = subst (λ (e : List FlowEvent). EndInVerdict setup e verdict) (all-in-turn has.events (skips_to passed) s.sliding) t.1;
        }

    pub arrived-told : bonded.rule ≢ PassedOrSlid
        → ((setup : FlowSetup) (taken : List FlowEvent) (lasts : Lasts) (given : List (List ℕ))
        → HasTaken check setup mid taken lasts given → EndInVerdict setup (taken ++ arrives segment ∷ []) verdict)
        → (setup : FlowSetup) (before : List Coming) (given : List (List ℕ)) → HasCome check setup bonded before given
        → IsTold setup before channel segment (record { skipped_to = passed; verdict = verdict })
    arrived-told other told setup before given has =
        let s = stepped setup before given has in
        let none = s.makes.stays (λ by. other (has.taking.has_taken.made.rule ∙ by)) in
        record {
          events = has.events;
          lasts = has.lasts;
          fates = has.fates;
          before = has.ruled;
          skips = skips_to passed ++ s.sliding;
          noted = s.noted;
          after = s.makes.after;
          ruled = s.makes.ruled;
          skipped = last-skip passed None s.sliding passed none (λ _. refl) (λ number wrong. absurd cc);
          verdict = subst (λ (e : List FlowEvent). EndInVerdict setup e verdict) (without-slide has.events (skips_to passed) s.sliding none)
              (told setup (has.events ++ skips_to passed) s.noted given s.mid_taken);
        }
