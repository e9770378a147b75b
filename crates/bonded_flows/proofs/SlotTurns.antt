-- What a slot's flow takes its slot takes.
use Rattle.std.proofs.Common.{◌≡◌, ℕ, ◌<◌, Bool, false, Option, Some, None, is_some, Result, Ok, Err, IfOk, List, [], ◌∷◌, ◌++◌, ap, refl, sym, subst, ◌∙◌, append_assoc, append-nil}
use Rattle.std.specs.Global.{Box}
use Rattle.std.specs.Box.{box_value, with_value}
use Rattle.consumer.specs.declared.given.Given.{Given}
use Rattle.flow_records.specs.declared.record.FlowRecord.{FlowRecord}
use Rattle.flow_core.specs.declared.counts.FlowCounts.{FlowCounts}
use Rattle.flow_core.specs.Counts.{no_counts}
use Rattle.flow_core.specs.Events.{skip_to}
use Rattle.flow_core.proofs.Turns.{gaps-no_arrival}
use Rattle.loss_rule.specs.Rule.{Coming, handed_in, no_lasts}
use Rattle.bonded_flows.specs.declared.bonded_flow.BondedFlow.{BondedFlow}
use Rattle.bonded_flows.specs.declared.decision.FlowDecision.{FlowDecision}
use Rattle.bonded_flows.specs.declared.pending.Pending.TheVariants.{Close}
use Rattle.bonded_flows.specs.declared.flow_slot.FlowSlot.{FlowSlot}
use Rattle.bonded_flows.specs.FlowSetup.{FlowSetup, ruled_flow}
use Rattle.bonded_flows.specs.ByRule.{decision_event, skips_any, IsToldLost, GaveByRule}
use Rattle.bonded_flows.specs.Stands.{HasCome, IsUnderWay}
use Rattle.bonded_flows.specs.Taking.{WasGiven, Takes, Closes}
use Rattle.bonded_flows.specs.Parts.{begun_at}
use Rattle.bonded_flows.specs.Slots.{HasNotBegun, EntryStands, PartStands, IsInUse, SlotTakes, BeginsAnew}
use Rattle.std.proofs.lemmas.Option.{same_Some}
use Rattle.bonded_flows.proofs.SlotStates.{not-begun, begun, gave-nothing}
use Rattle.bonded_flows.proofs.FlowTurns.{given-twice}
use Rattle.bonded_flows.proofs.UnbegunDecisions.{nothing-there, still-not_begun, told-nothing}

module _ (check : List ℕ → Bool) (slot : FlowSlot) (flow : Box BondedFlow) (is : slot.flow ≡ Some flow) (in_use : IsInUse check slot) where
  came : HasCome check in_use.setup (box_value flow) in_use.comings in_use.given
  came = begun check in_use.setup slot flow in_use.comings in_use.given in_use.stands is

  -- the flow is under way
  pub under-way : IsUnderWay check (box_value flow)
  under-way = record { setup = in_use.setup; comings = in_use.comings; given = in_use.given; has_come = came }

  -- its frames are given under the slot's index
  pub same-index : (box_value flow).index ≡ slot.index
  same-index = came.taking.has_taken.made.index ∙ sym in_use.stands.index

  -- what stands for a flow stands for its slot
  pub still-stands : (setup : FlowSetup) (flow' : Box BondedFlow) (before after : List Coming) (given more : List (List ℕ))
      → PartStands check setup slot before given → HasCome check setup (box_value flow') after more → PartStands check setup (record slot { flow = Some flow' }) after more
  still-stands setup flow' before after given more stands has =
      record { index = stands.index; rule = stands.rule; record_is = stands.record_is; few = stands.few; channels = stands.channels; in_range = stands.in_range; entry = has }

  pub slot-takes : {O : Type 0} (after : O → List Given → O → Type 0) (out out' : O) (comings : List Coming) (now now' : BondedFlow) → now ≡ box_value flow
      → Takes after check now out comings now' out' → SlotTakes after check slot out comings (record slot { flow = Some (with_value flow now') }) out'
  slot-takes after out out' comings now now' same takes = record {
    more = takes.more;
    was_given = subst (λ (index : ℕ). WasGiven after index out takes.more out') (ap (λ (f : BondedFlow). f.index) same ∙ same-index) takes.was_given;
    stands = λ setup before given stands.
        still-stands setup (with_value flow now') before (before ++ comings) given (given ++ takes.more) stands
        (takes.has_come setup before given
        (subst (λ (f : BondedFlow). HasCome check setup f before given) (sym same) (begun check setup slot flow before given stands is)));
  }

-- what follows of each good result
pub on-ok : {T E : Type 0} {P Q : T → Type 0} (result : Result T E) → ((t : T) → P t → Q t) → IfOk result P → IfOk result Q
on-ok (Ok t) leads is = leads t is
on-ok (Err e) leads is = is

module _ {O : Type 0} (after : O → List Given → O → Type 0) (check : List ℕ → Bool) (slot mid : FlowSlot) (out out' : O) (in_use : IsInUse check slot)
    (first : SlotTakes after check slot out [] mid out') where
  -- it is in use afterwards
  pub still-in_use : IsInUse check mid
  still-in_use = record {
    setup = in_use.setup;
    comings = in_use.comings ++ [];
    given = in_use.given ++ first.more;
    stands = first.stands in_use.setup in_use.comings in_use.given in_use.stands;
  }

  pub same : (setup : FlowSetup) (before : List Coming) (given : List (List ℕ)) → PartStands check setup slot before given → PartStands check setup mid before (given ++ first.more)
  same setup before given stands =
      subst (λ (comings : List Coming). PartStands check setup mid comings (given ++ first.more)) (append-nil before) (first.stands setup before given stands)

  -- it takes nothing, and then something
  pub slot-takes-then : (end : O) (comings : List Coming) (last : FlowSlot) → SlotTakes after check mid out' comings last end → SlotTakes after check slot out comings last end
  slot-takes-then end comings last second = record {
    more = first.more ++ second.more;
    was_given = given-twice after check slot.index out out' end first.more second.more first.was_given
        (subst (λ (index : ℕ). WasGiven after index out' second.more end) ((first.stands in_use.setup in_use.comings in_use.given in_use.stands).index ∙ sym in_use.stands.index) second.was_given);
    stands = λ setup before given stands.
        subst (λ (frames : List (List ℕ)). PartStands check setup last (before ++ comings) frames) (append_assoc given first.more second.more)
        (second.stands setup before (given ++ first.more) (same setup before given stands));
  }

-- a flow that isn't begun takes a decision that changes nothing
module _ (check : List ℕ → Bool) (slot : FlowSlot) (is : slot.flow ≡ None) (decision : FlowDecision) (no_skip : skips_any decision ≡ false) where
  pub unbegun-takes : {O : Type 0} (after : O → List Given → O → Type 0) (out : O) → SlotTakes after check slot out (handed_in (decision_event decision) ∷ []) slot out
  unbegun-takes after out = record {
    more = [];
    was_given = λ start given before. subst (λ (all : List Given). after start all out) (sym (append-nil given)) before;
    stands = λ setup before given stands.
        record {
          index = stands.index;
          rule = stands.rule;
          record_is = stands.record_is;
          few = stands.few;
          channels = stands.channels;
          in_range = stands.in_range;
          entry = subst (λ (f : Option (Box BondedFlow)). EntryStands check setup f (before ++ handed_in (decision_event decision) ∷ []) (given ++ [])) (sym is)
              (subst (λ (frames : List (List ℕ)). HasNotBegun setup (before ++ handed_in (decision_event decision) ∷ []) frames) (sym (append-nil given))
              (still-not_begun setup before given (not-begun check setup slot before given stands is) decision no_skip));
        };
  }

  pub unbegun-told : (setup : FlowSetup) (comings : List Coming) (given : List (List ℕ)) → PartStands check setup slot comings given
      → IsToldLost setup comings (decision_event decision) false
  unbegun-told setup comings given stands = told-nothing setup comings given (not-begun check setup slot comings given stands is) decision no_skip

-- a slot whose flow gave all there was to give begins anew
module _ (check : List ℕ → Bool) (slot : FlowSlot) (again : ℕ) (small : again < 8192) where
  abbrev pub anew : FlowSlot
  anew = record slot { flow_record = record slot.flow_record { first = again }; flow = None }

  pub stands-anew : (setup : FlowSetup) (comings : List Coming) (given : List (List ℕ)) → PartStands check setup slot comings given → PartStands check (begun_at setup again) anew [] []
  stands-anew setup comings given stands = record {
    index = stands.index;
    rule = stands.rule;
    record_is = ap (λ (r : FlowRecord). record r { first = again }) stands.record_is;
    few = stands.few;
    channels = stands.channels;
    in_range = record {
      first = small;
      window_positive = stands.in_range.window_positive;
      window_in_range = stands.in_range.window_in_range;
      clusters_positive = stands.in_range.clusters_positive;
      clusters_in_range = stands.in_range.clusters_in_range;
      ring_positive = stands.in_range.ring_positive;
    };
    entry = record {
      events = [];
      lasts = no_lasts (ruled_flow (begun_at setup again));
      ruled = (refl, refl, refl);
      no_arrival = gaps-no_arrival 0;
      no_skip = λ before behind number e. nothing-there before behind (skip_to number) e;
      nothing = refl;
    };
  }

  module _ {O : Type 0} (after : O → List Given → O → Type 0) (out : O) where
    -- it wasn't begun
    pub unbegun-anew : slot.flow ≡ None → BeginsAnew after check slot out again no_counts anew out
    unbegun-anew is = record {
      more = [];
      was_given = λ start given before. subst (λ (all : List Given). after start all out) (sym (append-nil given)) before;
      gave = λ setup comings given stands. (
        subst (λ (frames : List (List ℕ)). GaveByRule check setup comings frames no_counts) (sym (append-nil given))
            (gave-nothing setup comings given (not-begun check setup slot comings given stands is) check),
        stands-anew setup comings given stands,
      );
    }

    -- it is closed
    pub closed-anew : (flow : Box BondedFlow) (out' : O) (now : BondedFlow) (counts : FlowCounts) → slot.flow ≡ Some flow → IsInUse check slot → now ≡ box_value flow
        → Closes after check now out counts out' → BeginsAnew after check slot out again counts anew out'
    closed-anew flow out' now counts is in_use same closes = record {
      more = closes.more;
      was_given = subst (λ (index : ℕ). WasGiven after index out closes.more out') (ap (λ (f : BondedFlow). f.index) same ∙ same-index check slot flow is in_use) closes.was_given;
      gave = λ setup comings given stands. (
        closes.gave setup comings given
            (subst (λ (f : BondedFlow). HasCome check setup f comings given) (sym same) (begun check setup slot flow comings given stands is)),
        stands-anew setup comings given stands,
      );
    }

-- what isn't something is nothing
pub is-none : {A : Type 0} (option : Option A) → is_some option ≡ false → option ≡ None
is-none None not_some = refl
is-none (Some it) not_some = absurd cc

-- the flow of a slot, where this flow is being closed
pub closing-of : (own : Option (Box BondedFlow)) (flow : Box BondedFlow) → own ≡ Some flow
    → (other : Box BondedFlow) × (own ≡ Some other) × ((box_value other).pending ≡ Close) → (box_value flow).pending ≡ Close
closing-of own flow is (other, is_other, closing) = subst (λ (b : Box BondedFlow). (box_value b).pending ≡ Close) (same_Some other flow (sym is_other ∙ is)) closing
