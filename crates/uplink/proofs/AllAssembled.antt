-- What the assembler of a running receiver has made of all that it took.
use Rattle.std.proofs.Common.{◌≡◌, ℕ, ◌<◌, ◌==◌, Bool, IsTrue, Option, Some, None, IfSome, List, [], ◌∷◌, ◌++◌, map, slice_index_or, if◌then◌else◌, Vec, refl, ap, sym, subst, ◌∙◌, append_assoc, append-nil}
use Rattle.std.specs.Global.{Global}
use Rattle.std.proofs.lemmas.List.{map-append, length-map}
use Rattle.delivery.specs.Feeders.{closed_offered, offered}
use Rattle.delivery.specs.declared.feeder.ClosedFeeder.{ClosedFeeder}
use Rattle.flow_core.specs.declared.counts.FlowCounts.{FlowCounts}
use Rattle.lane.specs.Limits.{senders}
use Rattle.consumer.specs.declared.given.Given.{Given}
use Rattle.consumer.specs.declared.given.Given.TheVariants.{Frame}
use Rattle.bonded_flows.specs.Table.{TableInput, StandsFor, IsInUse}
use Rattle.receiver.specs.TakenInOrder.{table_input_of, table_inputs}
use Rattle.uplink.specs.declared.assembler.Taking.{Taking}
use Rattle.uplink.specs.declared.assembler.Assembled.{Assembled}
use Rattle.uplink.specs.declared.feeding.Feeding.{Feeding}
use Rattle.uplink.specs.Inside.Feeding.{HasOffered}
use Rattle.uplink.specs.Inside.Offering.{HasOrder, TakesItem, HasAssembledSoFar, ClosesFlows, HasAssembledAll, HasAssembled}
use Rattle.uplink.proofs.FramesOffered.{none-offered, offered-on}
use Rattle.uplink.proofs.ItemsCollected.{sent_item, none_collected, one_collected, same_collected}
use Rattle.receiver.proofs.TakenInOrder.{inputs-more}
use Rattle.workers.specs.declared.item.Item.{Item}
use Rattle.workers.specs.Inside.Carried.{SentEvent, senders_of, events_of}

-- no sender is appended
none-ordered : (kept : Option (Vec ℕ Global)) → HasOrder kept [] kept
none-ordered None = refl
none-ordered (Some was) = (was, refl, sym (append-nil was.items))

-- some senders are appended, and then others
ordered-on : (kept now after : Option (Vec ℕ Global)) (first second : List ℕ) → HasOrder kept first now → HasOrder now second after
    → HasOrder kept (first ++ second) after
ordered-on None now after first second is next = let P : Option (Vec ℕ Global) → Type 0 = λ o. HasOrder o second after in subst P is next
ordered-on (Some was) now after first second is next =
    let P : Option (Vec ℕ Global) → Type 0 = λ o. HasOrder o second after in
    let more = subst P is.1 next in
    (more.0, more.1, more.2 ∙ ap (λ l. l ++ second) is.2 ∙ append_assoc was.items first second)

-- one item more that is sent
pub sent-more : (items : List SentEvent) (item : Item)
    → table_inputs (senders_of (items ++ sent_item item ∷ [])) (events_of (items ++ sent_item item ∷ []))
    ≡ table_inputs (senders_of items) (events_of items) ++ table_input_of item.sender item.event ∷ []
sent-more items item =
    ap (λ l. table_inputs l (events_of (items ++ sent_item item ∷ []))) (map-append (λ (one : SentEvent). one.sender) items (sent_item item ∷ []))
    ∙ ap (table_inputs (senders_of items ++ item.sender ∷ [])) (map-append (λ (one : SentEvent). one.event) items (sent_item item ∷ []))
    ∙ inputs-more (senders_of items) (events_of items) item.sender item.event
    (length-map items (λ (one : SentEvent). one.sender) ∙ sym (length-map items (λ (one : SentEvent). one.event)))

module _ {C : Type 0} (accepts : C → List ℕ → Bool) (first : Taking C) (feeding0 : Feeding) (before : ℕ → List Item) where
  abbrev SoFar : (ℕ → List Item) → Taking C → Feeding → Type 0
  SoFar = HasAssembledSoFar accepts first feeding0 before

  -- what was made was made of what was there
  made-of : (now : ℕ → List Item) (feeding : Feeding) (taking : Option (Taking C)) (made : Taking C) → taking ≡ Some made
      → IfSome taking (λ t. SoFar now t feeding) → SoFar now made feeding
  made-of now feeding taking made is so_far = subst (λ (o : Option (Taking C)). IfSome o (λ t. SoFar now t feeding)) is so_far

  -- nothing at first
  pub begins : SoFar before first feeding0
  begins = record {
    ports = [];
    items = [];
    given = [];
    ordered = none-ordered first.order;
    has_collected = none_collected before;
    stands = λ check setup history given stands.
        subst (λ h. StandsFor accepts first.flows check setup h (given ++ [])) (sym (append-nil history))
        (subst (λ g. StandsFor accepts first.flows check setup history g) (sym (append-nil given)) stands);
    offered = none-offered feeding0;
  }

  module _ (old new : ℕ → List Item) (feeding after : Feeding) where
    -- one item was taken
    pub item-made : (from : ℕ) (item : Item) (was now : Option (Taking C)) → from < senders
        → ((sender : ℕ) → new sender ≡ (if sender == from then old sender ++ item ∷ [] else old sender))
        → IfSome now (λ n. (w : Taking C) × (was ≡ Some w) × HasOrder w.order (item.sender ∷ []) n.order
        × TakesItem accepts w.flows feeding item.sender item.event n.flows after)
        → IfSome was (λ w. SoFar old w feeding) → IfSome now (λ n. SoFar new n after)
    item-made from item was None named takes taken so_far = tt
    item-made from item was (Some n) named takes taken so_far =
        let w = taken.0 in
        let made : SoFar old w feeding = made-of old feeding was w taken.1 so_far in
        let more : List Given = map (Frame taken.3.0) taken.3.1.more in
        record {
          ports = made.ports ++ from ∷ [];
          items = made.items ++ sent_item item ∷ [];
          given = made.given ++ more;
          ordered =
              subst (λ senders. HasOrder first.order senders n.order) (sym (map-append (λ (one : SentEvent). one.sender) made.items (sent_item item ∷ [])))
              (ordered-on first.order w.order n.order (senders_of made.items) (item.sender ∷ []) made.ordered taken.2);
          has_collected = one_collected before old new made.ports made.items made.has_collected from item named takes;
          stands = λ check setup history given stands.
              let inputs = table_inputs (senders_of made.items) (events_of made.items) in
              subst (λ (all : List TableInput). StandsFor accepts n.flows check setup (history ++ all) (given ++ (made.given ++ more)))
              (sym (sent-more made.items item))
              (subst (λ h. StandsFor accepts n.flows check setup h (given ++ (made.given ++ more))) (append_assoc history inputs (table_input_of item.sender item.event ∷ []))
              (subst (λ g. StandsFor accepts n.flows check setup ((history ++ inputs) ++ table_input_of item.sender item.event ∷ []) g) (append_assoc given made.given more)
              (taken.3.1.stands check setup (history ++ inputs) (given ++ made.given) (made.stands check setup history given stands))));
          offered = taken.3.1.was_given feeding0 made.given made.offered;
        }

    -- none was taken, and nothing offered
    pub nothing-made : (taking : Option (Taking C)) → ((sender : ℕ) → new sender ≡ old sender) → HasOffered feeding [] after
        → IfSome taking (λ t. SoFar old t feeding) → IfSome taking (λ t. SoFar new t after)
    nothing-made None same offered so_far = tt
    nothing-made (Some t) same offered so_far = record {
      ports = so_far.ports;
      items = so_far.items;
      given = so_far.given;
      ordered = so_far.ordered;
      has_collected = same_collected before old new so_far.ports so_far.items so_far.has_collected same;
      stands = so_far.stands;
      offered =
          subst (λ given. HasOffered feeding0 given after) (append-nil so_far.given)
          (offered-on feeding0 feeding after so_far.given [] so_far.offered offered);
    }

  module _ (now : ℕ → List Item) (feeding : Feeding) (in_use : IsInUse accepts first.flows) where
    -- what stands for all that was taken besides
    stands-now : (made : Taking C) → (so_far : SoFar now made feeding)
        → StandsFor accepts made.flows in_use.check in_use.made (in_use.history ++ table_inputs (senders_of so_far.items) (events_of so_far.items)) (in_use.given ++ so_far.given)
    stands-now made so_far = so_far.stands in_use.check in_use.made in_use.history in_use.given in_use.stands

    -- the flows are in use
    pub in-use : (taking : Option (Taking C)) → IfSome taking (λ t. SoFar now t feeding) → IfSome taking (λ t. IsInUse accepts t.flows)
    in-use None so_far = tt
    in-use (Some t) so_far = record {
      check = in_use.check;
      made = in_use.made;
      history = in_use.history ++ table_inputs (senders_of so_far.items) (events_of so_far.items);
      given = in_use.given ++ so_far.given;
      stands = stands-now t so_far;
    }

    -- where nothing failed, what was assembled is what the flows give at last
    module _ (after : Feeding) (closed : List ClosedFeeder) (same : map closed_offered closed ≡ map offered after.feeders.items) where
      all-made : (w : Taking C) (counts : List FlowCounts) → (made : SoFar now w feeding) → IsTrue after.whole → ClosesFlows accepts w.flows feeding counts after
          → HasAssembledAll accepts first.flows (senders_of made.items) (events_of made.items) feeding0.feeders.items closed counts
      all-made w counts made whole closes =
          let all : HasOffered feeding0 (made.given ++ closes.more) after =
          offered-on feeding0 feeding after made.given closes.more made.offered closes.offered in
          record {
            given = made.given ++ closes.more;
            count = closes.count ∙ (stands-now w made).flow_count ∙ sym in_use.stands.flow_count;
            offered = λ k. ap (λ lists. slice_index_or lists k []) same ∙ (all.offers whole).1 k;
            gave = λ check setup stands. closes.gave check setup (table_inputs (senders_of made.items) (events_of made.items)) made.given (made.stands check setup [] [] stands);
          }

      pub assembled : (taking : Option (Taking C)) (done : Option Assembled) → IfSome taking (λ t. SoFar now t feeding)
          → IfSome done (λ d. (w : Taking C) × (taking ≡ Some w) × (d.order ≡ w.order) × ClosesFlows accepts w.flows feeding d.counts.items after)
          → IfSome done (λ _. IsTrue after.whole)
          → IfSome done (HasAssembled accepts first feeding0.feeders.items before now closed)
      assembled taking None so_far closes whole = tt
      assembled taking (Some d) so_far closes whole =
          let w = closes.0 in
          let made : SoFar now w feeding = made-of now feeding taking w closes.1 so_far in
          record {
            ports = made.ports;
            items = made.items;
            ordered = subst (λ (kept : Option (Vec ℕ Global)). HasOrder first.order (senders_of made.items) kept) (sym closes.2) made.ordered;
            has_collected = made.has_collected;
            has_assembled = all-made w d.counts.items made whole closes.3;
          }
