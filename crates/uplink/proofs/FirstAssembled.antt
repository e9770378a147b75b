-- What the assembler has made of the first that it took, whatever failed then.
use Rattle.std.proofs.Common.{◌≡◌, ℕ, ◌<◌, ◌==◌, ⊎_elim, Bool, true, false, Option, Some, None, IfSome, MatchOption, List, [], ◌∷◌, ◌++◌, map, slice_index_or, if◌then◌else◌, refl, ap, sym, subst, ◌∙◌, append_assoc, append-nil, arith}
use Rattle.std.proofs.lemmas.List.{map-append}
use Rattle.std.proofs.lemmas.List.Elements.{All-nil}
use Rattle.std.proofs.lemmas.Option.{slice_get_within}
use Rattle.delivery.specs.Feeders.{closed_offered, offered}
use Rattle.delivery.specs.declared.feeder.ClosedFeeder.{ClosedFeeder}
use Rattle.lane.specs.Limits.{senders}
use Rattle.consumer.specs.declared.given.Given.{Given}
use Rattle.consumer.specs.declared.given.Given.TheVariants.{Frame}
use Rattle.bonded_flows.specs.declared.flow_table.FlowTable.{FlowTable}
use Rattle.bonded_flows.specs.Table.{TableSetup, TableInput, StandsFor}
use Rattle.receiver.specs.Order.{picked}
use Rattle.receiver.specs.TakenInOrder.{table_input_of, table_inputs}
use Rattle.workers.specs.declared.item.Item.{Item}
use Rattle.workers.specs.Inside.Carried.{SentEvent, carried, senders_of, events_of}
use Rattle.uplink.specs.declared.assembler.Taking.{Taking}
use Rattle.uplink.specs.declared.feeding.Feeding.{Feeding}
use Rattle.uplink.specs.Fronts.{ComesFirstIn}
use Rattle.uplink.specs.Inside.Feeding.{HasOffered, IsClosedAfter}
use Rattle.uplink.specs.Inside.Offering.{HasCollected, TakesAtMost, FeedsAtMost, HasAssembledSoFar, HaveClosed, ClosesFirst, HasAssembledFirst}
use Rattle.uplink.proofs.FramesOffered.{none-offered, offered-on}
use Rattle.uplink.proofs.AllAssembled.{sent-more}
use Rattle.uplink.proofs.ItemsCollected.{sent_item, one_collected}

-- one more is at the end, or none
pub grown : {T : Type 0} (own : Bool) (old new : List T) (item : T) → new ≡ (if own then old ++ item ∷ [] else old) → ComesFirstIn old new
grown true old new item is = (item ∷ [], is)
grown false old new item is = ([], is ∙ sym (append-nil old))

pub unchanged : {T : Type 0} (old new : List T) → new ≡ old → ComesFirstIn old new
unchanged old new is = ([], is ∙ sym (append-nil old))

-- what comes first still does where more is at the end
front-grown : (front : List SentEvent) (old new : List Item) → ComesFirstIn front (carried old) → ComesFirstIn old new → ComesFirstIn front (carried new)
front-grown front old new is grew = (
  is.0 ++ carried grew.0,
  ap carried grew.1 ∙ map-append sent_item old grew.0 ∙ ap (λ l. l ++ carried grew.0) is.1 ∙ append_assoc front is.0 (carried grew.0),
)

module _ {C : Type 0} (accepts : C → List ℕ → Bool) where
  -- no flow is closed
  none-closed : (flows : FlowTable C) (check : List ℕ → Bool) (setup : TableSetup) (history : List TableInput) (given : List Given)
      → StandsFor accepts flows check setup history given → HaveClosed accepts flows check setup history given []
  none-closed flows check setup history given stands = record {
    stands = subst (λ h. StandsFor accepts flows check setup h given) (sym (append-nil history)) stands;
    gave = λ k flow_record count of_record there. let within = slice_get_within [] k count there in absurd (omega arith);
  }

  module _ (first : Taking C) (feeding0 : Feeding) (before : ℕ → List Item) where
    abbrev First : (ℕ → List Item) → Feeding → Type 0
    First now feeding = HasAssembledFirst accepts first before now (λ given. HasOffered feeding0 given feeding)

    -- nothing at first
    pub first-begins : First before feeding0
    first-begins = record {
      ports = [];
      items = [];
      given = [];
      counts = [];
      named = All-nil (λ tag. tag < senders);
      paired = refl;
      fronts = λ sender. ([], sym (append-nil (carried (before sender) ++ []) ∙ append-nil (carried (before sender))));
      stands = λ check setup stands. (first.flows, none-closed first.flows check setup [] [] stands);
      offered = none-offered feeding0;
    }

    module _ (old new : ℕ → List Item) (feeding after : Feeding) (grew : (sender : ℕ) → ComesFirstIn (old sender) (new sender)) where
      -- more was taken, and nothing made of it
      pub first-stays : HasOffered feeding [] after → First old feeding → First new after
      first-stays offered is = record {
        ports = is.ports;
        items = is.items;
        given = is.given;
        counts = is.counts;
        named = is.named;
        paired = is.paired;
        fronts = λ sender.
            front-grown (carried (before sender) ++ picked sender is.ports is.items) (old sender) (new sender) (is.fronts sender) (grew sender);
        stands = is.stands;
        offered = subst (λ given. HasOffered feeding0 given after) (append-nil is.given) (offered-on feeding0 feeding after is.given [] is.offered offered);
      }

    -- what was collected comes first of what was taken
    fronts-collected : (now : ℕ → List Item) (order : List ℕ) (items : List SentEvent) → HasCollected before now order items
        → (sender : ℕ) → ComesFirstIn (carried (before sender) ++ picked sender order items) (carried (now sender))
    fronts-collected now order items has sender = ([], has.taken_is sender ∙ sym (append-nil (carried (before sender) ++ picked sender order items)))

    -- so far all that was taken was made something of
    pub first-made : (now : ℕ → List Item) (feeding : Feeding) (made : Taking C) → HasAssembledSoFar accepts first feeding0 before now made feeding → First now feeding
    first-made now feeding made so_far = record {
      ports = so_far.ports;
      items = so_far.items;
      given = so_far.given;
      counts = [];
      named = so_far.has_collected.named;
      paired = so_far.has_collected.paired;
      fronts = fronts-collected now so_far.ports so_far.items so_far.has_collected;
      stands = λ check setup stands. (
        made.flows,
        none-closed made.flows check setup (table_inputs (senders_of so_far.items) (events_of so_far.items)) so_far.given (so_far.stands check setup [] [] stands),
      );
      offered = so_far.offered;
    }

    -- some flows were closed then
    pub first-closed : (now : ℕ → List Item) (feeding after : Feeding) (made : Taking C) → HasAssembledSoFar accepts first feeding0 before now made feeding
        → ClosesFirst accepts made.flows feeding after → First now after
    first-closed now feeding after made so_far closes = record {
      ports = so_far.ports;
      items = so_far.items;
      given = so_far.given ++ closes.more;
      counts = closes.counts;
      named = so_far.has_collected.named;
      paired = so_far.has_collected.paired;
      fronts = fronts-collected now so_far.ports so_far.items so_far.has_collected;
      stands = λ check setup stands. (
        closes.flows',
        closes.closed check setup (table_inputs (senders_of so_far.items) (events_of so_far.items)) so_far.given (so_far.stands check setup [] [] stands),
      );
      offered = offered-on feeding0 feeding after so_far.given closes.more so_far.offered closes.offered;
    }

    module _ (old new : ℕ → List Item) (feeding after : Feeding) (from : ℕ) (item : Item) (named : from < senders)
        (takes : (sender : ℕ) → new sender ≡ (if sender == from then old sender ++ item ∷ [] else old sender)) where
      grew : (sender : ℕ) → ComesFirstIn (old sender) (new sender)
      grew sender = grown (sender == from) (old sender) (new sender) item (takes sender)

      module _ (was : Taking C) (so_far : HasAssembledSoFar accepts first feeding0 before old was feeding) (flows : FlowTable C)
          (at_most : TakesAtMost accepts was.flows feeding (table_input_of item.sender item.event) flows after) where
        abbrev more : List Given
        more = map (Frame at_most.flow) at_most.takes.more

        stands-more : (check : List ℕ → Bool) (setup : TableSetup) → StandsFor accepts first.flows check setup [] []
            → StandsFor accepts flows check setup (table_inputs (senders_of so_far.items) (events_of so_far.items) ++ at_most.taken) (so_far.given ++ more)
        stands-more check setup stands =
            at_most.takes.stands check setup (table_inputs (senders_of so_far.items) (events_of so_far.items)) so_far.given (so_far.stands check setup [] [] stands)

        offered-more : HasOffered feeding0 (so_far.given ++ more) after
        offered-more = at_most.takes.was_given feeding0 so_far.given so_far.offered

        nothing-taken : at_most.taken ≡ [] → First new after
        nothing-taken none = record {
          ports = so_far.ports;
          items = so_far.items;
          given = so_far.given ++ more;
          counts = [];
          named = so_far.has_collected.named;
          paired = so_far.has_collected.paired;
          fronts = λ sender.
              front-grown (carried (before sender) ++ picked sender so_far.ports so_far.items) (old sender) (new sender)
              (fronts-collected old so_far.ports so_far.items so_far.has_collected sender) (grew sender);
          stands = λ check setup stands. (
            flows,
            let history = table_inputs (senders_of so_far.items) (events_of so_far.items) in
                none-closed flows check setup history (so_far.given ++ more)
                (subst (λ h. StandsFor accepts flows check setup h (so_far.given ++ more)) (ap (λ l. history ++ l) none ∙ append-nil history) (stands-more check setup stands)),
          );
          offered = offered-more;
        }

        all-taken : at_most.taken ≡ table_input_of item.sender item.event ∷ [] → First new after
        all-taken all =
            let collected = one_collected before old new so_far.ports so_far.items so_far.has_collected from item named takes in
            let order = so_far.ports ++ from ∷ [] in
            let items = so_far.items ++ sent_item item ∷ [] in
            record {
              ports = order;
              items = items;
              given = so_far.given ++ more;
              counts = [];
              named = collected.named;
              paired = collected.paired;
              fronts = fronts-collected new order items collected;
              stands = λ check setup stands. (
                flows,
                none-closed flows check setup (table_inputs (senders_of items) (events_of items)) (so_far.given ++ more)
                    (subst (λ h. StandsFor accepts flows check setup h (so_far.given ++ more))
                    (ap (λ l. table_inputs (senders_of so_far.items) (events_of so_far.items) ++ l) all ∙ sym (sent-more so_far.items item))
                    (stands-more check setup stands)),
              );
              offered = offered-more;
            }

      -- one item was taken, of which a part at most was made something of
      pub first-taken : (taking : Option (Taking C)) → IfSome taking (λ was. HasAssembledSoFar accepts first feeding0 before old was feeding)
          → MatchOption taking (HasOffered feeding [] after) (λ was. FeedsAtMost accepts was.flows feeding (table_input_of item.sender item.event) after)
          → First old feeding → First new after
      first-taken None so_far offered is = first-stays old new feeding after grew offered is
      first-taken (Some was) so_far at_most is =
          ⊎_elim (nothing-taken was so_far at_most.0 at_most.1) (all-taken was so_far at_most.0 at_most.1) at_most.1.at_most

    -- at the end flows were closed, or not
    pub first-ended : (now : ℕ → List Item) (feeding after : Feeding) (taking : Option (Taking C))
        → IfSome taking (λ made. HasAssembledSoFar accepts first feeding0 before now made feeding)
        → MatchOption taking (HasOffered feeding [] after) (λ made. ClosesFirst accepts made.flows feeding after) → First now feeding → First now after
    first-ended now feeding after None so_far offered is = first-stays now now feeding after (λ sender. unchanged (now sender) (now sender) refl) offered is
    first-ended now feeding after (Some made) so_far closes is = first-closed now feeding after made so_far closes

    -- and the feeders closed
    pub first-offered : (now : ℕ → List Item) (after : Feeding) (closed : List ClosedFeeder) → map closed_offered closed ≡ map offered after.feeders.items
        → First now after → HasAssembledFirst accepts first before now (IsClosedAfter feeding0.feeders.items closed)
    first-offered now after closed same is = record {
      ports = is.ports;
      items = is.items;
      given = is.given;
      counts = is.counts;
      named = is.named;
      paired = is.paired;
      fronts = is.fronts;
      stands = is.stands;
      offered = λ k.
          let front = is.offered.front k in
          (front.0, front.1 ∙ ap (λ lists. slice_index_or lists k [] ++ front.0) (sym same));
    }
