-- What one more item makes of what was taken of each sender.
use Rattle.std.proofs.Common.{◌≡◌, ℕ, ◌==◌, ◌<◌, Bool, true, false, List, [], ◌∷◌, ◌++◌, length, if◌then◌else◌, refl, ap, sym, ◌∙◌, append_assoc, append-nil, arith}
use Rattle.std.proofs.lemmas.Bool.{cases_eq}
use Rattle.std.proofs.lemmas.Bool.Decides.{nat_tests}
use Rattle.std.proofs.lemmas.List.{length_push, map-append}
use Rattle.std.proofs.lemmas.List.Elements.{All-nil, All-push}
use Rattle.receiver.specs.Order.{picked}
use Rattle.lane.specs.Limits.{senders}
use Rattle.workers.specs.declared.item.Item.{Item}
use Rattle.workers.specs.Inside.Carried.{SentEvent, carried}
use Rattle.uplink.specs.Inside.Offering.{HasCollected}

-- an item at the end is picked for its own sender
picked-push : {T : Type 0} (s t : ℕ) (order : List ℕ) (x : T) (items : List T) → length order ≡ length items
    → picked s (order ++ t ∷ []) (items ++ x ∷ []) ≡ (if s == t then picked s order items ++ x ∷ [] else picked s order items)
picked-push s t [] x [] same = grind (arith, nat_tests, cases_eq s t)
picked-push s t [] x (y ∷ items) same = absurd (omega arith)
picked-push s t (u ∷ order) x [] same = absurd (omega arith)
picked-push s t (u ∷ order) x (y ∷ items) same =
    let h = picked-push s t order x items (omega arith) in
    grind (arith, nat_tests, cases_eq s t, cases_eq s u)

-- an item as it is sent
abbrev pub sent_item : Item → SentEvent
sent_item item = record { sender = item.sender; event = item.event }

-- an item at the end carries its event
pub carried-push : (items : List Item) (item : Item) → carried (items ++ item ∷ []) ≡ carried items ++ sent_item item ∷ []
carried-push items item = map-append sent_item items (item ∷ [])

-- and so it does where it was posted or taken only of one sender
carried-if : (b : Bool) (new old : List Item) (item : Item) → new ≡ (if b then old ++ item ∷ [] else old)
    → carried new ≡ (if b then carried old ++ sent_item item ∷ [] else carried old)
carried-if true new old item is = ap carried is ∙ carried-push old item
carried-if false new old item is = ap carried is

-- nothing was taken at first
pub none_collected : (before : ℕ → List Item) → HasCollected before before [] []
none_collected before = record {
  named = All-nil (λ tag. tag < senders);
  paired = refl;
  taken_is = λ sender. sym (append-nil (carried (before sender)));
}

module _ (before old new : ℕ → List Item) (order : List ℕ) (items : List SentEvent) (so_far : HasCollected before old order items) where
  -- one item was taken
  pub one_collected : (from : ℕ) (item : Item) → from < senders
      → ((sender : ℕ) → new sender ≡ (if sender == from then old sender ++ item ∷ [] else old sender))
      → HasCollected before new (order ++ from ∷ []) (items ++ sent_item item ∷ [])
  one_collected from item named takes = record {
    named = All-push (λ tag. tag < senders) order from so_far.named named;
    paired = omega (arith, length_push order from, length_push items (sent_item item), so_far.paired);
    taken_is = λ sender.
        let picks = picked-push sender from order (sent_item item) items so_far.paired in
        let was = so_far.taken_is sender in
        let now = carried-if (sender == from) (new sender) (old sender) item (takes sender) in
        let joined = append_assoc (carried (before sender)) (picked sender order items) (sent_item item ∷ []) in
        grind (arith, nat_tests, cases_eq sender from);
  }

  -- nothing was taken
  pub same_collected : ((sender : ℕ) → new sender ≡ old sender) → HasCollected before new order items
  same_collected same = record { named = so_far.named; paired = so_far.paired; taken_is = λ sender. ap carried (same sender) ∙ so_far.taken_is sender }
