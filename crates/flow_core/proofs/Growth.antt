-- How the delivery sequence grows with more events.
use Rattle.std.proofs.Common.{◌≡◌, ℕ, Bool, List, [], ◌∷◌, ◌++◌, refl, subst, arith}
use Rattle.std.specs.List.{AllByRecursion}
use Rattle.docsis_wire.specs.Frame.{IsFrame}
use Rattle.flow_core.specs.declared.event.Applied.{Applied}
use Rattle.flow_core.specs.Fates.{Fates, no_fates}
use Rattle.flow_core.specs.Events.{FlowEvent, Leads, IsAfter}
use Rattle.flow_core.specs.Delivery.{IsDeliverySequence}
use Rattle.flow_core.proofs.Outcome.{expected-unique, sound-leads, sound-after, stays-leads}
use Rattle.flow_core.proofs.OneFates.{after-once}
use Rattle.flow_core.proofs.Deliveries.{delivered_is_front}

-- Events in front and more behind, with what is between them.
record Splits (first width : ℕ) (events more : List FlowEvent) (fates after : Fates) : Type 0 where
  front : List Applied
  back : List Applied
  between : Fates
  leads : Leads first width fates events front between
  onward : Leads first width between more back after

leads-split : (first width : ℕ) (events more : List FlowEvent) (answers : List Applied) (fates after : Fates) → Leads first width fates (events ++ more) answers after
    → Splits first width events more fates after
leads-split first width [] more answers fates after leads = record { front = []; back = answers; between = fates; leads = (refl, refl); onward = leads }
leads-split first width (event ∷ events) more answers fates after (x, answer, rest, next, expected, changes, leads, are) =
    let s = leads-split first width events more rest next after leads in
    record {
      front = answer ∷ s.front;
      back = s.back;
      between = s.between;
      leads = (x, answer, s.front, next, expected, changes, s.leads, refl);
      onward = s.onward;
    }

pub sequence_grows : (check : List ℕ → Bool) (frames chunks : List (List ℕ)) (first width : ℕ) (events more : List FlowEvent) (answers later : List Applied) (fates after : Fates)
    (given grown : List (List ℕ))
    → AllByRecursion (IsFrame check) frames → IsAfter first width events answers fates → IsAfter first width (events ++ more) later after
    → IsDeliverySequence frames chunks fates given → IsDeliverySequence frames chunks after grown → (rest : List (List ℕ)) × (grown ≡ given ++ rest)
sequence_grows check frames chunks first width events more answers later fates after given grown each is is' (x, expected, filters) (y, expected', filters') =
    let s = leads-split first width events more later no_fates after is' in
    let same : s.between ≡ fates = (after-once first width events s.front answers s.between fates s.leads is).1 in
    let leads : Leads first width fates more s.back after = subst (λ (f : Fates). Leads first width f more s.back after) same s.onward in
    let sound = sound-after first width events answers fates x is expected in
    let last = sound-leads first width x more s.back fates after sound leads in
    let at = expected-unique after last.0 y last.2.expected expected' in
    delivered_is_front check frames chunks fates after x y given grown each (omega (arith, last.1)) expected.settled
    (stays-leads first width x more s.back fates after sound leads) filters filters'
