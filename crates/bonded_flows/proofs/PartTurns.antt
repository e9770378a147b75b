-- The parts of a flow after something more was handed in.
use Rattle.std.proofs.Common.{◌≡◌, ℕ, Bool, List, [], ◌∷◌, ◌++◌, map, refl, ap, sym, subst, ◌∙◌, append_assoc, append-nil}
use Rattle.flow_core.specs.declared.counts.FlowCounts.{FlowCounts}
use Rattle.loss_rule.specs.Rule.{Coming}
use Rattle.consumer.specs.declared.given.Given.{Given}
use Rattle.bonded_flows.specs.declared.flow_slot.FlowSlot.{FlowSlot}
use Rattle.bonded_flows.specs.FlowSetup.{FlowSetup}
use Rattle.bonded_flows.specs.ByRule.{GaveByRule}
use Rattle.bonded_flows.specs.Parts.{FlowInput, comes, begins_anew, Part, parts_over_from, last_part_from, parts_over, last_part, begun_at, GaveInParts}
use Rattle.bonded_flows.specs.Slots.{PartStands, SlotStands, SlotTakes, BeginsAnew}

-- a part with more that came to it
abbrev pub with_more : Part → List Coming → Part
with_more part comings = record { first = part.first; comings = part.comings ++ comings }

last-of_comings : (first : ℕ) (came comings : List Coming) → last_part_from first came (map comes comings) ≡ record { first = first; comings = came ++ comings }
last-of_comings first came [] = ap (λ (t : List Coming). record { first = first; comings = t }) (sym (append-nil came))
last-of_comings first came (coming ∷ comings) =
    last-of_comings first (came ++ coming ∷ []) comings
    ∙ ap (λ (t : List Coming). record { first = first; comings = t }) (append_assoc came (coming ∷ []) comings)

over-of_comings : (first : ℕ) (came comings : List Coming) → parts_over_from first came (map comes comings) ≡ []
over-of_comings first came [] = refl
over-of_comings first came (coming ∷ comings) = over-of_comings first (came ++ coming ∷ []) comings

-- more comes to the last part, and the others stay
pub last-comes : (first : ℕ) (came : List Coming) (inputs : List FlowInput) (comings : List Coming)
    → last_part_from first came (inputs ++ map comes comings) ≡ with_more (last_part_from first came inputs) comings
last-comes first came [] comings = last-of_comings first came comings
last-comes first came (comes coming ∷ inputs) comings = last-comes first (came ++ coming ∷ []) inputs comings
last-comes first came (begins_anew again ∷ inputs) comings = last-comes again [] inputs comings

pub over-comes : (first : ℕ) (came : List Coming) (inputs : List FlowInput) (comings : List Coming)
    → parts_over_from first came (inputs ++ map comes comings) ≡ parts_over_from first came inputs
over-comes first came [] comings = over-of_comings first came comings
over-comes first came (comes coming ∷ inputs) comings = over-comes first (came ++ coming ∷ []) inputs comings
over-comes first came (begins_anew again ∷ inputs) comings = ap (λ (t : List Part). record { first = first; comings = came } ∷ t) (over-comes again [] inputs comings)

-- the last part is over, and another begins
pub last-anew : (first : ℕ) (came : List Coming) (inputs : List FlowInput) (again : ℕ)
    → last_part_from first came (inputs ++ begins_anew again ∷ []) ≡ record { first = again; comings = [] }
last-anew first came [] again = refl
last-anew first came (comes coming ∷ inputs) again = last-anew first (came ++ coming ∷ []) inputs again
last-anew first came (begins_anew other ∷ inputs) again = last-anew other [] inputs again

pub over-anew : (first : ℕ) (came : List Coming) (inputs : List FlowInput) (again : ℕ)
    → parts_over_from first came (inputs ++ begins_anew again ∷ []) ≡ parts_over_from first came inputs ++ last_part_from first came inputs ∷ []
over-anew first came [] again = refl
over-anew first came (comes coming ∷ inputs) again = over-anew first (came ++ coming ∷ []) inputs again
over-anew first came (begins_anew other ∷ inputs) again = ap (λ (t : List Part). record { first = first; comings = came } ∷ t) (over-anew other [] inputs again)

-- one part more gave what it had to give
pub gave-more : (check : List ℕ → Bool) (setup : FlowSetup) (parts : List Part) (part : Part) (earlier own : List (List ℕ)) (counts : FlowCounts)
    → GaveInParts check setup parts earlier → GaveByRule check (begun_at setup part.first) part.comings own counts
    → GaveInParts check setup (parts ++ part ∷ []) (earlier ++ own)
gave-more check setup [] part earlier own counts gave one =
    (own, [], counts, one, refl, ap (λ (t : List (List ℕ)). t ++ own) gave ∙ sym (append-nil own))
gave-more check setup (first ∷ parts) part earlier own counts (its, rest, its_counts, gave, more, are) one =
    (its, rest ++ own, its_counts, gave, gave-more check setup parts part rest own counts more one, ap (λ (t : List (List ℕ)). t ++ own) are ∙ append_assoc its rest own)

module _ {O : Type 0} (after : O → List Given → O → Type 0) (check : List ℕ → Bool) (setup : FlowSetup) (slot slot' : FlowSlot) (out out' : O)
    (inputs : List FlowInput) (given : List (List ℕ)) (stands : SlotStands check setup slot inputs given) where
  last : Part
  last = last_part setup inputs

  -- what its flow takes
  pub slot-comes : (comings : List Coming) (takes : SlotTakes after check slot out comings slot' out')
      → SlotStands check setup slot' (inputs ++ map comes comings) (given ++ takes.more)
  slot-comes comings takes = record {
    earlier = stands.earlier;
    own = stands.own ++ takes.more;
    gave = subst (λ (parts : List Part). GaveInParts check setup parts stands.earlier) (sym (over-comes setup.flow_record.first [] inputs comings)) stands.gave;
    all = ap (λ (t : List (List ℕ)). t ++ takes.more) stands.all ∙ append_assoc stands.earlier stands.own takes.more;
    part = subst (λ (part : Part). PartStands check (begun_at setup part.first) slot' part.comings (stands.own ++ takes.more)) (sym (last-comes setup.flow_record.first [] inputs comings))
        (takes.stands (begun_at setup (last_part setup inputs).first) (last_part setup inputs).comings stands.own stands.part);
  }

  -- it begins anew
  pub slot-anew : (again : ℕ) (counts : FlowCounts) (anew : BeginsAnew after check slot out again counts slot' out')
      → SlotStands check setup slot' (inputs ++ begins_anew again ∷ []) (given ++ anew.more)
  slot-anew again counts anew =
      let both = anew.gave (begun_at setup (last_part setup inputs).first) (last_part setup inputs).comings stands.own stands.part in
      record {
        earlier = stands.earlier ++ (stands.own ++ anew.more);
        own = [];
        gave = subst (λ (parts : List Part). GaveInParts check setup parts (stands.earlier ++ (stands.own ++ anew.more))) (sym (over-anew setup.flow_record.first [] inputs again))
            (gave-more check setup (parts_over setup inputs) (last_part setup inputs) stands.earlier (stands.own ++ anew.more) counts stands.gave both.0);
        all = ap (λ (t : List (List ℕ)). t ++ anew.more) stands.all ∙ append_assoc stands.earlier stands.own anew.more ∙ sym (append-nil _);
        part = subst (λ (part : Part). PartStands check (begun_at setup part.first) slot' part.comings []) (sym (last-anew setup.flow_record.first [] inputs again)) both.1;
      }
