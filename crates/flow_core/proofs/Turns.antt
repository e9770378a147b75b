-- Events in turn: a list of them, and then another.
use Rattle.std.proofs.Common.{◌≡◌, ℕ, ◌⊎◌, inl, inr, zero, suc, List, [], ◌∷◌, ◌++◌, replicate, refl, ap, sym, subst, ◌∙◌}
use Rattle.docsis_wire.specs.declared.segment.Segment.{Segment}
use Rattle.flow_core.specs.declared.event.Applied.{Applied}
use Rattle.flow_core.specs.Fates.{Fates}
use Rattle.flow_core.specs.Events.{FlowEvent, arrives, gap, Leads}
use Rattle.flow_core.specs.Near.{AreNear}
use Rattle.flow_core.specs.Closing.{HaveNoArrival}

-- What both lists lead to: the answers of each, and the fates between.
abbrev pub LeadsInTurn : ℕ → ℕ → Fates → List FlowEvent → List FlowEvent → List Applied → Fates → Type 0
LeadsInTurn first width fates events more answers after =
    (front : List Applied) × (back : List Applied) × (between : Fates)
    × Leads first width fates events front between × Leads first width between more back after × (answers ≡ front ++ back)

pub leads-split : (first width : ℕ) (events more : List FlowEvent) (answers : List Applied) (fates after : Fates)
    → Leads first width fates (events ++ more) answers after → LeadsInTurn first width fates events more answers after
leads-split first width [] more answers fates after leads = ([], answers, fates, (refl, refl), leads, refl)
leads-split first width (event ∷ events) more answers fates after (x, answer, rest, next, expected, changes, leads, are) =
    let s = leads-split first width events more rest next after leads in
    (answer ∷ s.0, s.1, s.2, (x, answer, s.0, next, expected, changes, s.3, refl), s.4, are ∙ ap (λ t. answer ∷ t) s.5)

leads-join : (first width : ℕ) (events more : List FlowEvent) (answers front back : List Applied) (fates between after : Fates)
    → Leads first width fates events front between → Leads first width between more back after → answers ≡ front ++ back
    → Leads first width fates (events ++ more) answers after
leads-join first width [] more answers front back fates between after p q are =
    let same : answers ≡ back = are ∙ ap (λ t. t ++ back) p.0 in
    subst (λ (f : Fates). Leads first width f more answers after) p.1 (subst (λ a. Leads first width between more a after) (sym same) q)
leads-join first width (event ∷ events) more answers front back fates between after (x, answer, rest, next, expected, changes, leads, front_is) q are =
    (x, answer, rest ++ back, next, expected, changes, leads-join first width events more (rest ++ back) rest back next between after leads q refl, are ∙ ap (λ t. t ++ back) front_is)

pub leads-in_turn : (first width : ℕ) (events more : List FlowEvent) (answers : List Applied) (fates after : Fates)
    → LeadsInTurn first width fates events more answers after → Leads first width fates (events ++ more) answers after
leads-in_turn first width events more answers fates after (front, back, between, p, q, are) = leads-join first width events more answers front back fates between after p q are

-- an event in two lists, one after the other, is in the first one or in the other
pub in_either : {X : Type 0} (events more before behind : List X) (event : X) → events ++ more ≡ before ++ event ∷ behind
    → ((rest : List X) × (events ≡ before ++ event ∷ rest)) ⊎ ((earlier : List X) × (more ≡ earlier ++ event ∷ behind))
in_either [] more before behind event e = inr (before, e)
in_either (first ∷ events) more [] behind event e = inl (events, let same : first ≡ event = cc in ap (λ t. t ∷ events) same)
in_either {X} (first ∷ events) more (b ∷ before) behind event e =
    let same : first ≡ b = cc in
    let rest : events ++ more ≡ before ++ event ∷ behind = cc in
    elim (in_either events more before behind event rest) [
      | inl h ↦ inl (h.0, ap (λ t. t ∷ events) same ∙ ap (λ t. b ∷ t) h.1)
      | inr h ↦ inr h
    ]

-- near events stay near with others behind of which none is an arrival
pub near-behind : (first width : ℕ) (segments : List Segment) (events more : List FlowEvent) → AreNear first width segments events → HaveNoArrival more
    → AreNear first width segments (events ++ more)
near-behind first width segments events more near none before behind segment answers fates x e is expected =
    elim (in_either events more before behind (arrives segment) e) [
      | inl h ↦ near before h.0 segment answers fates x h.1 is expected
      | inr h ↦ absurd (none h.0 behind segment h.1)
    ]

-- gaps are such others
pub gaps-no_arrival : (n : ℕ) → HaveNoArrival (replicate n gap)
gaps-no_arrival zero [] behind segment e = absurd cc
gaps-no_arrival zero (b ∷ before) behind segment e = absurd cc
gaps-no_arrival (suc n) [] behind segment e = let wrong : gap ≡ arrives segment = cc in absurd cc
gaps-no_arrival (suc n) (b ∷ before) behind segment e = gaps-no_arrival n before behind segment cc
