-- Near events with one more arrival at the end.
use Rattle.std.proofs.Common.{◌≡◌, ℕ, ◌+◌, ◌<◌, ◌≤◌, ◌⊎◌, Some, slice_get, append_assoc, inl, inr, List, [], ◌∷◌, ◌++◌, refl, ap, sym, subst, ◌∙◌}
use Rattle.docsis_wire.specs.declared.segment.Segment.{Segment}
use Rattle.flow_core.specs.declared.event.Applied.{Applied}
use Rattle.flow_core.specs.Fates.{Fates, no_fates, IsExpected}
use Rattle.flow_core.specs.Events.{FlowEvent, arrives, IsAfter}
use Rattle.flow_core.specs.Near.{IsNearTo, AreNear}
use Rattle.flow_core.proofs.Outcome.{expected-unique}
use Rattle.flow_core.proofs.OneFates.{after-once}
use Rattle.flow_core.proofs.Turns.{leads-in_turn, near-behind}
use Rattle.loss_rule.specs.declared.rule.LossRule.{LossRule}
use Rattle.loss_rule.specs.Rule.{RuledFlow, Lasts}
use Rattle.loss_rule.specs.Inside.Arrival.{ArrivesBy}
use Rattle.loss_rule.proofs.ArrivalAnswers.{skips-no_arrival}

-- an element of a list with one more at the end is that one, or is in the front
front-or_last : {X : Type 0} (xs before behind : List X) (last x : X) → xs ++ last ∷ [] ≡ before ++ x ∷ behind
    → ((rest : List X) × (xs ≡ before ++ x ∷ rest)) ⊎ ((xs ≡ before) × (last ≡ x))
front-or_last [] [] behind last x e = inr (refl, cc)
front-or_last [] (b ∷ []) behind last x e = let wrong : [] ≡ x ∷ behind = cc in absurd cc
front-or_last [] (b ∷ c ∷ before) behind last x e = let wrong : [] ≡ c ∷ (before ++ x ∷ behind) = cc in absurd cc
front-or_last (y ∷ xs) [] behind last x e = let same : y ≡ x = cc in inl (xs, ap (λ t. t ∷ xs) same)
front-or_last {X} (y ∷ xs) (b ∷ before) behind last x e =
    let same : y ≡ b = cc in
    let rest : xs ++ last ∷ [] ≡ before ++ x ∷ behind = cc in
    elim (front-or_last xs before behind last x rest) [
      | inl h ↦ inl (h.0, ap (λ t. t ∷ xs) same ∙ ap (λ t. b ∷ t) h.1)
      | inr h ↦ inr (ap (λ t. t ∷ xs) same ∙ ap (λ t. b ∷ t) h.0, h.1)
    ]

-- near events, and an arrival that is near after them
pub near-one_more : (first width : ℕ) (segments : List Segment) (events : List FlowEvent) (segment : Segment) → AreNear first width segments events
    → ((answers : List Applied) (fates : Fates) (x : ℕ) → IsAfter first width events answers fates → IsExpected fates x → IsNearTo segments x segment)
    → AreNear first width segments (events ++ arrives segment ∷ [])
near-one_more first width segments events segment near here before behind another answers fates x e is expected =
    elim (front-or_last events before behind (arrives segment) (arrives another) e) [
      | inl h ↦ near before h.0 another answers fates x h.1 is expected
      | inr h ↦
          let same : segment ≡ another = arrives-same h.1 in
          subst (IsNearTo segments x) same (here answers fates x (subst (λ e'. IsAfter first width e' answers fates) (sym h.0) is) expected)
    ]
  where
    arrives-same : {a b : Segment} → arrives a ≡ arrives b → a ≡ b
    arrives-same e = cc

-- near events, and those of a segment that comes near the index expected once the rule has skipped
module _ (rule : LossRule) (flow : RuledFlow) (lasts : Lasts) (fates : Fates) (channel : ℕ) (segment : Segment) (events : List FlowEvent) (answers : List Applied)
    (noted : Lasts) (after : Fates) (t : ArrivesBy rule flow lasts fates channel segment events answers noted after) where
  pub near-arrival : (segments : List Segment) (index : ℕ) (before : List FlowEvent) (so_far : List Applied) → slice_get segments index ≡ Some segment
      → t.z ≤ index + 4096 → index < t.z + 4096 → IsAfter flow.first flow.width before so_far fates → AreNear flow.first flow.width segments before
      → AreNear flow.first flow.width segments (before ++ events)
  near-arrival segments index before so_far of_cut from to is near_before =
      let skips = t.passing ++ t.sliding in
      let skipped : AreNear flow.first flow.width segments (before ++ skips) =
      near-behind flow.first flow.width segments before skips near_before (skips-no_arrival rule flow lasts fates channel segment events answers noted after t) in
      let skip_answers = t.passing_answers ++ t.sliding_answers in
      let led : IsAfter flow.first flow.width (before ++ skips) (so_far ++ skip_answers) t.slid =
      leads-in_turn flow.first flow.width before skips (so_far ++ skip_answers) no_fates t.slid (
        so_far,
        skip_answers,
        fates,
        is,
        leads-in_turn flow.first flow.width t.passing t.sliding skip_answers fates t.slid (t.passing_answers, t.sliding_answers, t.between, t.leads_passing, t.leads_sliding, refl),
        refl,
      ) in
      let whole : AreNear flow.first flow.width segments ((before ++ skips) ++ arrives segment ∷ []) =
      near-one_more flow.first flow.width segments (before ++ skips) segment skipped (λ others reached x are expected. (
      let there : reached ≡ t.slid = (after-once flow.first flow.width (before ++ skips) others (so_far ++ skip_answers) reached t.slid are led).1 in
      let at : x ≡ t.z = expected-unique t.slid x t.z (subst (λ (f : Fates). IsExpected f x) there expected) t.expected_slid in
      record { index = index; of_cut = of_cut; from = subst (λ k. k ≤ index + 4096) (sym at) from; to = subst (λ k. index < k + 4096) (sym at) to })) in
      subst (AreNear flow.first flow.width segments) (append_assoc before skips (arrives segment ∷ []) ∙ ap (λ e. before ++ e) (sym t.events_are)) whole
