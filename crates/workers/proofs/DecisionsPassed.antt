-- What the decisions' worker has posted.
use Rattle.std.proofs.Common.{◌≡◌, ℕ, Bool, true, false, List, [], ◌∷◌, ◌++◌, map, filter, if◌then◌else◌, refl, sym, ap, ◌∙◌, append_assoc}
use Rattle.std.proofs.lemmas.List.{map-append}
use Rattle.std.proofs.lemmas.List.Elements.{filter-append}
use Rattle.flow_records.specs.declared.decision.Decision.{Decision}
use Rattle.flow_records.specs.declared.event.Event.{Event}
use Rattle.flow_records.specs.Decisions.{names_a_flow, event_of_decision}
use Rattle.workers.specs.Inside.Carried.{SentEvent, sent_by}

module _ (sender flow_count : ℕ) where
  -- a decision as it is sent
  abbrev pub sent_decision : Decision → SentEvent
  sent_decision decision = record { sender = sender; event = event_of_decision decision }

  -- those of these decisions that name a flow
  abbrev pub passed : List Decision → List SentEvent
  passed decisions = sent_by sender (map event_of_decision (filter (names_a_flow flow_count) decisions))

  -- of one decision it is posted or not
  one-passed : (names : Bool) (decision : Decision) → sent_by sender (map event_of_decision (if names then decision ∷ [] else [])) ≡ (if names then sent_decision decision ∷ [] else [])
  one-passed true decision = refl
  one-passed false decision = refl

  -- one decision more was taken
  pub passed-one : (before was now : List SentEvent) (decisions : List Decision) (decision : Decision) (names : Bool)
      → names_a_flow flow_count decision ≡ names → was ≡ before ++ passed decisions → now ≡ was ++ (if names then sent_decision decision ∷ [] else [])
      → now ≡ before ++ passed (decisions ++ decision ∷ [])
  passed-one before was now decisions decision names is so_far more =
      let own = filter (names_a_flow flow_count) decisions in
      let last = filter (names_a_flow flow_count) (decision ∷ []) in
      let one : List SentEvent = if names then sent_decision decision ∷ [] else [] in
      let sent : Event → SentEvent = λ event. record { sender = sender; event = event } in
      more ∙ ap (λ l. l ++ one) so_far ∙ append_assoc before (passed decisions) one
      ∙ ap (λ l. before ++ l)
      (ap (λ l. passed decisions ++ l)
      (sym (ap (λ b. sent_by sender (map event_of_decision (if b then decision ∷ [] else []))) is ∙ one-passed names decision))
      ∙ sym (map-append sent (map event_of_decision own) (map event_of_decision last))
      ∙ ap (map sent) (sym (map-append event_of_decision own last) ∙ sym (ap (map event_of_decision) (filter-append (names_a_flow flow_count) decisions (decision ∷ [])))))
