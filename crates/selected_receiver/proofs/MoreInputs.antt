-- What comes on channels and to flows with one thing more that is handed in.
use Rattle.std.proofs.Common.{◌≡◌, ◌≢◌, ℕ, ◌<◌, ◌==◌, inl, inr, Bool, None, Option, Some, List, [], ◌∷◌, ◌++◌, length, refl, sym, ap, subst, ◌∙◌, append-nil, eq-eqb, ne_eqb}
use Rattle.std.specs.List.{cons_option}
use Rattle.std.proofs.lemmas.Bool.{cases_eq}
use Rattle.std.proofs.lemmas.List.Elements.{filter_map-append}
use Rattle.lane.specs.Inputs.{AnsweredInput, IsAnswer, AreAnswered}
use Rattle.lane.proofs.LaneTaking.{answered-more}
use Rattle.bonded_flows.specs.Parts.{FlowInput}
use Rattle.bonded_flows.specs.Table.{TableSetup, inputs_at}
use Rattle.bonded_flows.proofs.TableTurns.{of_flow, inputs-own, inputs-others}
use Rattle.receiver.specs.HandedIn.{HandedIn, came, came_on, answered_on, flow_input_of, flow_inputs, lane_of}
use Rattle.receiver.proofs.AnsweredInputs.{one_if, came-on}
use Rattle.answers.proofs.MoreComings.{inputs_stay, inputs_more}

module _ (made : TableSetup) (handed : List HandedIn) (one : HandedIn) where
  abbrev flow_count : ℕ
  flow_count = length made.records

  -- to no flow
  pub inputs-stay : flow_input_of (length made.records) one ≡ None → (k : ℕ)
      → inputs_at k (flow_inputs (length made.records) (handed ++ one ∷ [])) ≡ inputs_at k (flow_inputs (length made.records) handed)
  inputs-stay none k = ap (inputs_at k) (inputs_stay made handed one none)

  -- or to one
  module _ (k : ℕ) (input : FlowInput) (is : flow_input_of (length made.records) one ≡ Some (of_flow k input)) where
    pub inputs-here : inputs_at k (flow_inputs (length made.records) (handed ++ one ∷ [])) ≡ inputs_at k (flow_inputs (length made.records) handed) ++ input ∷ []
    inputs-here = ap (inputs_at k) (inputs_more made handed one k input is) ∙ inputs-own k (flow_inputs flow_count handed) (input ∷ []) [] []

    pub inputs-elsewhere : (other : ℕ) → k ≢ other
        → inputs_at other (flow_inputs (length made.records) (handed ++ one ∷ [])) ≡ inputs_at other (flow_inputs (length made.records) handed)
    inputs-elsewhere other apart =
        ap (inputs_at other) (inputs_more made handed one k input is) ∙ inputs-others k (flow_inputs flow_count handed) (input ∷ []) [] [] other apart

  -- no input came
  pub answered-stays : ((channel : ℕ) → came_on channel one ≡ None) → (channel : ℕ) → answered_on channel (handed ++ one ∷ []) ≡ answered_on channel handed
  answered-stays none channel =
      filter_map-append (came_on channel) handed (one ∷ [])
      ∙ ap (λ (o : Option AnsweredInput). answered_on channel handed ++ cons_option o []) (none channel) ∙ append-nil (answered_on channel handed)

-- each input was answered rightly, with one more
module _ (made : TableSetup) (handed : List HandedIn) (channel : ℕ) (one : AnsweredInput) where
  answers-of : (on : ℕ) → answered_on on (handed ++ came channel one ∷ []) ≡ answered_on on handed ++ one_if (channel == on) one
  answers-of on =
      filter_map-append (came_on on) handed (came channel one ∷ []) ∙ ap (λ (t : List AnsweredInput). answered_on on handed ++ t) (came-on on channel one)

  pub answers-here : answered_on channel (handed ++ came channel one ∷ []) ≡ answered_on channel handed ++ one ∷ []
  answers-here = answers-of channel ∙ ap (λ (b : Bool). answered_on channel handed ++ one_if b one) (eq-eqb channel channel refl)

  answers-elsewhere : (on : ℕ) → channel ≢ on → answered_on on (handed ++ came channel one ∷ []) ≡ answered_on on handed
  answers-elsewhere on apart =
      answers-of on ∙ ap (λ (b : Bool). answered_on on handed ++ one_if b one) (ne_eqb channel on apart) ∙ append-nil (answered_on on handed)

  module _ (was : (on : ℕ) → on < made.channels → AreAnswered (lane_of made on) (answered_on on handed)) (within : channel < made.channels)
      (is : IsAnswer (lane_of made channel) (answered_on channel handed) one.input one.answer) where
    pub all-here : AreAnswered (lane_of made channel) (answered_on channel handed ++ one ∷ [])
    all-here = answered-more (lane_of made channel) (answered_on channel handed) one (was channel within) is

    pub answered-with : (on : ℕ) → on < made.channels → AreAnswered (lane_of made on) (answered_on on (handed ++ came channel one ∷ []))
    answered-with on below = elim (cases_eq channel on) [
      | inl same ↦
          subst (λ (n : ℕ). AreAnswered (lane_of made n) (answered_on n (handed ++ came channel one ∷ []))) same
          (subst (AreAnswered (lane_of made channel)) (sym answers-here) all-here)
      | inr apart ↦ subst (AreAnswered (lane_of made on)) (sym (answers-elsewhere on apart)) (was on below)
    ]
