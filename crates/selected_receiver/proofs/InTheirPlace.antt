-- What is handed in in the place of stand-ins: what it is to the lanes and to the flows.
use Rattle.std.proofs.Common.{◌≡◌, ◌≢◌, ℕ, ◌==◌, ◌⊎◌, inl, inr, Bool, true, false, Option, Some, None, List, [], ◌∷◌, refl, sym, ap, subst, ◌∙◌, ne_eqb}
use Rattle.std.specs.Prelude.{if◌then◌else◌}
use Rattle.std.specs.List.{AllZip, cons_option}
use Rattle.std.specs.Option.{option_map}
use Rattle.std.proofs.lemmas.Bool.{cases_eq}
use Rattle.docsis_wire.specs.declared.segment.Segment.{Segment}
use Rattle.lane.specs.declared.admitted.Admitted.{Admitted}
use Rattle.lane.specs.Report.{admitted_by}
use Rattle.loss_rule.specs.Rule.{Coming, on_channel, handed_in}
use Rattle.bonded_flows.specs.Parts.{FlowInput, comes, begins_anew}
use Rattle.bonded_flows.specs.Table.{TableInput, inputs_at}
use Rattle.receiver.specs.HandedIn.{HandedIn, came, decided, restarted, answered_on, arrives_on, flow_input_of, flow_inputs}
use Rattle.answers.specs.Beside.{AreAdmittedFor, AnswersInPlaceOf}
use Rattle.selected_receiver.specs.StandIns.{AreHeadedAlike, StandsInFor}
use Rattle.selected_receiver.proofs.Alike.{ComesAlike, InputsAlike}

-- one pair more, or none
zip_if : {X Y : Type 0} (R : X → Y → Type 0) (own : Bool) (x : X) (y : Y) (xs : List X) (ys : List Y) → R x y → AllZip R xs ys
    → AllZip R (cons_option (if own then Some x else None) xs) (cons_option (if own then Some y else None) ys)
zip_if R true x y xs ys here rest = (here, rest)
zip_if R false x y xs ys here rest = rest

-- what comes alike to itself
comes-same : (coming : Coming) → ComesAlike coming coming
comes-same (on_channel channel segment) = (segment, refl, refl)
comes-same (handed_in event) = refl

inputs-same : (input : FlowInput) → InputsAlike input input
inputs-same (comes coming) = (coming, refl, comes-same coming)
inputs-same (begins_anew first) = refl

module _ (chosen : ℕ → Bool) where
  -- ---- what the lanes answered

  -- on each channel came inputs in place of others
  pub answers-for : (others handed : List HandedIn) → AllZip (StandsInFor chosen) others handed → (on : ℕ)
      → AllZip (AnswersInPlaceOf chosen) (answered_on on others) (answered_on on handed)
  answers-for [] [] all on = tt
  answers-for [] (one ∷ handed) all on = absurd all
  answers-for (other ∷ others) [] all on = absurd all
  answers-for (came channel other ∷ others) (came place one ∷ handed) all on =
      subst (λ (n : ℕ). AllZip (AnswersInPlaceOf chosen) (answered_on on (came channel other ∷ others)) (answered_on on (came n one ∷ handed))) (sym all.0.0)
      (zip_if (AnswersInPlaceOf chosen) (channel == on) other one (answered_on on others) (answered_on on handed) all.0.1 (answers-for others handed all.1 on))
  answers-for (came channel other ∷ others) (decided flow decision ∷ handed) all on = absurd all.0
  answers-for (came channel other ∷ others) (restarted flow first ∷ handed) all on = absurd all.0
  answers-for (decided flow decision ∷ others) (one ∷ handed) all on =
      subst (λ (o : HandedIn). AllZip (AnswersInPlaceOf chosen) (answered_on on others) (answered_on on (o ∷ handed))) (sym all.0) (answers-for others handed all.1 on)
  answers-for (restarted flow first ∷ others) (one ∷ handed) all on =
      subst (λ (o : HandedIn). AllZip (AnswersInPlaceOf chosen) (answered_on on others) (answered_on on (o ∷ handed))) (sym all.0) (answers-for others handed all.1 on)

  -- ---- what comes to the flows

  -- Something handed in of a flow in the place of something else: of the same flow, alike, and the
  -- same if the flow is chosen.
  pub record TakesPlaceOf (one other : TableInput) : Type 0 where
    pub flow : other.flow ≡ one.flow
    pub alike : InputsAlike one.input other.input
    pub same : chosen one.flow ≡ true → other.input ≡ one.input

  place-same : (one : TableInput) → TakesPlaceOf one one
  place-same one = record { flow = refl; alike = inputs-same one.input; same = λ is. refl }

  -- of an input what is admitted
  arrives-for : (channel : ℕ) (one other : Option Admitted) (xs ys : List TableInput) → AreAdmittedFor chosen one other → AreHeadedAlike one other → AllZip TakesPlaceOf xs ys
      → AllZip TakesPlaceOf (cons_option (option_map (arrives_on channel) one) xs) (cons_option (option_map (arrives_on channel) other) ys)
  arrives-for channel None None xs ys are heads rest = rest
  arrives-for channel None (Some other) xs ys are heads rest = absurd are
  arrives-for channel (Some one) None xs ys are heads rest = absurd are
  arrives-for channel (Some one) (Some other) xs ys are heads rest = (
    record {
      flow = are.flow;
      alike = (on_channel channel other.segment, refl, (other.segment, refl, heads));
      same = λ is. ap (λ (s : Segment). comes (on_channel channel s)) (are.segment is);
    },
    rest,
  )

  -- the same, or nothing
  same-for : (one : Option TableInput) (xs ys : List TableInput) → AllZip TakesPlaceOf xs ys → AllZip TakesPlaceOf (cons_option one xs) (cons_option one ys)
  same-for None xs ys rest = rest
  same-for (Some one) xs ys rest = (place-same one, rest)

  -- of all that was handed in
  flow_inputs-for : (n : ℕ) (others handed : List HandedIn) → AllZip (StandsInFor chosen) others handed → AllZip TakesPlaceOf (flow_inputs n others) (flow_inputs n handed)
  flow_inputs-for n [] [] all = tt
  flow_inputs-for n [] (one ∷ handed) all = absurd all
  flow_inputs-for n (other ∷ others) [] all = absurd all
  flow_inputs-for n (came channel other ∷ others) (came place one ∷ handed) all =
      subst (λ (c : ℕ). AllZip TakesPlaceOf (flow_inputs n (came channel other ∷ others)) (flow_inputs n (came c one ∷ handed))) (sym all.0.0)
      (arrives-for channel (admitted_by other.answer) (admitted_by one.answer) (flow_inputs n others) (flow_inputs n handed) all.0.1.admitted all.0.2
      (flow_inputs-for n others handed all.1))
  flow_inputs-for n (came channel other ∷ others) (decided flow decision ∷ handed) all = absurd all.0
  flow_inputs-for n (came channel other ∷ others) (restarted flow first ∷ handed) all = absurd all.0
  flow_inputs-for n (decided flow decision ∷ others) (one ∷ handed) all =
      subst (λ (o : HandedIn). AllZip TakesPlaceOf (flow_inputs n (decided flow decision ∷ others)) (flow_inputs n (o ∷ handed))) (sym all.0)
      (same-for (flow_input_of n (decided flow decision)) (flow_inputs n others) (flow_inputs n handed) (flow_inputs-for n others handed all.1))
  flow_inputs-for n (restarted flow first ∷ others) (one ∷ handed) all =
      subst (λ (o : HandedIn). AllZip TakesPlaceOf (flow_inputs n (restarted flow first ∷ others)) (flow_inputs n (o ∷ handed))) (sym all.0)
      (same-for (flow_input_of n (restarted flow first)) (flow_inputs n others) (flow_inputs n handed) (flow_inputs-for n others handed all.1))

  module _ (k : ℕ) where
    -- what is handed in of flow k
    abbrev input_to : ℕ → FlowInput → Option FlowInput
    input_to flow input = if flow == k then Some input else None

    -- is alike
    inputs-alike_in : (xs ys : List TableInput) → AllZip TakesPlaceOf xs ys → AllZip InputsAlike (inputs_at k xs) (inputs_at k ys)
    inputs-alike_in [] [] all = tt
    inputs-alike_in [] (y ∷ ys) all = absurd all
    inputs-alike_in (x ∷ xs) [] all = absurd all
    inputs-alike_in (x ∷ xs) (y ∷ ys) all =
        subst (λ (f : ℕ). AllZip InputsAlike (inputs_at k (x ∷ xs)) (cons_option (input_to f y.input) (inputs_at k ys))) (sym all.0.flow)
        (zip_if InputsAlike (x.flow == k) x.input y.input (inputs_at k xs) (inputs_at k ys) all.0.alike (inputs-alike_in xs ys all.1))

    pub inputs-alike : (n : ℕ) (others handed : List HandedIn) → AllZip (StandsInFor chosen) others handed
        → AllZip InputsAlike (inputs_at k (flow_inputs n others)) (inputs_at k (flow_inputs n handed))
    inputs-alike n others handed all = inputs-alike_in (flow_inputs n others) (flow_inputs n handed) (flow_inputs-for n others handed all)

    module _ (is : chosen k ≡ true) where
      -- and the same if it is chosen
      input-same : (one other : TableInput) → TakesPlaceOf one other → input_to other.flow other.input ≡ input_to one.flow one.input
      input-same one other takes = ap (λ (f : ℕ). input_to f other.input) takes.flow ∙ of_one (cases_eq one.flow k) where
        of_one : (one.flow ≡ k) ⊎ (one.flow ≢ k) → input_to one.flow other.input ≡ input_to one.flow one.input
        of_one (inl here) = ap (λ (t : FlowInput). input_to one.flow t) (takes.same (ap chosen here ∙ is))
        of_one (inr apart) =
            ap (λ (b : Bool). if b then Some other.input else None) (ne_eqb one.flow k apart)
            ∙ sym (ap (λ (b : Bool). if b then Some one.input else None) (ne_eqb one.flow k apart))

      inputs-for_in : (xs ys : List TableInput) → AllZip TakesPlaceOf xs ys → inputs_at k ys ≡ inputs_at k xs
      inputs-for_in [] [] all = refl
      inputs-for_in [] (y ∷ ys) all = absurd all
      inputs-for_in (x ∷ xs) [] all = absurd all
      inputs-for_in (x ∷ xs) (y ∷ ys) all =
          ap (λ (o : Option FlowInput). cons_option o (inputs_at k ys)) (input-same x y all.0)
          ∙ ap (λ (t : List FlowInput). cons_option (input_to x.flow x.input) t) (inputs-for_in xs ys all.1)

      -- so all that comes to a chosen flow is the same
      pub inputs-for : (n : ℕ) (others handed : List HandedIn) → AllZip (StandsInFor chosen) others handed
          → inputs_at k (flow_inputs n handed) ≡ inputs_at k (flow_inputs n others)
      inputs-for n others handed all = inputs-for_in (flow_inputs n others) (flow_inputs n handed) (flow_inputs-for n others handed all)
