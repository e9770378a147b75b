-- Entries that stand in for those of a trace, one after another.
use Rattle.std.proofs.Common.{◌≡◌, ◌≢◌, ℕ, ◌<◌, ⊎_elim, Bool, List, [], ◌∷◌, ◌++◌, map, filter_map, refl, sym, ap, subst, ◌∙◌, append-nil}
use Rattle.std.specs.List.{AllZip}
use Rattle.std.proofs.lemmas.Bool.{cases_eq, false≢true}
use Rattle.std.proofs.lemmas.List.{map-append}
use Rattle.std.proofs.lemmas.List.Elements.{filter_map-append}
use Rattle.flow_records.specs.declared.decision.Decision.{Decision}
use Rattle.lane.specs.declared.input.Input.{Input}
use Rattle.lane.specs.declared.input.Input.TheVariants.{Grant, Burst}
use Rattle.lane.specs.Limits.{channel_limit}
use Rattle.lane.specs.Inputs.{AnsweredInput, AreAnswered, IsAnswer, inputs_of}
use Rattle.lane.proofs.LaneTaking.{answered-before, answered-last}
use Rattle.receiver.specs.Elsewhere.{LooksLike, StandsIn}
use Rattle.receiver.specs.Entries.{Entry, came, decided, tag_of, came_on, decision_in}
use Rattle.receiver.proofs.Pairs.{zip_push}
use Rattle.texts.specs.Trace.Place.{Said}
use Rattle.texts.specs.Inside.InPlace.{said_lane, AreAnswersOn, IsInPlaceOf, IsBoundElsewhere, AreInPlace, with_entries}
use Rattle.texts.proofs.TraceSoFar.{came_on-same, came_on-other}

-- ---- what stands in for an input

pub looks_same : (input : Input) → LooksLike input input
looks_same (Grant number sid bytes) = refl
looks_same (Burst number hcs_ok bytes) = (refl, refl, refl, refl)

-- the input itself
pub itself : (selected : ℕ → Bool) (said : Said) (channel : ℕ) (input : Input) → IsInPlaceOf selected said channel input input
itself selected said channel input answered answer are is = record { looks_like = looks_same input; same = λ admitted gives chosen. refl }

-- one that looks like it, where nothing of it would come to a selected flow
pub of_another : (selected : ℕ → Bool) (said : Said) (channel : ℕ) (input other : Input) → LooksLike other input → IsBoundElsewhere selected said channel other
    → IsInPlaceOf selected said channel input other
of_another selected said channel input other like bound answered answer are is = record {
  looks_like = like;
  same = λ admitted gives chosen. absurd (false≢true (sym (bound answered answer admitted are is gives) ∙ chosen));
}

-- ---- what stands in for entries

-- nothing stands in for nothing
pub nothing_in_place : (selected : ℕ → Bool) (entries : List Entry) (said : Said) → entries ≡ [] → said.entries ≡ [] → AreInPlace selected entries said
nothing_in_place selected entries said none none_other = record {
  tags = ap (map tag_of) (none_other ∙ sym none);
  decisions = ap (filter_map decision_in) (none_other ∙ sym none);
  inputs = λ channel below answered are.
      subst (λ (es : List Entry). AllZip (StandsIn selected) answered (filter_map (came_on channel) es)) (sym none)
      (unanswered answered (are.inputs ∙ ap (filter_map (came_on channel)) none_other));
}
  where
    unanswered : (answered : List AnsweredInput) → inputs_of answered ≡ [] → AllZip (StandsIn selected) answered []
    unanswered [] is = tt
    unanswered (one ∷ answered) is = absurd cc

-- the last of some answered inputs
last_answered : (answered : List AnsweredInput) (inputs : List Input) (last : Input) → inputs_of answered ≡ inputs ++ last ∷ []
    → (front : List AnsweredInput) × (one : AnsweredInput) × (answered ≡ front ++ one ∷ []) × (inputs_of front ≡ inputs) × (one.input ≡ last)
last_answered [] [] last is = absurd cc
last_answered [] (input ∷ inputs) last is = absurd cc
last_answered (one ∷ []) [] last is = ([], one, refl, refl, cc)
last_answered (one ∷ other ∷ answered) [] last is = absurd cc
last_answered (one ∷ answered) (input ∷ inputs) last is =
    let rest : inputs_of answered ≡ inputs ++ last ∷ [] = cc in
    let first : one.input ≡ input = cc in
    let found = last_answered answered inputs last rest in (
      one ∷ found.0,
      found.1,
      ap (λ (t : List AnsweredInput). one ∷ t) found.2,
      ap (λ (t : List Input). one.input ∷ t) found.3 ∙ ap (λ (i : Input). i ∷ inputs) first,
      found.4,
    )

module _ (selected : ℕ → Bool) (entries : List Entry) (said : Said) (was : AreInPlace selected entries said) where
  -- one input more, on its own channel
  own_input : (channel : ℕ) (input other : Input) → IsInPlaceOf selected said channel input other → channel < channel_limit → (answered : List AnsweredInput)
      → AreAnswersOn (with_entries said (said.entries ++ came channel other ∷ [])) channel answered
      → AllZip (StandsIn selected) answered (filter_map (came_on channel) (entries ++ came channel input ∷ []))
  own_input channel input other in_place below answered are =
      let found = last_answered answered (filter_map (came_on channel) said.entries) other (are.inputs ∙ came_on-same said.entries channel other) in
      let front = found.0 in
      let one = found.1 in
      let both = subst (AreAnswered (said_lane said channel)) found.2 are.answers in
      let before : AreAnswersOn said channel front = record { answers = answered-before (said_lane said channel) front one both; inputs = found.3 } in
      let answer = subst (λ (i : Input). IsAnswer (said_lane said channel) front i one.answer) found.4 (answered-last (said_lane said channel) front one both) in
      let stands = in_place front one.answer before answer in
      let last : StandsIn selected one input = subst (λ (i : Input). StandsIn selected (record { input = i; answer = one.answer }) input) (sym found.4) stands in
      subst (λ (inputs : List Input). AllZip (StandsIn selected) answered inputs) (sym (came_on-same entries channel input))
      (subst (λ (all : List AnsweredInput). AllZip (StandsIn selected) all (filter_map (came_on channel) entries ++ input ∷ [])) (sym found.2)
      (zip_push (StandsIn selected) front (filter_map (came_on channel) entries) one input (was.inputs channel below front before) last))

  -- and on the others
  pub input_in_place : (channel : ℕ) (input other : Input) → IsInPlaceOf selected said channel input other
      → AreInPlace selected (entries ++ came channel input ∷ []) (with_entries said (said.entries ++ came channel other ∷ []))
  input_in_place channel input other in_place = record {
    tags = map-append tag_of said.entries (came channel other ∷ []) ∙ ap (λ (t : List ℕ). t ++ channel ∷ []) was.tags ∙ sym (map-append tag_of entries (came channel input ∷ []));
    decisions =
        filter_map-append decision_in said.entries (came channel other ∷ []) ∙ append-nil (filter_map decision_in said.entries) ∙ was.decisions
        ∙ sym (append-nil (filter_map decision_in entries)) ∙ sym (filter_map-append decision_in entries (came channel input ∷ []));
    inputs = λ on below answered are.
        ⊎_elim
        (λ (here : on ≡ channel).
        subst (λ (c : ℕ). AllZip (StandsIn selected) answered (filter_map (came_on c) (entries ++ came channel input ∷ []))) (sym here)
        (own_input channel input other in_place (subst (λ (c : ℕ). c < channel_limit) here below) answered
        (subst (λ (c : ℕ). AreAnswersOn (with_entries said (said.entries ++ came channel other ∷ [])) c answered) here are)))
        (λ (apart : on ≢ channel).
        let other_way : channel ≢ on = λ back. apart (sym back) in
        subst (λ (inputs : List Input). AllZip (StandsIn selected) answered inputs) (sym (came_on-other entries on channel input other_way))
        (was.inputs on below answered (record { answers = are.answers; inputs = are.inputs ∙ came_on-other said.entries on channel other other_way })))
        (cases_eq on channel);
  }

  -- one decision more
  pub decision_in_place : (decision : Decision) → AreInPlace selected (entries ++ decided decision ∷ []) (with_entries said (said.entries ++ decided decision ∷ []))
  decision_in_place decision = record {
    tags = map-append tag_of said.entries (decided decision ∷ []) ∙ ap (λ (t : List ℕ). t ++ channel_limit ∷ []) was.tags ∙ sym (map-append tag_of entries (decided decision ∷ []));
    decisions =
        filter_map-append decision_in said.entries (decided decision ∷ []) ∙ ap (λ (t : List Decision). t ++ decision ∷ []) was.decisions
        ∙ sym (filter_map-append decision_in entries (decided decision ∷ []));
    inputs = λ on below answered are.
        subst (λ (inputs : List Input). AllZip (StandsIn selected) answered inputs) (sym (no_input on entries decision))
        (was.inputs on below answered (record { answers = are.answers; inputs = are.inputs ∙ no_input on said.entries decision }));
  }
    where
      no_input : (on : ℕ) (es : List Entry) (decision : Decision) → filter_map (came_on on) (es ++ decided decision ∷ []) ≡ filter_map (came_on on) es
      no_input on es decision = filter_map-append (came_on on) es (decided decision ∷ []) ∙ append-nil (filter_map (came_on on) es)
