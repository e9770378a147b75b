-- What one answer more adds to a tally.
use Rattle.std.proofs.Common.{◌≡◌, ◌+◌, Bool, if◌then◌else◌, is_some, Option, Some, None, Ok, Err, List, ◌∷◌, [], ◌++◌, length, filter_map, sym, subst, ap, ◌∙◌, arith}
use Rattle.std.proofs.lemmas.List.{length-append}
use Rattle.flow_records.specs.Counted.{counted}
use Rattle.lane.specs.declared.admitted.Admitted.{Admitted}
use Rattle.lane.specs.declared.refusal.Refusal.{Refusal}
use Rattle.lane.specs.Inputs.{Answer, AnsweredInput}
use Rattle.lane.specs.Report.{admitted_by, refused_by, admitted_count, refusal_numbers}
use Rattle.lane.proofs.LaneReports.{admitted_count-append, refusal_numbers-append}
use Rattle.receiver.specs.declared.tally.LaneTally.{LaneTally}
use Rattle.receiver.specs.Tallies.{TalliesAnswer}

-- what is counted more is what the answer gives
tallies : (before after : LaneTally) (answer : Answer)
    → after.admitted ≡ counted (before.admitted + length (filter_map admitted_by (answer ∷ [])))
    → after.refused ≡ counted (before.refused + length (filter_map refused_by (answer ∷ [])))
    → TalliesAnswer before answer after
tallies before after answer admitted refused answered input is =
    let last : List AnsweredInput = record { input = input; answer = answer } ∷ [] in
    let count : before.admitted ≡ admitted_count answered = is.admitted in
    let all : admitted_count (answered ++ last) ≡ counted (admitted_count answered + admitted_count last) = admitted_count-append answered last in
    let were : before.refused ≡ counted (length (refusal_numbers answered)) = is.refused in
    let long : length (refusal_numbers (answered ++ last)) ≡ length (refusal_numbers answered) + length (refusal_numbers last) =
    ap length (refusal_numbers-append answered last) ∙ length-append (refusal_numbers answered) (refusal_numbers last) in
    record { admitted = omega arith; refused = omega arith }

module _ (before after : LaneTally) (answer : Answer) where
  -- a grant is accepted, or a segment is admitted
  pub tallies-ok : (admitted : Option Admitted) (one : Bool) → answer ≡ Ok admitted → one ≡ is_some admitted
      → after.admitted ≡ (if one then counted (before.admitted + 1) else before.admitted) → after.refused ≡ before.refused
      → TalliesAnswer before answer after
  tallies-ok None one is none count refused =
      subst (λ a. TalliesAnswer before a after) (sym is)
      (λ answered input of.
      let same : after.admitted ≡ before.admitted =
      subst (λ b. after.admitted ≡ (if b then counted (before.admitted + 1) else before.admitted)) none count in
      tallies before after (Ok None) (let was = of.admitted in omega arith) (let were = of.refused in omega arith) answered input of)
  tallies-ok (Some admitted) one is some count refused =
      subst (λ a. TalliesAnswer before a after) (sym is)
      (λ answered input of.
      let more : after.admitted ≡ counted (before.admitted + 1) =
      subst (λ b. after.admitted ≡ (if b then counted (before.admitted + 1) else before.admitted)) some count in
      tallies before after (Ok (Some admitted)) (omega arith) (let were = of.refused in omega arith) answered input of)

  -- an input is refused
  pub tallies-refused : (refusal : Refusal) → answer ≡ Err refusal → after.admitted ≡ before.admitted → after.refused ≡ counted (before.refused + 1)
      → TalliesAnswer before answer after
  tallies-refused refusal is admitted refused =
      subst (λ a. TalliesAnswer before a after) (sym is)
      (λ answered input of. tallies before after (Err refusal) (let was = of.admitted in omega arith) refused answered input of)
