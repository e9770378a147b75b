-- What one more input adds to what was admitted, asked for and reported.
use Rattle.std.proofs.Common.{◌≡◌, ◌≢◌, ◌+◌, Bool, if◌then◌else◌, Option, Some, None, is_some, Ok, Err, List, ◌∷◌, [], ◌++◌, length, filter_map}
use Rattle.std.proofs.Common.{sym, ap, subst, ◌∙◌, arith}
use Rattle.std.proofs.lemmas.List.{length-append, append-nil}
use Rattle.std.proofs.lemmas.List.Elements.{filter_map-append}
use Rattle.flow_records.specs.Counted.{counted}
use Rattle.lane.specs.declared.admitted.Admitted.{Admitted}
use Rattle.lane.specs.declared.input.Input.{Input}
use Rattle.lane.specs.declared.input.Input.TheVariants.{Grant, Burst}
use Rattle.lane.specs.declared.report.LaneReport.{LaneReport}
use Rattle.lane.specs.declared.refusal.Refusal.{Refusal}
use Rattle.lane.specs.declared.refusal.Refusal.TheVariants.{GrantOutOfMemory, BurstOutOfMemory}
use Rattle.lane.specs.Inputs.{Answer, AnsweredInput}
use Rattle.lane.specs.Report.{refusal_number, admitted_by, refused_by, admitted_of, requests_of, refusal_numbers, admitted_count}
use Rattle.lane.specs.Stands.{IsOutOfMemory}
use Rattle.lane.specs.Report.{AddsAnswer, Reports}

module _ (taken others : List AnsweredInput) where
  -- what lists of inputs give, one after the other
  pub admitted_of-append : admitted_of (taken ++ others) ≡ admitted_of taken ++ admitted_of others
  admitted_of-append = filter_map-append (λ (one : AnsweredInput). admitted_by one.answer) taken others

  pub requests_of-append : requests_of (taken ++ others) ≡ requests_of taken ++ requests_of others
  requests_of-append =
      ap (filter_map (λ (one : Admitted). one.request)) admitted_of-append
      ∙ filter_map-append (λ (one : Admitted). one.request) (admitted_of taken) (admitted_of others)

  pub refusal_numbers-append : refusal_numbers (taken ++ others) ≡ refusal_numbers taken ++ refusal_numbers others
  refusal_numbers-append = filter_map-append (λ (one : AnsweredInput). refused_by one.answer) taken others

  pub admitted_count-append : admitted_count (taken ++ others) ≡ counted (admitted_count taken + admitted_count others)
  admitted_count-append =
      let long = ap length admitted_of-append ∙ length-append (admitted_of taken) (admitted_of others) in
      omega arith

-- what is appended to the report is what one more input gives
reports : (before after : LaneReport) (answer : Answer)
    → after.admitted ≡ counted (before.admitted + length (filter_map admitted_by (answer ∷ [])))
    → after.refused.items ≡ before.refused.items ++ filter_map refused_by (answer ∷ [])
    → Reports before answer after
reports before after answer admitted refused answered input is =
    let last : List AnsweredInput = record { input = input; answer = answer } ∷ [] in
    let count : before.admitted ≡ admitted_count answered = is.admitted in
    let all : admitted_count (answered ++ last) ≡ counted (admitted_count answered + admitted_count last) = admitted_count-append answered last in
    record {
      admitted = omega arith;
      refused = refused ∙ ap (λ t. t ++ refusal_numbers last) is.refused ∙ sym (refusal_numbers-append answered last);
    }

module _ (before after : LaneReport) (answer : Answer) where
  -- an answer that is no refusal is added
  pub adds-ok : (admitted : Option Admitted) (one : Bool) → answer ≡ Ok admitted → one ≡ is_some admitted
      → after.admitted ≡ (if one then counted (before.admitted + 1) else before.admitted) → after.refused.items ≡ before.refused.items
      → AddsAnswer before answer after
  adds-ok admitted one is one_is count refused =
      subst (λ a. AddsAnswer before a after) (sym is) record {
        admitted = subst (λ b. after.admitted ≡ (if b then counted (before.admitted + 1) else before.admitted)) one_is count;
        refused = refused ∙ sym (append-nil before.refused.items);
      }

  -- so is a refusal
  pub adds-refusal : (refusal : Refusal) → answer ≡ Err refusal → after.admitted ≡ before.admitted
      → after.refused.items ≡ before.refused.items ++ refusal_number refusal ∷ [] → AddsAnswer before answer after
  adds-refusal refusal is count refused = subst (λ a. AddsAnswer before a after) (sym is) record { admitted = count; refused = refused }

  -- a grant is accepted, or a segment is admitted
  pub reports-ok : (admitted : Option Admitted) (one : Bool) → answer ≡ Ok admitted → one ≡ is_some admitted
      → after.admitted ≡ (if one then counted (before.admitted + 1) else before.admitted) → after.refused.items ≡ before.refused.items
      → Reports before answer after
  reports-ok None one is none count refused =
      subst (λ a. Reports before a after) (sym is)
      (λ answered input of.
      let same : after.admitted ≡ before.admitted =
      subst (λ b. after.admitted ≡ (if b then counted (before.admitted + 1) else before.admitted)) none count in
      reports before after (Ok None) (let was = of.admitted in omega arith) (refused ∙ sym (append-nil before.refused.items)) answered input of)
  reports-ok (Some admitted) one is some count refused =
      let more = subst (λ b. after.admitted ≡ (if b then counted (before.admitted + 1) else before.admitted)) some count in
      subst (λ a. Reports before a after) (sym is)
      (reports before after (Ok (Some admitted)) more (refused ∙ sym (append-nil before.refused.items)))

  -- the input is refused
  pub reports-refusal : (refusal : Refusal) → answer ≡ Err refusal → after.admitted ≡ before.admitted
      → after.refused.items ≡ before.refused.items ++ refusal_number refusal ∷ [] → Reports before answer after
  reports-refusal refusal is count refused =
      subst (λ a. Reports before a after) (sym is)
      (λ answered input of. reports before after (Err refusal) (let was = of.admitted in omega arith) refused answered input of)

-- neither a grant nor a burst is answered that an allocation failed
pub not-memory : (input : Input) (answer : Answer) → answer ≢ Err GrantOutOfMemory → answer ≢ Err BurstOutOfMemory → ¬ (IsOutOfMemory input answer)
not-memory (Grant number sid bytes) answer not_grant not_burst = not_grant
not-memory (Burst number hcs_ok bytes) answer not_grant not_burst = not_burst
