-- What is said of stand-ins is said of the whole: the numbers that flows expect, and the verdicts.
use Rattle.std.proofs.Common.{◌≡◌, ℕ, Bool, Option, Some, None, Ok, Err, List, [], ◌∷◌, ◌++◌, length, refl, sym, ap, subst, ◌∙◌}
use Rattle.std.specs.List.{AllZip}
use Rattle.std.proofs.lemmas.Option.{same_Some}
use Rattle.docsis_wire.specs.declared.header.SegmentHeader.{SegmentHeader}
use Rattle.docsis_wire.specs.declared.segment.Segment.{Segment}
use Rattle.flow_records.specs.declared.record.FlowRecord.{FlowRecord}
use Rattle.flow_core.specs.Fates.{Fates, number_of, IsExpected}
use Rattle.flow_core.specs.Events.{FlowEvent}
use Rattle.lane.specs.declared.admitted.Admitted.{Admitted}
use Rattle.lane.specs.Inputs.{Answer, AnsweredInput}
use Rattle.lane.specs.Report.{admitted_by, refused_by}
use Rattle.loss_rule.specs.Rule.{Coming, Lasts, AreRuled}
use Rattle.bonded_flows.specs.declared.told.Told.{Told}
use Rattle.bonded_flows.specs.ByRule.{IsTold}
use Rattle.bonded_flows.specs.FlowSetup.{FlowSetup, ruled_flow}
use Rattle.bonded_flows.specs.Parts.{FlowInput, comes, begins_anew, Part, last_part_from, last_part, begun_at}
use Rattle.bonded_flows.specs.Table.{TableSetup, flow_setup, inputs_at}
use Rattle.receiver.specs.declared.reply.Reply.{Reply}
use Rattle.receiver.specs.declared.reply.Reply.TheVariants as reply
use Rattle.receiver.specs.HandedIn.{HandedIn, flow_inputs}
use Rattle.receiver.specs.Receiving.{Says, IsToldRightly, IsNumberExpected}
use Rattle.receiver.proofs.Pairs.{zip_push}
use Rattle.answers.specs.Beside.{AreAdmittedFor, AnswersInPlaceOf}
use Rattle.answers.proofs.HandedInPlace.{granted_too, refused_too}
use Rattle.selected_receiver.specs.StandIns.{AreHeadedAlike, StandsInFor}
use Rattle.selected_receiver.proofs.Alike.{ComesAlike, InputsAlike}
use Rattle.selected_receiver.proofs.AlikeRulings.{number-alike, told-alike}
use Rattle.selected_receiver.proofs.InTheirPlace.{inputs-alike}

-- ---- parts

-- parts that begin with the same number, and to which the like came
pub record PartsAlike (one other : Part) : Type 0 where
  pub first : other.first ≡ one.first
  pub comings : AllZip ComesAlike one.comings other.comings

last-alike : (first : ℕ) (came also : List Coming) (inputs more : List FlowInput) → AllZip ComesAlike came also → AllZip InputsAlike inputs more
    → PartsAlike (last_part_from first came inputs) (last_part_from first also more)
last-alike first came also [] [] alike all = record { first = refl; comings = alike }
last-alike first came also [] (other ∷ more) alike all = absurd all
last-alike first came also (input ∷ inputs) [] alike all = absurd all
last-alike first came also (comes coming ∷ inputs) (other ∷ more) alike all =
    subst (λ (i : FlowInput). PartsAlike (last_part_from first came (comes coming ∷ inputs)) (last_part_from first also (i ∷ more))) (sym all.0.1)
    (last-alike first (came ++ coming ∷ []) (also ++ all.0.0 ∷ []) inputs more (zip_push ComesAlike came also coming all.0.0 alike all.0.2) all.1)
last-alike first came also (begins_anew again ∷ inputs) (other ∷ more) alike all =
    subst (λ (i : FlowInput). PartsAlike (last_part_from first came (begins_anew again ∷ inputs)) (last_part_from first also (i ∷ more))) (sym all.0)
    (last-alike again [] [] inputs more tt all.1)

module _ (setup : FlowSetup) (part other : Part) (alike : PartsAlike part other) where
  -- the same number is expected
  expects-alike : (number : ℕ)
      → ((events : List FlowEvent) (lasts : Lasts) (fates : Fates) (x : ℕ) → AreRuled setup.rule (ruled_flow (begun_at setup part.first)) part.comings events lasts fates
      → IsExpected fates x → number ≡ number_of part.first x)
      → (events : List FlowEvent) (lasts : Lasts) (fates : Fates) (x : ℕ) → AreRuled setup.rule (ruled_flow (begun_at setup other.first)) other.comings events lasts fates
      → IsExpected fates x → number ≡ number_of other.first x
  expects-alike number is =
      subst (λ (f : ℕ). (events : List FlowEvent) (lasts : Lasts) (fates : Fates) (x : ℕ) → AreRuled setup.rule (ruled_flow (begun_at setup f)) other.comings events lasts fates
      → IsExpected fates x → number ≡ number_of f x) (sym alike.first)
      (number-alike setup.rule (ruled_flow (begun_at setup part.first)) part.comings other.comings number alike.comings is)

  -- and a segment of the same header is told of alike
  tells-alike : (channel : ℕ) (segment its : Segment) (told : Told) → its.head ≡ segment.head
      → IsTold (begun_at setup part.first) part.comings channel segment told → IsTold (begun_at setup other.first) other.comings channel its told
  tells-alike channel segment its told head is =
      subst (λ (f : ℕ). IsTold (begun_at setup f) other.comings channel its told) (sym alike.first)
      (told-alike (begun_at setup part.first) part.comings other.comings channel segment its told alike.comings head is)

module _ (chosen : ℕ → Bool) where
  -- ---- answers

  none-flip : (o : Option Admitted) → AreAdmittedFor chosen None o → AreAdmittedFor chosen o None
  none-flip None are = tt
  none-flip (Some admitted) are = absurd are

  -- what is admitted in the place of something is of its flow, with its header
  headed-too : (answer : Answer) (one : Admitted) → AreAdmittedFor chosen (Some one) (admitted_by answer) → AreHeadedAlike (Some one) (admitted_by answer)
      → (admitted : Admitted) × (answer ≡ Ok (Some admitted)) × (admitted.flow ≡ one.flow) × (admitted.segment.head ≡ one.segment.head)
  headed-too (Ok None) one are heads = absurd are
  headed-too (Ok (Some admitted)) one are heads = (admitted, refl, are.flow, heads)
  headed-too (Err why) one are heads = absurd are

  module _ (others handed : List HandedIn) (all : AllZip (StandsInFor chosen) others handed) where
    -- what came to a flow since it was begun or began anew
    pub parts-alike : (setup : FlowSetup) (k n : ℕ) → PartsAlike (last_part setup (inputs_at k (flow_inputs n others))) (last_part setup (inputs_at k (flow_inputs n handed)))
    parts-alike setup k n =
        last-alike setup.flow_record.first [] [] (inputs_at k (flow_inputs n others)) (inputs_at k (flow_inputs n handed)) tt (inputs-alike chosen k n others handed all)

    -- so a flow expects the same number
    pub expected-of_whole : (made : TableSetup) (k : ℕ) (flow_record : FlowRecord) (number : ℕ) → IsNumberExpected made k flow_record others number
        → IsNumberExpected made k flow_record handed number
    expected-of_whole made k flow_record number is =
        let setup = flow_setup made k flow_record in
        let n = length made.records in
        expects-alike setup (last_part setup (inputs_at k (flow_inputs n others))) (last_part setup (inputs_at k (flow_inputs n handed))) (parts-alike setup k n) number is

    -- and what is told of an input is told of that in its place
    pub told-of_whole : (made : TableSetup) (channel : ℕ) (one other : AnsweredInput) → AnswersInPlaceOf chosen one other
        → AreHeadedAlike (admitted_by one.answer) (admitted_by other.answer) → (said : Reply) → Says said one.answer → IsToldRightly made others channel one.answer said
        → Says said other.answer × IsToldRightly made handed channel other.answer said
    told-of_whole made channel one other answers heads reply.Granted says right = (
      granted_too chosen other.answer
          (none-flip (admitted_by other.answer) (subst (λ (a : Answer). AreAdmittedFor chosen (admitted_by a) (admitted_by other.answer)) says answers.admitted))
          (sym (answers.refused ∙ ap (λ (a : Answer). refused_by a) says)),
      tt,
    )
    told-of_whole made channel one other answers heads (reply.Refused why) says right = (
      refused_too chosen other.answer why
          (none-flip (admitted_by other.answer) (subst (λ (a : Answer). AreAdmittedFor chosen (admitted_by a) (admitted_by other.answer)) says answers.admitted))
          (sym (answers.refused ∙ ap (λ (a : Answer). refused_by a) says)),
      tt,
    )
    told-of_whole made channel one other answers heads (reply.Admitted flow sequence told) says right =
        let found = headed-too other.answer says.0
        (subst (λ (a : Answer). AreAdmittedFor chosen (admitted_by a) (admitted_by other.answer)) says.1 answers.admitted)
        (subst (λ (a : Answer). AreHeadedAlike (admitted_by a) (admitted_by other.answer)) says.1 heads) in (
          (found.0, found.1, says.2 ∙ sym found.2, says.3 ∙ sym (ap (λ (h : SegmentHeader). h.sequence) found.3)),
          λ flow_record admitted there by.
              let setup = flow_setup made flow flow_record in
              let n = length made.records in
              let same : found.0 ≡ admitted = same_Some found.0 admitted (sym (ap (λ (a : Answer). admitted_by a) found.1) ∙ by) in
              let part = last_part setup (inputs_at flow (flow_inputs n others)) in
              let whole = last_part setup (inputs_at flow (flow_inputs n handed)) in
              let is = tells-alike setup part whole (parts-alike setup flow n) channel says.0.segment found.0.segment told found.3
              (right flow_record says.0 there (ap (λ (a : Answer). admitted_by a) says.1)) in
              subst (λ (a : Admitted). IsTold (begun_at setup whole.first) whole.comings channel a.segment told) same is,
        )
