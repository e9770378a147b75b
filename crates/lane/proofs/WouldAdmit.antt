-- What any answer to an input admits, by the grants that a lane keeps.
use Rattle.std.proofs.Common.{◌≡◌, ℕ, ⊎_elim, Bool, Option, Some, None, Ok, Err, List, length, ap, subst, ◌∙◌, refl}
use Rattle.std.specs.Option.{option_map}
use Rattle.lane.specs.declared.admitted.Admitted.{Admitted}
use Rattle.lane.specs.declared.grant.OutstandingGrant.{OutstandingGrant}
use Rattle.lane.specs.declared.input.Input.TheVariants.{Grant, Burst}
use Rattle.lane.specs.Admission.{Fits}
use Rattle.lane.specs.Rows.{CanBeOpenedWithin}
use Rattle.lane.specs.Inputs.{LaneSetup, Answer, AnsweredInput, IsKnown, IsGrant, IsAnswer, AreAnswered}
use Rattle.lane.specs.Report.{admitted_by}
use Rattle.lane.proofs.LaneTaking.{by-cases, refused-unfit}
use Rattle.lane.proofs.OneLaneAnswer.{one-grant, made-fits}

-- the flow of what an answer admits
abbrev pub flow_in : Answer → Option ℕ
flow_in answer = option_map (λ (admitted : Admitted). admitted.flow) (admitted_by answer)

module _ (setup : LaneSetup) (taken : List AnsweredInput) where
  -- nothing is admitted of a grant
  pub to-grant : (number sid bytes : ℕ) (answer : Answer) → IsAnswer setup taken (Grant number sid bytes) answer → flow_in answer ≡ None
  to-grant number sid bytes (Ok None) is = refl
  to-grant number sid bytes (Ok (Some admitted)) is = absurd is
  to-grant number sid bytes (Err refusal) is = refl

  -- or of a burst whose number isn't known
  pub to-unknown : (number : ℕ) (hcs_ok : Bool) (bytes : List ℕ) (answer : Answer) → ¬ (IsKnown taken number)
      → IsAnswer setup taken (Burst number hcs_ok bytes) answer → flow_in answer ≡ None
  to-unknown number hcs_ok bytes (Ok None) unknown is = absurd is
  to-unknown number hcs_ok bytes (Ok (Some admitted)) unknown is = absurd (unknown (is.1.sid, is.0.bytes, is.1.outstanding))
  to-unknown number hcs_ok bytes (Err refusal) unknown is = refl

  module _ (channels : ℕ) (can : CanBeOpenedWithin channels setup.rows (length setup.records)) (answered : AreAnswered setup taken) (number : ℕ) (grant : OutstandingGrant) (known : IsGrant setup taken number grant) (hcs_ok : Bool) (bytes : List ℕ) where
    -- of a burst that fits its grant a segment of the grant's flow
    pub to-fitting : (answer : Answer) → Fits grant hcs_ok bytes → IsAnswer setup taken (Burst number hcs_ok bytes) answer
        → flow_in answer ≡ Some grant.flow.index
    to-fitting (Ok None) fits is = absurd is
    to-fitting (Ok (Some admitted)) fits is =
        let same = one-grant channels setup can taken answered number is.0 grant is.1 known in
        ap Some (is.2.2.flow_is ∙ ap (λ (g : OutstandingGrant). g.flow.index) same)
    to-fitting (Err refusal) fits is =
        ⊎_elim
        (λ none. absurd (none.0 (known.sid, grant.bytes, known.outstanding)))
        (λ some.
        let same = one-grant channels setup can taken answered number grant some.0 known some.1 in
        absurd (refused-unfit setup.channel some.0 hcs_ok bytes refusal some.2 (subst (λ g. Fits g hcs_ok bytes) same fits)))
        (by-cases setup taken number hcs_ok bytes (Err refusal) is)

    -- of one that doesn't, nothing
    pub to-unfit : (answer : Answer) → ¬ (Fits grant hcs_ok bytes) → IsAnswer setup taken (Burst number hcs_ok bytes) answer → flow_in answer ≡ None
    to-unfit (Ok None) unfit is = absurd is
    to-unfit (Ok (Some admitted)) unfit is =
        let same = one-grant channels setup can taken answered number is.0 grant is.1 known in
        absurd (unfit (subst (λ g. Fits g hcs_ok bytes) same (made-fits setup.channel is.0 hcs_ok bytes admitted is.2)))
    to-unfit (Err refusal) unfit is = refl
