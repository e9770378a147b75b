-- What stands in for what comes in differs from it elsewhere, and it from that.
use Rattle.std.proofs.Common.{◌≡◌, ℕ, Bool, Option, Some, None, List, [], ◌∷◌, ap, sym, subst, ◌∙◌, refl}
use Rattle.std.specs.List.{AllZip}
use Rattle.lane.specs.declared.admitted.Admitted.{Admitted}
use Rattle.lane.specs.declared.input.Input.{Input}
use Rattle.lane.specs.declared.input.Input.TheVariants.{Grant, Burst}
use Rattle.lane.specs.Inputs.{AnsweredInput, inputs_of}
use Rattle.lane.specs.Report.{admitted_by}
use Rattle.receiver.specs.declared.setup.Setup.{Setup}
use Rattle.receiver.specs.Items.{Incoming}
use Rattle.receiver.specs.Elsewhere.{LooksLike, StandsIn, DiffersElsewhere}
use Rattle.answers.specs.Beside.{AreAdmittedFor, AnswersInPlaceOf}
use Rattle.answers.proofs.OtherOutcomes.{other_lanes}

looks_back : (one other : Input) → LooksLike one other → LooksLike other one
looks_back (Grant number sid bytes) other like = subst (λ (o : Input). LooksLike o (Grant number sid bytes)) (sym like) refl
looks_back (Burst number hcs_ok bytes) (Grant other sid size) like = absurd like
looks_back (Burst number hcs_ok bytes) (Burst other also more) like = (sym like.0, sym like.1, sym like.2, sym like.3)

-- what was admitted in place of another is of its flow
admitted_back : (selected : ℕ → Bool) (one other : Option Admitted) (admitted : Admitted) → AreAdmittedFor selected one other → other ≡ Some admitted
    → (first : Admitted) × (one ≡ Some first) × (admitted.flow ≡ first.flow)
admitted_back selected None None admitted for is = absurd cc
admitted_back selected None (Some b) admitted for is = absurd for
admitted_back selected (Some a) None admitted for is = absurd for
admitted_back selected (Some a) (Some b) admitted for is =
    let same : b ≡ admitted = cc in
    (a, refl, sym (ap (λ (x : Admitted). x.flow) same) ∙ for.flow)

stands_back : (selected : ℕ → Bool) (one other : AnsweredInput) → StandsIn selected one other.input → AnswersInPlaceOf selected one other → StandsIn selected other one.input
stands_back selected one other stands for = record {
  looks_like = looks_back one.input other.input stands.looks_like;
  same = λ admitted gives chosen.
      let first = admitted_back selected (admitted_by one.answer) (admitted_by other.answer) admitted for.admitted gives in
      sym (stands.same first.0 first.1 (ap selected (sym first.2) ∙ chosen));
}

all_back : (selected : ℕ → Bool) (ones others : List AnsweredInput) → AllZip (StandsIn selected) ones (inputs_of others) → AllZip (AnswersInPlaceOf selected) ones others
    → AllZip (StandsIn selected) others (inputs_of ones)
all_back selected [] [] stands for = tt
all_back selected [] (other ∷ others) stands for = absurd for
all_back selected (one ∷ ones) [] stands for = absurd for
all_back selected (one ∷ ones) (other ∷ others) stands for = (stands_back selected one other stands.0 for.0, all_back selected ones others stands.1 for.1)

pub differs_back : (selected : ℕ → Bool) (setup : Setup) (incoming other : Incoming) → DiffersElsewhere selected setup incoming other → DiffersElsewhere selected setup other incoming
differs_back selected setup incoming other differs =
    let made = other_lanes selected setup incoming other differs in
    record {
      answered = made.0;
      lanes = made.1;
      inputs = λ channel below.
          let stands : AllZip (StandsIn selected) (differs.answered channel) (inputs_of (made.0 channel)) =
          subst (λ (t : List Input). AllZip (StandsIn selected) (differs.answered channel) t) (sym (made.1 channel below).inputs) (differs.inputs channel below) in
          subst (λ (t : List Input). AllZip (StandsIn selected) (made.0 channel) t) (differs.lanes channel below).inputs
          (all_back selected (differs.answered channel) (made.0 channel) stands (made.2 channel below));
      decisions = sym differs.decisions;
    }
