-- Where no frame is only one side's, the frames of a flow are those that the analyser joined.
use Rattle.std.proofs.Common.{◌≡◌, ◌≢◌, ℕ, Bool, true, false, cond, eqb, Option, Some, None, List, [], ◌∷◌, ◌++◌, refl, sym, ap, subst, ◌∙◌, append-nil, eq-eqb}
use Rattle.std.proofs.lemmas.Grind.{flat_map-append}
use Rattle.std.proofs.lemmas.List.{map-append}
use Rattle.std.proofs.lemmas.Bool.{both_ways, eqb-true, ne_eqb}
use Rattle.std.proofs.lemmas.Option.{none-some, same_Some}
use Rattle.capture.specs.PcapngBlocks.{CaptureParts}
use Rattle.capture_map.specs.declared.map.CaptureMap.{CaptureMap}
use Rattle.flow_selection.specs.declared.selection.Selection.{Selection}
use Rattle.flow_selection.specs.Selection.{is_selected}
use Rattle.frame_comparison.specs.declared.side.Side.{Side}
use Rattle.frame_comparison.specs.declared.side.Side.TheVariants.{Analyser, Here}
use Rattle.frame_comparison.specs.Frames.{CameFrame, came}
use Rattle.frame_comparison.specs.Aligned.{Arrival, is_of, given_of, bytes_of}
use Rattle.frame_comparison.proofs.Arrivals.{given-append, given-one}
use Rattle.frame_records.specs.Recorded.{FrameParts}
use Rattle.timed_frames.specs.declared.timed_step.TimedStep.{TimedStep}
use Rattle.timed_frames.specs.declared.timed_step.TimedStep.TheVariants.{HandedIn, Frame, Asked, Replied, Ended}
use Rattle.frame_engine.specs.Compared.{arrivals_if, arrivals_of_step, arrivals_of_steps, flow_of_joined, arrivals_of_flow, Brings, a_frame, no_frame, AreArrivals, nothing_yet, one_record, more_steps, frames_in_step, frames_in, AreTheAnalysers, no_record, of_the_flow, of_another, of_none}

-- the bytes of what a side gave, and of more
bytes-append : (side : Side) (k : ℕ) (arrivals more : List Arrival) → bytes_of (given_of side k (arrivals ++ more)) ≡ bytes_of (given_of side k arrivals) ++ bytes_of (given_of side k more)
bytes-append side k arrivals more =
    ap (λ (all : List CameFrame). bytes_of all) (given-append side k arrivals more)
    ∙ map-append (λ (one : CameFrame). one.bytes) (given_of side k arrivals) (given_of side k more)

-- of one frame
bytes-one : (is : Bool) (side : Side) (k : ℕ) (one : Arrival) → is_of side k one ≡ is → bytes_of (given_of side k (one ∷ [])) ≡ cond is (one.frame.bytes ∷ []) []
bytes-one true side k one is = ap (λ (all : List CameFrame). bytes_of all) (given-one true side k one is)
bytes-one false side k one is = ap (λ (all : List CameFrame). bytes_of all) (given-one false side k one is)

none-either : (taken : Bool) (none : List (List ℕ)) → none ≡ [] → cond taken none [] ≡ []
none-either true none is = is
none-either false none is = refl

module _ (selected : Selection) (k : ℕ) (chosen : is_selected selected k ≡ true) where
  given-if : (taken is : Bool) (side from : Side) (flow : ℕ) (frame : CameFrame) → is_selected selected flow ≡ taken → is_of side k (record { side = from; flow = flow; frame = frame }) ≡ is
      → bytes_of (given_of side k (arrivals_if selected from flow frame)) ≡ cond taken (cond is (frame.bytes ∷ []) []) []
  given-if true is side from flow frame takes is_it = rw takes (bytes-one is side k (record { side = from; flow = flow; frame = frame }) is_it)
  given-if false is side from flow frame takes is_it = rw takes refl

  given-no : (side from : Side) (flow : ℕ) (frame : CameFrame) → is_of side k (record { side = from; flow = flow; frame = frame }) ≡ false
      → bytes_of (given_of side k (arrivals_if selected from flow frame)) ≡ []
  given-no side from flow frame is_it = given-if (is_selected selected flow) false side from flow frame refl is_it ∙ none-either (is_selected selected flow) [] refl

  selected-as : (flow : ℕ) → eqb flow k ≡ true → is_selected selected flow ≡ true
  selected-as flow same = ap (λ (f : ℕ). is_selected selected f) (eqb-true flow k same) ∙ chosen

  -- ---- steps

  here-step : (step : TimedStep) → bytes_of (given_of Here k (arrivals_of_step selected step)) ≡ frames_in_step k step
  here-step (HandedIn flow burst) = refl
  here-step (Asked burst request) = refl
  here-step (Replied flow burst_id reply) = refl
  here-step (Ended flow counts) = refl
  here-step (Frame flow burst frame) = by (eqb flow k) refl where
    by : (is : Bool) → eqb flow k ≡ is → bytes_of (given_of Here k (arrivals_if selected Here flow (came burst.time frame []))) ≡ cond is (frame ∷ []) []
    by true is = given-if true true Here Here flow (came burst.time frame []) (selected-as flow is) is
    by false is = given-no Here Here flow (came burst.time frame []) is

  analyser-step : (step : TimedStep) → bytes_of (given_of Analyser k (arrivals_of_step selected step)) ≡ []
  analyser-step (HandedIn flow burst) = refl
  analyser-step (Asked burst request) = refl
  analyser-step (Replied flow burst_id reply) = refl
  analyser-step (Ended flow counts) = refl
  analyser-step (Frame flow burst frame) = given-no Analyser Here flow (came burst.time frame []) refl

  here-steps : (steps : List TimedStep) → bytes_of (given_of Here k (arrivals_of_steps selected steps)) ≡ frames_in k steps
  here-steps [] = refl
  here-steps (step ∷ steps) =
      bytes-append Here k (arrivals_of_step selected step) (arrivals_of_steps selected steps)
      ∙ ap (λ (front : List (List ℕ)). front ++ bytes_of (given_of Here k (arrivals_of_steps selected steps))) (here-step step)
      ∙ ap (λ (back : List (List ℕ)). frames_in_step k step ++ back) (here-steps steps)

  analyser-steps : (steps : List TimedStep) → bytes_of (given_of Analyser k (arrivals_of_steps selected steps)) ≡ []
  analyser-steps [] = refl
  analyser-steps (step ∷ steps) =
      bytes-append Analyser k (arrivals_of_step selected step) (arrivals_of_steps selected steps)
      ∙ ap (λ (front : List (List ℕ)). front ++ bytes_of (given_of Analyser k (arrivals_of_steps selected steps))) (analyser-step step)
      ∙ analyser-steps steps

  -- ---- records

  here-flow : (found : Option ℕ) (frame : FrameParts) (ids : List ℕ) → bytes_of (given_of Here k (arrivals_of_flow found selected frame ids)) ≡ []
  here-flow None frame ids = refl
  here-flow (Some flow) frame ids = given-no Here Analyser flow (came frame.time frame.frame ids) refl

  own-flow : (found : Option ℕ) (frame : FrameParts) (ids : List ℕ) → found ≡ Some k → bytes_of (given_of Analyser k (arrivals_of_flow found selected frame ids)) ≡ frame.frame ∷ []
  own-flow found frame ids is =
      ap (λ (f : Option ℕ). bytes_of (given_of Analyser k (arrivals_of_flow f selected frame ids))) is
      ∙ given-if true true Analyser Analyser k (came frame.time frame.frame ids) chosen (eq-eqb k k refl)

  other-flow : (found : Option ℕ) (frame : FrameParts) (ids : List ℕ) → found ≢ Some k → bytes_of (given_of Analyser k (arrivals_of_flow found selected frame ids)) ≡ []
  other-flow None frame ids other = refl
  other-flow (Some flow) frame ids other =
      given-no Analyser Analyser flow (came frame.time frame.frame ids) (ne_eqb flow k (λ same. other (ap (λ (f : ℕ). Some f) same)))

  module _ (capture_map : CaptureMap) where
    here-brings : (one : CaptureParts) (more : List Arrival) → Brings selected capture_map one more → bytes_of (given_of Here k more) ≡ []
    here-brings one _ (a_frame frame ids holds named) = here-flow (flow_of_joined capture_map frame) frame ids
    here-brings one _ (no_frame none) = refl

    analyser-brings : (records : List CaptureParts) (frames : List (List ℕ)) (one : CaptureParts) (more : List Arrival) → AreTheAnalysers capture_map k records frames → Brings selected capture_map one more
        → AreTheAnalysers capture_map k (records ++ one ∷ []) (frames ++ bytes_of (given_of Analyser k more))
    analyser-brings records frames one _ are (no_frame none) =
        subst (λ (all : List (List ℕ)). AreTheAnalysers capture_map k (records ++ one ∷ []) all) (sym (append-nil frames)) (of_none are one none)
    analyser-brings records frames one _ are (a_frame frame ids holds named) = by (flow_of_joined capture_map frame) refl where
      own : (found : Option ℕ) → flow_of_joined capture_map frame ≡ found → found ≡ Some k
          → AreTheAnalysers capture_map k (records ++ one ∷ []) (frames ++ bytes_of (given_of Analyser k (arrivals_of_flow found selected frame ids)))
      own found is same =
          subst (λ (all : List (List ℕ)). AreTheAnalysers capture_map k (records ++ one ∷ []) (frames ++ all)) (sym (own-flow found frame ids same)) (of_the_flow are one frame holds (is ∙ same))

      other : (found : Option ℕ) → flow_of_joined capture_map frame ≡ found → found ≢ Some k
          → AreTheAnalysers capture_map k (records ++ one ∷ []) (frames ++ bytes_of (given_of Analyser k (arrivals_of_flow found selected frame ids)))
      other found is differs =
          subst (λ (all : List (List ℕ)). AreTheAnalysers capture_map k (records ++ one ∷ []) all)
          (sym (ap (λ (more : List (List ℕ)). frames ++ more) (other-flow found frame ids differs) ∙ append-nil frames))
          (of_another are one frame holds (λ same. differs (sym is ∙ same)))

      by : (found : Option ℕ) → flow_of_joined capture_map frame ≡ found
          → AreTheAnalysers capture_map k (records ++ one ∷ []) (frames ++ bytes_of (given_of Analyser k (arrivals_of_flow found selected frame ids)))
      by None is = other None is (λ same. none-some k same)
      by (Some flow) is = by_number (eqb flow k) refl where
        by_number : (same : Bool) → eqb flow k ≡ same
            → AreTheAnalysers capture_map k (records ++ one ∷ []) (frames ++ bytes_of (given_of Analyser k (arrivals_of_flow (Some flow) selected frame ids)))
        by_number true same = own (Some flow) is (ap (λ (f : ℕ). Some f) (eqb-true flow k same))
        by_number false same = other (Some flow) is (λ is_k. both_ways (eqb flow k) same (eq-eqb flow k (same_Some flow k is_k)))

    -- **what came is of our frames and of the analyser's**
    pub both-sides : (records : List CaptureParts) (timed : List TimedStep) (arrivals : List Arrival) → AreArrivals selected capture_map records timed arrivals
        → (bytes_of (given_of Here k arrivals) ≡ frames_in k timed) × AreTheAnalysers capture_map k records (bytes_of (given_of Analyser k arrivals))
    both-sides _ _ _ nothing_yet = (refl, no_record)
    both-sides _ timed _ (one_record {records = records} {before = before} earlier one more brings) =
        let had = both-sides records timed before earlier in (
          bytes-append Here k before more ∙ ap (λ (back : List (List ℕ)). bytes_of (given_of Here k before) ++ back) (here-brings one more brings)
              ∙ append-nil (bytes_of (given_of Here k before)) ∙ had.0,
          subst (λ (all : List (List ℕ)). AreTheAnalysers capture_map k (records ++ one ∷ []) all) (sym (bytes-append Analyser k before more))
              (analyser-brings records (bytes_of (given_of Analyser k before)) one more had.1 brings),
        )
    both-sides records _ _ (more_steps {timed = timed} {before = before} earlier more) =
        let had = both-sides records timed before earlier in (
          bytes-append Here k before (arrivals_of_steps selected more)
              ∙ ap (λ (front : List (List ℕ)). front ++ bytes_of (given_of Here k (arrivals_of_steps selected more))) had.0
              ∙ ap (λ (back : List (List ℕ)). frames_in k timed ++ back) (here-steps more) ∙ sym (flat_map-append (frames_in_step k) timed more),
          subst (λ (all : List (List ℕ)). AreTheAnalysers capture_map k records all)
              (sym (bytes-append Analyser k before (arrivals_of_steps selected more)
              ∙ ap (λ (back : List (List ℕ)). bytes_of (given_of Analyser k before) ++ back) (analyser-steps more) ∙ append-nil (bytes_of (given_of Analyser k before))))
              had.1,
        )
