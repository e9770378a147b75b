-- The file of all flows, of which one of some flows is a part.
use Rattle.std.proofs.Common.{◌≡◌, ℕ, zero, suc, ◌⊎◌, inl, inr, Bool, true, false, Option, Some, List, [], ◌∷◌, ◌++◌, filter, length, refl, sym, ap, subst, ◌∙◌, append-nil, append_assoc, length-append, ne_eqb, arith}
use Rattle.std.specs.Prelude.{◌||◌, slice_get, slice_set, if◌then◌else◌}
use Rattle.std.proofs.lemmas.Bool.{cases_eq, false≢true}
use Rattle.std.proofs.lemmas.Grind.{flat_map-append}
use Rattle.std.proofs.lemmas.List.Elements.{filter-append}
use Rattle.capture.specs.Pcap.{header_bytes}
use Rattle.capture_map.specs.declared.map.CaptureMap.{CaptureMap}
use Rattle.capture_map.specs.declared.map.MapChannel.{MapChannel}
use Rattle.consumer.specs.declared.given.Given.TheVariants as given
use Rattle.captured_flows.specs.Acts.{Act}
use Rattle.captured_flows.specs.Flow.{FlowView}
use Rattle.captured_flows.specs.Shown.{is_seen}
use Rattle.captured_flows.specs.Steps.{CaptureStep, handed_in, gave, replied, began_anew}
use Rattle.captured_flows.specs.Followed.{hands_in, StepFollows, FollowBursts}
use Rattle.captured_flows.proofs.Followed.{hands-append}
use Rattle.flow_core.proofs.OneFlow.{written, written_other}
use Rattle.flow_selection.specs.declared.selection.Selection.{Selection}
use Rattle.flow_selection.specs.declared.selection.Selection.TheVariants.{All}
use Rattle.flow_selection.specs.Selection.{is_selected}
use Rattle.flow_selection.specs.Lines.{is_left}
use Rattle.captured_flows.specs.declared.captured_burst.CapturedBurst.{CapturedBurst}
use Rattle.frame_records.specs.declared.link.FrameLink.{FrameLink}
use Rattle.frame_records.specs.Frames.{file_header}
use Rattle.timed_frames.specs.declared.timed_step.LastBurst.{LastBurst}
use Rattle.timed_frames.specs.declared.timed_step.TimedStep.{TimedStep}
use Rattle.timed_frames.specs.declared.timed_step.TimedStep.TheVariants as timed_step
use Rattle.timed_frames.specs.Timed.{Timed, last_burst, nothing_came, burst_came, frame_came, request_came, reply_came, flow_ended}
use Rattle.frame_engine.specs.declared.settings.CaptureSettings.{CaptureSettings}
use Rattle.frame_engine.specs.Joined.{of_all_flows, none_handed_in, whole_file, file_of, ComesOf, ComesAtEnd, IsFileOf}
use Rattle.frame_engine.specs.Written.{flow_of_frame, written_of, written_in, steps_left, left_in}

-- ---- the last of a list

no_last : {X : Type 0} (xs : List X) (x : X) → [] ≡ xs ++ x ∷ [] → ⊥
no_last [] x same = absurd cc
no_last (y ∷ xs) x same = absurd cc

same_ends : {X : Type 0} (xs ys : List X) (x y : X) → xs ++ x ∷ [] ≡ ys ++ y ∷ [] → (xs ≡ ys) × (x ≡ y)
same_ends [] [] x y same = (refl, cc)
same_ends [] (b ∷ ys) x y same = let rest : [] ≡ ys ++ y ∷ [] = cc in absurd (no_last ys y rest)
same_ends (a ∷ xs) [] x y same = let rest : [] ≡ xs ++ x ∷ [] = cc in absurd (no_last xs x rest)
same_ends {X} (a ∷ xs) (b ∷ ys) x y same =
    let first : a ≡ b = cc in
    let rest : xs ++ x ∷ [] ≡ ys ++ y ∷ [] = cc in
    let behind = same_ends xs ys x y rest in
    (ap (λ (h : X). h ∷ xs) first ∙ ap (λ (t : List X). b ∷ t) behind.0, behind.1)

-- a list is empty or has a last element
some_last : {X : Type 0} (xs : List X) → (xs ≡ []) ⊎ ((front : List X) × (last : X) × (xs ≡ front ++ last ∷ []))
some_last [] = inl refl
some_last {X} (x ∷ xs) = elim (some_last xs) [
  | inl none ↦ inr ([], x, ap (λ (t : List X). x ∷ t) none)
  | inr found ↦ inr (x ∷ found.0, found.1, ap (λ (t : List X). x ∷ t) found.2)
]

-- all is seen where all flows are selected
pub all-seen : (steps : List CaptureStep) → filter (is_seen All) steps ≡ steps
all-seen [] = refl
all-seen (handed_in flow burst ∷ steps) = ap (λ (t : List CaptureStep). handed_in flow burst ∷ t) (all-seen steps)
all-seen (gave (given.Frame flow frame) ∷ steps) = ap (λ (t : List CaptureStep). gave (given.Frame flow frame) ∷ t) (all-seen steps)
all-seen (gave (given.Asked request) ∷ steps) = ap (λ (t : List CaptureStep). gave (given.Asked request) ∷ t) (all-seen steps)
all-seen (replied flow burst_id reply ∷ steps) = ap (λ (t : List CaptureStep). replied flow burst_id reply ∷ t) (all-seen steps)
all-seen (began_anew flow counts ∷ steps) = ap (λ (t : List CaptureStep). began_anew flow counts ∷ t) (all-seen steps)

-- ---- the last step

-- each step follows, and so does the last one
follow-last : (before steps : List CaptureStep) (step : CaptureStep) → FollowBursts before (steps ++ step ∷ []) → FollowBursts before steps × StepFollows (before ++ steps) step
follow-last before [] step follow = (tt, subst (λ (b : List CaptureStep). StepFollows b step) (sym (append-nil before)) follow.0)
follow-last before (first ∷ steps) step follow =
    let rest = follow-last (before ++ first ∷ []) steps step follow.1 in
    ((follow.0, rest.0), subst (λ (b : List CaptureStep). StepFollows b step) (append_assoc before (first ∷ []) steps) rest.1)

-- the last that came of some steps, and how it comes behind others
record LastCame (selected : Selection) (lasts : List (Option LastBurst)) (steps : List CaptureStep) (step : CaptureStep) (timed : List TimedStep) (now : List (Option LastBurst)) : Type 0 where
  before : List TimedStep
  mid : List (Option LastBurst)
  came : Timed lasts steps before mid
  one : TimedStep
  all : timed ≡ before ++ one ∷ []
  again : (others : List CaptureStep) (also : List TimedStep) → Timed lasts others also mid → Timed lasts (others ++ step ∷ []) (also ++ one ∷ []) now
  kept : is_seen selected step ≡ true → is_left selected (flow_of_frame one) ≡ true

last_came : (selected : Selection) (lasts : List (Option LastBurst)) (all steps : List CaptureStep) (step : CaptureStep) (timed : List TimedStep) (now : List (Option LastBurst)) → all ≡ steps ++ step ∷ []
    → Timed lasts all timed now → LastCame selected lasts steps step timed now
last_came selected lasts all steps step timed now same nothing_came = absurd (no_last steps step same)
last_came selected lasts all steps step timed now same (burst_came {steps = before} {timed = came} {now = mid} flow burst first small) =
    let ends = same_ends before steps (handed_in flow burst) step same in
    record {
      before = came;
      mid = mid;
      came = subst (λ (s : List CaptureStep). Timed lasts s came mid) ends.0 first;
      one = timed_step.HandedIn flow (last_burst burst);
      all = refl;
      again = λ others also is.
          subst (λ (s : CaptureStep). Timed lasts (others ++ s ∷ []) (also ++ timed_step.HandedIn flow (last_burst burst) ∷ []) (slice_set mid flow (Some (last_burst burst)))) ends.1
          (burst_came flow burst is small);
      kept = λ is. refl;
    }
last_came selected lasts all steps step timed now same (frame_came {steps = before} {timed = came} flow burst frame first last) =
    let ends = same_ends before steps (gave (given.Frame flow frame)) step same in
    record {
      before = came;
      mid = now;
      came = subst (λ (s : List CaptureStep). Timed lasts s came now) ends.0 first;
      one = timed_step.Frame flow burst frame;
      all = refl;
      again = λ others also is.
          subst (λ (s : CaptureStep). Timed lasts (others ++ s ∷ []) (also ++ timed_step.Frame flow burst frame ∷ []) now) ends.1 (frame_came flow burst frame is last);
      kept = λ is. ap (is_seen selected) ends.1 ∙ is;
    }
last_came selected lasts all steps step timed now same (request_came {steps = before} {timed = came} burst request first last) =
    let ends = same_ends before steps (gave (given.Asked request)) step same in
    record {
      before = came;
      mid = now;
      came = subst (λ (s : List CaptureStep). Timed lasts s came now) ends.0 first;
      one = timed_step.Asked burst request;
      all = refl;
      again = λ others also is.
          subst (λ (s : CaptureStep). Timed lasts (others ++ s ∷ []) (also ++ timed_step.Asked burst request ∷ []) now) ends.1 (request_came burst request is last);
      kept = λ is. refl;
    }
last_came selected lasts all steps step timed now same (reply_came {steps = before} {timed = came} flow burst_id reply first) =
    let ends = same_ends before steps (replied flow burst_id reply) step same in
    record {
      before = came;
      mid = now;
      came = subst (λ (s : List CaptureStep). Timed lasts s came now) ends.0 first;
      one = timed_step.Replied flow burst_id reply;
      all = refl;
      again = λ others also is.
          subst (λ (s : CaptureStep). Timed lasts (others ++ s ∷ []) (also ++ timed_step.Replied flow burst_id reply ∷ []) now) ends.1 (reply_came flow burst_id reply is);
      kept = λ is. refl;
    }
last_came selected lasts all steps step timed now same (flow_ended {steps = before} {timed = came} flow counts first) =
    let ends = same_ends before steps (began_anew flow counts) step same in
    record {
      before = came;
      mid = now;
      came = subst (λ (s : List CaptureStep). Timed lasts s came now) ends.0 first;
      one = timed_step.Ended flow counts;
      all = refl;
      again = λ others also is.
          subst (λ (s : CaptureStep). Timed lasts (others ++ s ∷ []) (also ++ timed_step.Ended flow counts ∷ []) now) ends.1 (flow_ended flow counts is);
      kept = λ is. refl;
    }

-- ---- the burst that was handed in last

or_left : (a : Bool) → (a || false) ≡ true → a ≡ true
or_left true is = refl
or_left false is = is

-- where a burst of the flow was handed in there is one that was handed in last
has_last : {lasts : List (Option LastBurst)} {steps : List CaptureStep} {timed : List TimedStep} {now : List (Option LastBurst)} (k : ℕ) → Timed lasts steps timed now
    → hands_in k steps ≡ true → (burst : LastBurst) × (slice_get now k ≡ Some (Some burst))
has_last k nothing_came is = absurd cc
has_last k (burst_came {steps = steps} {now = mid} flow burst first small) is = elim (cases_eq flow k) [
  | inl same ↦ (
    last_burst burst,
    subst (λ (j : ℕ). slice_get (slice_set mid flow (Some (last_burst burst))) j ≡ Some (Some (last_burst burst))) same (written mid flow (Some (last_burst burst)) small),
  )
  | inr apart ↦
      let only = sym (hands-append k steps (handed_in flow burst ∷ [])) ∙ is in
      let own = ap (λ (b : Bool). hands_in k steps || (b || false)) (ne_eqb flow k apart) in
      let before = has_last k first (or_left (hands_in k steps) (sym own ∙ only)) in
      (before.0, written_other mid flow k (Some (last_burst burst)) (λ same. apart (sym same)) ∙ before.1)
]
has_last k (frame_came {steps = steps} flow burst frame first last) is =
    has_last k first (or_left (hands_in k steps) (sym (hands-append k steps (gave (given.Frame flow frame) ∷ [])) ∙ is))
has_last k (request_came {steps = steps} burst request first last) is =
    has_last k first (or_left (hands_in k steps) (sym (hands-append k steps (gave (given.Asked request) ∷ [])) ∙ is))
has_last k (reply_came {steps = steps} flow burst_id reply first) is =
    has_last k first (or_left (hands_in k steps) (sym (hands-append k steps (replied flow burst_id reply ∷ [])) ∙ is))
has_last k (flow_ended {steps = steps} flow counts first) is =
    has_last k first (or_left (hands_in k steps) (sym (hands-append k steps (began_anew flow counts ∷ [])) ∙ is))

-- ---- the whole of what came

module _ (selected : Selection) (link : FrameLink) (channels : List MapChannel) where
  -- All that came of some steps, of which this is what came of what is seen.
  pub record IsPartOf (lasts : List (Option LastBurst)) (steps : List CaptureStep) (timed : List TimedStep) (now : List (Option LastBurst)) : Type 0 where
    pub whole : List TimedStep
    pub is_timed : Timed lasts steps whole now
    pub left : left_in selected link channels whole ≡ written_in link channels timed

  left_more : (came more : List TimedStep) → left_in selected link channels (came ++ more) ≡ left_in selected link channels came ++ left_in selected link channels more
  left_more came more =
      ap (written_in link channels) (filter-append (λ step. is_left selected (flow_of_frame step)) came more)
      ∙ flat_map-append (written_of link channels) (steps_left selected came) (steps_left selected more)

  -- of one thing that is left all is written, and of one that isn't nothing
  left_if : (one : TimedStep) (b : Bool) → b ≡ true → written_in link channels (if b then one ∷ [] else []) ≡ written_in link channels (one ∷ [])
  left_if one true is = refl
  left_if one false is = absurd cc

  none_left : (one : TimedStep) (b : Bool) → b ≡ false → written_in link channels (if b then one ∷ [] else []) ≡ []
  none_left one true is = absurd cc
  none_left one false is = refl

  shown_if : (step : CaptureStep) (b : Bool) → b ≡ true → (if b then step ∷ [] else []) ≡ step ∷ []
  shown_if step true is = refl
  shown_if step false is = absurd cc

  hidden_if : (step : CaptureStep) (b : Bool) → b ≡ false → (if b then step ∷ [] else []) ≡ []
  hidden_if step true is = absurd cc
  hidden_if step false is = refl

  -- of no steps nothing came
  none_came : (lasts : List (Option LastBurst)) (steps : List CaptureStep) (timed : List TimedStep) (now : List (Option LastBurst)) → steps ≡ [] → Timed lasts steps timed now
      → left_in selected link channels timed ≡ written_in link channels timed
  none_came lasts steps timed now none nothing_came = refl
  none_came lasts steps timed now none (burst_came {steps = before} flow burst first small) = absurd (no_last before (handed_in flow burst) (sym none))
  none_came lasts steps timed now none (frame_came {steps = before} flow burst frame first last) = absurd (no_last before (gave (given.Frame flow frame)) (sym none))
  none_came lasts steps timed now none (request_came {steps = before} burst request first last) = absurd (no_last before (gave (given.Asked request)) (sym none))
  none_came lasts steps timed now none (reply_came {steps = before} flow burst_id reply first) = absurd (no_last before (replied flow burst_id reply) (sym none))
  none_came lasts steps timed now none (flow_ended {steps = before} flow counts first) = absurd (no_last before (began_anew flow counts) (sym none))

  module _ (lasts : List (Option LastBurst)) (front : List CaptureStep) (now : List (Option LastBurst)) where
    -- one step more that isn't seen
    with_hidden : (step : CaptureStep) (timed : List TimedStep) → IsPartOf lasts front timed now → is_seen selected step ≡ false → StepFollows front step
        → IsPartOf lasts (front ++ step ∷ []) timed now
    with_hidden (handed_in flow burst) timed part out follows = absurd (false≢true (sym out))
    with_hidden (gave (given.Frame flow frame)) timed part out follows =
        let last = has_last flow part.is_timed follows in
        let one = timed_step.Frame flow last.0 frame in
        record {
          whole = part.whole ++ one ∷ [];
          is_timed = frame_came flow last.0 frame part.is_timed last.1;
          left =
              left_more part.whole (one ∷ []) ∙ ap (λ (t : List ℕ). left_in selected link channels part.whole ++ t) (none_left one (is_selected selected flow) out)
              ∙ append-nil (left_in selected link channels part.whole) ∙ part.left;
        }
    with_hidden (gave (given.Asked request)) timed part out follows = absurd (false≢true (sym out))
    with_hidden (replied flow burst_id reply) timed part out follows = absurd (false≢true (sym out))
    with_hidden (began_anew flow counts) timed part out follows =
        let one = timed_step.Ended flow counts in
        record {
          whole = part.whole ++ one ∷ [];
          is_timed = flow_ended flow counts part.is_timed;
          left = left_more part.whole (one ∷ []) ∙ append-nil (left_in selected link channels part.whole) ∙ part.left;
        }

    -- one that is
    with_shown : (step : CaptureStep) (timed : List TimedStep) (found : LastCame selected lasts (filter (is_seen selected) front) step timed now) → is_seen selected step ≡ true
        → IsPartOf lasts front found.before found.mid → IsPartOf lasts (front ++ step ∷ []) timed now
    with_shown step timed found is part = record {
      whole = part.whole ++ found.one ∷ [];
      is_timed = found.again front part.whole part.is_timed;
      left =
          left_more part.whole (found.one ∷ [])
          ∙ ap (λ (t : List ℕ). left_in selected link channels part.whole ++ t) (left_if found.one (is_left selected (flow_of_frame found.one)) (found.kept is))
          ∙ ap (λ (t : List ℕ). t ++ written_in link channels (found.one ∷ [])) part.left
          ∙ sym (flat_map-append (written_of link channels) found.before (found.one ∷ []))
          ∙ ap (written_in link channels) (sym found.all);
    }

  -- all came of some steps, if each frame comes behind a burst of its flow
  whole_of : (n : ℕ) (lasts : List (Option LastBurst)) (steps : List CaptureStep) → length steps ≡ n → (timed : List TimedStep) (now : List (Option LastBurst))
      → Timed lasts (filter (is_seen selected) steps) timed now → FollowBursts [] steps → IsPartOf lasts steps timed now
  whole_of zero lasts [] size timed now is follow = record { whole = timed; is_timed = is; left = none_came lasts [] timed now refl is }
  whole_of zero lasts (step ∷ steps) size timed now is follow = absurd cc
  whole_of (suc n) lasts steps size timed now is follow = elim (some_last steps) [
    | inl none ↦ let wrong = ap (λ (s : List CaptureStep). length s) none in absurd (omega arith)
    | inr (front, step, same) ↦
        let follows = follow-last [] front step (subst (FollowBursts []) same follow) in
        let count : length front ≡ n = omega (arith, length-append front (step ∷ []), ap (λ (s : List CaptureStep). length s) same) in
        let all = ap (filter (is_seen selected)) same ∙ filter-append (is_seen selected) front (step ∷ []) in
        subst (λ (s : List CaptureStep). IsPartOf lasts s timed now) (sym same)
        (by_flag lasts front step (λ t mid came. whole_of n lasts front count t mid came follows.0) timed now (is_seen selected step) refl (subst (λ (s : List CaptureStep). Timed lasts s timed now) all is) follows.0 follows.1)
  ] where
    by_flag : (lasts : List (Option LastBurst)) (front : List CaptureStep) (step : CaptureStep)
        → ((t : List TimedStep) (mid : List (Option LastBurst)) → Timed lasts (filter (is_seen selected) front) t mid → IsPartOf lasts front t mid)
        → (timed : List TimedStep) (now : List (Option LastBurst)) (b : Bool)
        → is_seen selected step ≡ b → Timed lasts (filter (is_seen selected) front ++ (if is_seen selected step then step ∷ [] else [])) timed now → FollowBursts [] front → StepFollows front step
        → IsPartOf lasts (front ++ step ∷ []) timed now
    by_flag lasts front step of_front timed now true seen is follow follows =
        let there = subst (λ (t : List CaptureStep). Timed lasts (filter (is_seen selected) front ++ t) timed now) (shown_if step (is_seen selected step) seen) is in
        let found = last_came selected lasts (filter (is_seen selected) front ++ step ∷ []) (filter (is_seen selected) front) step timed now refl there in
        with_shown lasts front now step timed found seen (of_front found.before found.mid found.came)
    by_flag lasts front step of_front timed now false out is follow follows =
        let there = subst (λ (t : List CaptureStep). Timed lasts t timed now)
        (ap (λ (t : List CaptureStep). filter (is_seen selected) front ++ t) (hidden_if step (is_seen selected step) out) ∙ append-nil (filter (is_seen selected) front)) is in
        with_hidden lasts front now step timed (of_front timed now there) out follows

  pub whole-of : (lasts : List (Option LastBurst)) (steps : List CaptureStep) (timed : List TimedStep) (now : List (Option LastBurst))
      → Timed lasts (filter (is_seen selected) steps) timed now → FollowBursts [] steps → IsPartOf lasts steps timed now
  whole-of lasts steps timed now is follow = whole_of (length steps) lasts steps refl timed now is follow

-- ---- the whole file

module _ (settings : CaptureSettings) (capture_map : CaptureMap) where
  -- what comes of bursts doesn't depend on which flows are selected
  pub whole-comes : (bursts : List CapturedBurst) (handed : List Act) (flows : List FlowView) (steps : List CaptureStep) → ComesOf settings capture_map bursts handed flows steps
      → ComesOf (of_all_flows settings) capture_map bursts handed flows steps
  whole-comes bursts handed flows steps comes = record { spelled = comes.spelled; plays = comes.plays }

  -- so when nothing more comes
  pub whole-ends : (bursts : List CapturedBurst) (handed : List Act) (steps : List CaptureStep) → ComesAtEnd settings capture_map bursts handed steps
      → ComesAtEnd (of_all_flows settings) capture_map bursts handed steps
  whole-ends bursts handed steps comes = record {
    before = comes.before;
    flows = comes.flows;
    earlier = comes.earlier;
    came = whole-comes bursts comes.before comes.flows comes.earlier comes.came;
    later = comes.later;
    flows' = comes.flows';
    ends = comes.ends;
    handed_is = comes.handed_is;
    plays = comes.plays;
  }

  -- beside the file of some flows there is the whole one, of one list of what came
  pub whole-file-of : (steps : List CaptureStep) (text : List ℕ) → IsFileOf settings capture_map steps text → FollowBursts [] steps
      → (whole : List ℕ) × (timed : List TimedStep) × IsFileOf (of_all_flows settings) capture_map steps whole × (whole ≡ whole_file settings capture_map timed)
      × (text ≡ file_of settings capture_map timed)
  whole-file-of steps text file follow =
      let none = none_handed_in settings capture_map in
      let part = whole-of settings.selected settings.link capture_map.channels.items none steps file.timed file.lasts file.is_timed follow in (
        whole_file settings capture_map part.whole,
        part.whole,
        record {
          timed = part.whole;
          lasts = file.lasts;
          is_timed = subst (λ (s : List CaptureStep). Timed none s part.whole file.lasts) (sym (all-seen steps)) part.is_timed;
          text_is = refl;
        },
        refl,
        file.text_is ∙ ap (λ (t : List ℕ). header_bytes (file_header settings.link) ++ t) (sym part.left),
      )
