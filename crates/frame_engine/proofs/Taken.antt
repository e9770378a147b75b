-- A burst more came, or nothing more.
use Rattle.std.specs.Prelude.{if◌then◌else◌}
use Rattle.std.proofs.Common.{◌≡◌, ℕ, ◌+◌, ◌-◌, ◌^◌, min, Bool, true, false, Ok, Err, List, [], ◌∷◌, ◌++◌, filter, map, length, refl, sym, ap, subst, ◌∙◌, arith, length-append}
use Rattle.std.proofs.lemmas.List.{length-map}
use Rattle.consumer.specs.declared.given.Given.{Given}
use Rattle.captured_flows.specs.Acts.{Act, items_of}
use Rattle.flow_selection.specs.declared.selection.Selection.{Selection}
use Rattle.selected_receiver.specs.Whole.{StandsForWhole}
use Rattle.selected_receiver.specs.Taking.{ClosesOfWhole}
use Rattle.selected_receiver.specs.declared.selected_receiver.SelectedReceiver.{SelectedReceiver}
use Rattle.receiver.specs.declared.closing.Closed.{Closed}
use Rattle.capture.specs.PcapngBlocks.{CaptureParts}
use Rattle.capture_map.specs.declared.map.CaptureMap.{CaptureMap}
use Rattle.captured_flows.specs.declared.captured_burst.CapturedBurst.{CapturedBurst}
use Rattle.captured_flows.specs.declared.burst_taken.BurstTaken.{BurstTaken}
use Rattle.captured_flows.specs.declared.captured_flows.CapturedFlows.{CapturedFlows}
use Rattle.captured_flows.specs.declared.waits.Waits.{Waits}
use Rattle.captured_flows.specs.Captures.{SpellsBurst, EndsAll, one_more_comes}
use Rattle.captured_flows.specs.Capturing.{views_in, SpellsNext, EndsWaitingOfAll}
use Rattle.captured_flows.specs.Seen.{flow_seen}
use Rattle.captured_flows.specs.Shown.{is_seen, AreSeenOf}
use Rattle.captured_flows.specs.Steps.{CaptureStep, gave, given_in}
use Rattle.captured_flows.specs.Taking.{TakesBy}
use Rattle.captured_flows.proofs.Seen.{given-append, plays-then}
use Rattle.timed_frames.specs.declared.timed_frames.TimedFrames.{TimedFrames}
use Rattle.timed_frames.specs.Seen.{HasGiven, HasSeen}
use Rattle.timed_frames.specs.Timing.{seen_nothing}
use Rattle.frame_engine.specs.declared.inner_check.InnerCheck.{InnerCheck}
use Rattle.frame_engine.specs.declared.settings.CaptureSettings.{CaptureSettings}
use Rattle.frame_engine.specs.declared.frame_file.FrameFile.{FrameFile}
use Rattle.frame_engine.specs.declared.joining.Joining.{Joining}
use Rattle.capture_summary.specs.declared.passed.PassedReason.{PassedReason}
use Rattle.frame_engine.specs.Settings.{inner_accepts}
use Rattle.frame_engine.specs.Records.{IsBurstOf, passed_over, one_burst, counted}
use Rattle.answers.specs.Beside.{is_told_if_given}
use Rattle.frame_engine.specs.Joined.{made, check, steps_seen, ComesOf, IsFileOf, AreFramesAtEnd, AreAllFrames}
use Rattle.frame_engine.specs.Reasoned.{answers_in}
use Rattle.frame_engine.specs.Inside.Joins.{PutsCame, HasFiled, HasTaken, HasEnded, HasJoined, TakesBurst}
use Rattle.frame_engine.proofs.Filed.{filed-more, filed-came, filed-file, filed-written}

-- what is seen of what is given
gave_seen : (selected : Selection) (given : List Given) → filter (is_seen selected) (map gave given) ≡ map gave (filter (is_told_if_given selected) given)
gave_seen selected [] = refl
gave_seen selected (one ∷ more) = by_flag (is_told_if_given selected one) (gave_seen selected more) where
  by_flag : (b : Bool) → filter (is_seen selected) (map gave more) ≡ map gave (filter (is_told_if_given selected) more)
      → (if b then gave one ∷ filter (is_seen selected) (map gave more) else filter (is_seen selected) (map gave more))
      ≡ map gave (if b then one ∷ filter (is_told_if_given selected) more else filter (is_told_if_given selected) more)
  by_flag true rest = ap (λ (s : List CaptureStep). gave one ∷ s) rest
  by_flag false rest = rest

module _ (settings : CaptureSettings) (capture_map : CaptureMap) where
  -- what is seen by the selection of the flows is seen by that of the settings
  seen-as : (selected : Selection) → selected ≡ settings.selected → (steps seen : List CaptureStep) → AreSeenOf selected steps seen → seen ≡ steps_seen settings capture_map steps
  seen-as selected same steps seen are = are ∙ ap (λ (s : Selection). filter (is_seen s) steps) same

  rest-as : (selected : Selection) → selected ≡ settings.selected → (given seen : List Given) → seen ≡ filter (is_told_if_given selected) given
      → map gave seen ≡ steps_seen settings capture_map (map gave given)
  rest-as selected same given seen are =
      ap (map gave) are ∙ sym (gave_seen selected given) ∙ ap (λ (s : Selection). filter (is_seen s) (map gave given)) same

  -- a receiver that stands for what was handed in, by what was seen
  stands_for_both : (receiver : SelectedReceiver InnerCheck) (handed : List Act) (steps more : List CaptureStep)
      → StandsForWhole inner_accepts receiver (check settings capture_map) (made settings capture_map) (items_of handed) (given_in steps ++ given_in more)
      → StandsForWhole inner_accepts receiver (check settings capture_map) (made settings capture_map) (items_of handed) (given_in (steps ++ more))
  stands_for_both receiver handed steps more stands =
      subst (λ (given : List Given). StandsForWhole inner_accepts receiver (check settings capture_map) (made settings capture_map) (items_of handed) given)
      (sym (given-append steps more)) stands

  -- **A burst more.**
  pub taken-more : (bursts : List CapturedBurst) (burst : CapturedBurst) (told : BurstTaken) (written : List ℕ) (old new : Joining) (mid : TimedFrames) → HasTaken settings capture_map bursts written old
      → TakesBy inner_accepts HasSeen (SpellsNext old.flows burst told new.flows) old.flows.receiver old.timed new.flows.receiver mid
      → PutsCame mid old.file new.timed new.file → new.flows.map ≡ old.flows.map → new.flows.waits ≡ old.flows.waits
      → HasTaken settings capture_map (bursts ++ burst ∷ []) written new
  taken-more bursts burst told written old new mid has takes puts map_kept waits_kept =
      let more = takes.stands (check settings capture_map) (made settings capture_map) has.handed (given_in has.steps) has.stands in
      record {
        handed = has.handed ++ more.0;
        steps = has.steps ++ more.1;
        comes = record {
          spelled =
              one_more_comes has.comes.spelled
              (subst
              (λ (waits : Waits). SpellsBurst capture_map (made settings capture_map) waits.wait (views_in old.flows) burst has.handed told more.0 (views_in new.flows))
              has.waits_are
              (subst
              (λ (one : CaptureMap). SpellsBurst one (made settings capture_map) old.flows.waits.wait (views_in old.flows) burst has.handed told more.0 (views_in new.flows))
              has.map_is more.2));
          plays = plays-then (check settings capture_map) (made settings capture_map) [] has.handed [] has.steps has.comes.plays more.4;
        };
        stands = stands_for_both new.flows.receiver (has.handed ++ more.0) has.steps more.1 more.3;
        map_is = map_kept ∙ has.map_is;
        waits_are = waits_kept ∙ has.waits_are;
        filed =
            filed-more settings capture_map has.steps more.1 takes.seen written old.timed mid new.timed old.file new.file has.filed
            (takes.was_seen old.timed [] (seen_nothing old.timed)) (seen-as old.flows.receiver.selected has.selected_are more.1 takes.seen more.5) puts;
        selected_are = takes.selected ∙ has.selected_are;
      }

  -- what came then
  pub taken-came : (bursts : List CapturedBurst) (burst : CapturedBurst) (told : BurstTaken) (written : List ℕ) (old new : Joining) (mid : TimedFrames) (has : HasTaken settings capture_map bursts written old)
      (takes : TakesBy inner_accepts HasSeen (SpellsNext old.flows burst told new.flows) old.flows.receiver old.timed new.flows.receiver mid)
      (puts : PutsCame mid old.file new.timed new.file) (map_kept : new.flows.map ≡ old.flows.map) (waits_kept : new.flows.waits ≡ old.flows.waits)
      → (taken-more bursts burst told written old new mid has takes puts map_kept waits_kept).filed.came ≡ has.filed.came ++ mid.waiting.items
  unfolding taken-more
  taken-came bursts burst told written old new mid has takes puts map_kept waits_kept =
      let more = takes.stands (check settings capture_map) (made settings capture_map) has.handed (given_in has.steps) has.stands in
      filed-came settings capture_map has.steps more.1 takes.seen written old.timed mid new.timed old.file new.file has.filed
      (takes.was_seen old.timed [] (seen_nothing old.timed)) (seen-as old.flows.receiver.selected has.selected_are more.1 takes.seen more.5) puts

  -- and what was told of each burst
  pub taken-answers : (bursts : List CapturedBurst) (burst : CapturedBurst) (told : BurstTaken) (written : List ℕ) (old new : Joining) (mid : TimedFrames) (has : HasTaken settings capture_map bursts written old)
      (takes : TakesBy inner_accepts HasSeen (SpellsNext old.flows burst told new.flows) old.flows.receiver old.timed new.flows.receiver mid)
      (puts : PutsCame mid old.file new.timed new.file) (map_kept : new.flows.map ≡ old.flows.map) (waits_kept : new.flows.waits ≡ old.flows.waits)
      → answers_in (taken-more bursts burst told written old new mid has takes puts map_kept waits_kept).comes.spelled ≡ answers_in has.comes.spelled ++ told ∷ []
  unfolding taken-more
  taken-answers bursts burst told written old new mid has takes puts map_kept waits_kept = refl

  -- **Nothing more.**
  pub taken-end : (bursts : List CapturedBurst) (written : List ℕ) (old new : Joining) (mid : TimedFrames) → HasTaken settings capture_map bursts written old
      → TakesBy inner_accepts HasSeen (EndsWaitingOfAll old.flows new.flows) old.flows.receiver old.timed new.flows.receiver mid
      → PutsCame mid old.file new.timed new.file → HasEnded settings capture_map bursts written new
  taken-end bursts written old new mid has takes puts =
      let more = takes.stands (check settings capture_map) (made settings capture_map) has.handed (given_in has.steps) has.stands in
      record {
        handed = has.handed ++ more.0;
        steps = has.steps ++ more.1;
        comes = record {
          before = has.handed;
          flows = views_in old.flows;
          earlier = has.steps;
          came = has.comes;
          later = more.0;
          flows' = views_in new.flows;
          ends =
              subst (λ (n : ℕ). EndsAll (made settings capture_map) settings.waits.wait (views_in old.flows) has.handed n more.0 (views_in new.flows)) (sym (length-map old.flows.flows.items flow_seen))
              (subst
              (λ (waits : Waits). EndsAll (made settings capture_map) waits.wait (views_in old.flows) has.handed (length old.flows.flows.items) more.0 (views_in new.flows))
              has.waits_are more.2);
          handed_is = refl;
          plays = plays-then (check settings capture_map) (made settings capture_map) [] has.handed [] has.steps has.comes.plays more.4;
        };
        stands = stands_for_both new.flows.receiver (has.handed ++ more.0) has.steps more.1 more.3;
        filed =
            filed-more settings capture_map has.steps more.1 takes.seen written old.timed mid new.timed old.file new.file has.filed
            (takes.was_seen old.timed [] (seen_nothing old.timed)) (seen-as old.flows.receiver.selected has.selected_are more.1 takes.seen more.5) puts;
        selected_are = takes.selected ∙ has.selected_are;
      }

  pub end-came : (bursts : List CapturedBurst) (written : List ℕ) (old new : Joining) (mid : TimedFrames) (has : HasTaken settings capture_map bursts written old)
      (takes : TakesBy inner_accepts HasSeen (EndsWaitingOfAll old.flows new.flows) old.flows.receiver old.timed new.flows.receiver mid)
      (puts : PutsCame mid old.file new.timed new.file) → (taken-end bursts written old new mid has takes puts).filed.came ≡ has.filed.came ++ mid.waiting.items
  unfolding taken-end
  end-came bursts written old new mid has takes puts =
      let more = takes.stands (check settings capture_map) (made settings capture_map) has.handed (given_in has.steps) has.stands in
      filed-came settings capture_map has.steps more.1 takes.seen written old.timed mid new.timed old.file new.file has.filed
      (takes.was_seen old.timed [] (seen_nothing old.timed)) (seen-as old.flows.receiver.selected has.selected_are more.1 takes.seen more.5) puts

  pub end-answers : (bursts : List CapturedBurst) (written : List ℕ) (old new : Joining) (mid : TimedFrames) (has : HasTaken settings capture_map bursts written old)
      (takes : TakesBy inner_accepts HasSeen (EndsWaitingOfAll old.flows new.flows) old.flows.receiver old.timed new.flows.receiver mid)
      (puts : PutsCame mid old.file new.timed new.file) → answers_in (taken-end bursts written old new mid has takes puts).comes.came.spelled ≡ answers_in has.comes.spelled
  unfolding taken-end
  end-answers bursts written old new mid has takes puts = refl

  -- **The receiver was closed.**
  pub ended-closed : (bursts : List CapturedBurst) (written : List ℕ) (old : Joining) (mid timed' : TimedFrames) (file' : FrameFile) (closed : Closed) → HasEnded settings capture_map bursts written old
      → ClosesOfWhole inner_accepts HasGiven old.flows.receiver old.timed closed mid → PutsCame mid old.file timed' file' → AreAllFrames settings capture_map bursts (written ++ file'.bytes.items)
  ended-closed bursts written old mid timed' file' closed has closes puts =
      let rest = closes.received (check settings capture_map) (made settings capture_map) (items_of has.handed) (given_in has.steps) has.stands in
      record {
        handed = has.handed;
        steps = has.steps;
        comes = has.comes;
        rest = rest.0;
        closed = rest.1;
        received = rest.2;
        file =
            filed-file settings capture_map (has.steps ++ map gave rest.0) written timed' file'
            (filed-more settings capture_map has.steps (map gave rest.0) (map gave closes.seen) written old.timed mid timed' old.file file' has.filed
            (closes.was_seen old.timed [] (seen_nothing old.timed)) (rest-as old.flows.receiver.selected has.selected_are rest.0 closes.seen rest.3) puts);
      }

  pub closed-came : (bursts : List CapturedBurst) (written : List ℕ) (old : Joining) (mid timed' : TimedFrames) (file' : FrameFile) (closed : Closed) (has : HasEnded settings capture_map bursts written old)
      (closes : ClosesOfWhole inner_accepts HasGiven old.flows.receiver old.timed closed mid) (puts : PutsCame mid old.file timed' file')
      → (ended-closed bursts written old mid timed' file' closed has closes puts).file.timed ≡ has.filed.came ++ mid.waiting.items
  unfolding ended-closed filed-file
  closed-came bursts written old mid timed' file' closed has closes puts =
      let rest = closes.received (check settings capture_map) (made settings capture_map) (items_of has.handed) (given_in has.steps) has.stands in
      filed-came settings capture_map has.steps (map gave rest.0) (map gave closes.seen) written old.timed mid timed' old.file file' has.filed
      (closes.was_seen old.timed [] (seen_nothing old.timed)) (rest-as old.flows.receiver.selected has.selected_are rest.0 closes.seen rest.3) puts

  pub closed-answers : (bursts : List CapturedBurst) (written : List ℕ) (old : Joining) (mid timed' : TimedFrames) (file' : FrameFile) (closed : Closed) (has : HasEnded settings capture_map bursts written old)
      (closes : ClosesOfWhole inner_accepts HasGiven old.flows.receiver old.timed closed mid) (puts : PutsCame mid old.file timed' file')
      → answers_in (ended-closed bursts written old mid timed' file' closed has closes puts).comes.came.spelled ≡ answers_in has.comes.came.spelled
  unfolding ended-closed
  closed-answers bursts written old mid timed' file' closed has closes puts = refl

  -- ---- records

  pub counted-more : (n : ℕ) (records : List CaptureParts) (one : CaptureParts) → n ≡ counted records → min (n + 1) (2 ^ 64 - 1) ≡ counted (records ++ one ∷ [])
  counted-more n records one is = omega (arith, is, length-append records (one ∷ []))

  -- a record that is passed over
  pub joined-passed : (records : List CaptureParts) (written : List ℕ) (one : CaptureParts) (why : PassedReason) (old new : Joining) → HasJoined settings capture_map records written old
      → IsBurstOf one (Err why) → new.flows ≡ old.flows → new.timed ≡ old.timed → new.file ≡ old.file → new.records ≡ min (old.records + 1) (2 ^ 64 - 1)
      → HasJoined settings capture_map (records ++ one ∷ []) written new
  joined-passed records written one why old new has is flows timed file count = record {
    bursts = has.bursts;
    are = passed_over one why has.are is;
    taken_in = same;
    count = count ∙ counted-more old.records records one has.count;
  } where
    same : HasTaken settings capture_map has.bursts written new
    same = record {
      handed = has.taken_in.handed;
      steps = has.taken_in.steps;
      comes =
          subst (λ (flows : CapturedFlows InnerCheck). ComesOf settings capture_map has.bursts has.taken_in.handed (views_in flows) has.taken_in.steps) (sym flows) has.taken_in.comes;
      stands =
          subst
          (λ (flows : CapturedFlows InnerCheck). StandsForWhole inner_accepts flows.receiver (check settings capture_map) (made settings capture_map) (items_of has.taken_in.handed) (given_in has.taken_in.steps))
          (sym flows) has.taken_in.stands;
      map_is = ap (λ flows. flows.map) flows ∙ has.taken_in.map_is;
      waits_are = ap (λ flows. flows.waits) flows ∙ has.taken_in.waits_are;
      selected_are = ap (λ flows. flows.receiver.selected) flows ∙ has.taken_in.selected_are;
      filed =
          subst (λ (timed : TimedFrames). HasFiled settings capture_map has.taken_in.steps written timed new.file) (sym timed)
          (subst (λ (file : FrameFile). HasFiled settings capture_map has.taken_in.steps written old.timed file) (sym file) has.taken_in.filed);
    }

  -- one that is a burst
  pub joined-burst : (records : List CaptureParts) (written : List ℕ) (one : CaptureParts) (burst : CapturedBurst) (old mid new : Joining) → HasJoined settings capture_map records written old
      → IsBurstOf one (Ok burst) → mid ≡ record old { records = mid.records } → mid.records ≡ min (old.records + 1) (2 ^ 64 - 1) → new.records ≡ mid.records
      → TakesBurst mid burst new → HasJoined settings capture_map (records ++ one ∷ []) written new
  joined-burst records written one burst old mid new has is rest count kept takes = record {
    bursts = has.bursts ++ burst ∷ [];
    are = one_burst one burst has.are is;
    taken_in =
        takes settings capture_map has.bursts written
        (subst (λ (joining : Joining). HasTaken settings capture_map has.bursts written joining) (sym rest) (moved has.taken_in));
    count = kept ∙ count ∙ counted-more old.records records one has.count;
  } where
    moved : HasTaken settings capture_map has.bursts written old → HasTaken settings capture_map has.bursts written (record old { records = mid.records })
    moved one = record {
      handed = one.handed;
      steps = one.steps;
      comes = one.comes;
      stands = one.stands;
      map_is = one.map_is;
      waits_are = one.waits_are;
      selected_are = one.selected_are;
      filed = one.filed;
    }

module _ (settings : CaptureSettings) (capture_map : CaptureMap) where
  -- what is in the file, when nothing more comes
  pub ended-frames : (bursts : List CapturedBurst) (written : List ℕ) (joining : Joining) (text : List ℕ) → HasEnded settings capture_map bursts written joining
      → text ≡ written ++ joining.file.bytes.items → AreFramesAtEnd settings capture_map bursts text
  ended-frames bursts written joining text has is = record {
    handed = has.handed;
    steps = has.steps;
    comes = has.comes;
    file =
        subst (λ (t : List ℕ). IsFileOf settings capture_map has.steps t) (sym is)
        (filed-file settings capture_map has.steps written joining.timed joining.file has.filed);
  }

  -- where it was written
  pub ended-written : (bursts : List CapturedBurst) (written : List ℕ) (old new : Joining) → HasEnded settings capture_map bursts written old
      → new ≡ record old { file = new.file } → new.file.link ≡ old.file.link → new.file.channels ≡ old.file.channels → new.file.bytes.items ≡ []
      → HasEnded settings capture_map bursts (written ++ old.file.bytes.items) new
  ended-written bursts written old new has is link channels none =
      subst (λ (joining : Joining). HasEnded settings capture_map bursts (written ++ old.file.bytes.items) joining) (sym is) (record {
        handed = has.handed;
        steps = has.steps;
        comes = has.comes;
        stands = has.stands;
        selected_are = has.selected_are;
        filed = filed-written settings capture_map has.steps written old.timed old.file new.file has.filed link channels none;
      })
