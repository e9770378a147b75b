-- What came is in the file.
use Rattle.std.proofs.Common.{◌≡◌, ℕ, Option, List, [], ◌++◌, IsTrue, sym, ap, subst, ◌∙◌, append-nil, append_assoc}
use Rattle.std.proofs.lemmas.Grind.{flat_map-append}
use Rattle.std.proofs.lemmas.List.Elements.{filter-append}
use Rattle.capture.specs.Pcap.{header_bytes}
use Rattle.capture_map.specs.declared.map.CaptureMap.{CaptureMap}
use Rattle.capture_map.specs.declared.map.MapChannel.{MapChannel}
use Rattle.captured_flows.specs.Shown.{is_seen}
use Rattle.captured_flows.specs.Steps.{CaptureStep}
use Rattle.frame_records.specs.Frames.{file_header}
use Rattle.frame_records.specs.declared.link.FrameLink.{FrameLink}
use Rattle.timed_frames.specs.declared.timed_step.LastBurst.{LastBurst}
use Rattle.timed_frames.specs.declared.timed_step.TimedStep.{TimedStep}
use Rattle.timed_frames.specs.declared.timed_frames.TimedFrames.{TimedFrames}
use Rattle.timed_frames.specs.Timed.{Timed}
use Rattle.timed_frames.specs.Seen.{HasSeen}
use Rattle.timed_frames.specs.Timing.{timed_then}
use Rattle.frame_engine.specs.declared.settings.CaptureSettings.{CaptureSettings}
use Rattle.frame_engine.specs.declared.frame_file.FrameFile.{FrameFile}
use Rattle.frame_engine.specs.Written.{written_of, written_in}
use Rattle.frame_engine.specs.Joined.{none_handed_in, whole_file, steps_seen, IsFileOf}
use Rattle.frame_engine.specs.Inside.Joins.{PutsCame, HasFiled}

module _ (settings : CaptureSettings) (capture_map : CaptureMap) where
  abbrev written_for : List TimedStep → List ℕ
  written_for timed = written_in settings.link capture_map.channels.items timed

  -- the file of what came, and of more
  pub file-more : (came more : List TimedStep) → whole_file settings capture_map (came ++ more) ≡ whole_file settings capture_map came ++ written_for more
  file-more came more =
      ap (λ (text : List ℕ). header_bytes (file_header settings.link) ++ text) (flat_map-append (written_of settings.link capture_map.channels.items) came more)
      ∙ sym (append_assoc (header_bytes (file_header settings.link)) (written_for came) (written_for more))

  -- what waited of a file's link and channels
  pub written-as : (link : FrameLink) (channels : List MapChannel) (waiting came : List TimedStep) → link ≡ settings.link
      → channels ≡ capture_map.channels.items → waiting ≡ came → written_in link channels waiting ≡ written_for came
  written-as link channels waiting came l c w =
      ap (λ (link : FrameLink). written_in link channels waiting) l
      ∙ ap (λ (channels : List MapChannel). written_in settings.link channels waiting) c
      ∙ ap (λ (waiting : List TimedStep). written_in settings.link capture_map.channels.items waiting) w

  -- **More steps were seen, and what came of them was put.**
  unfoldable pub filed-more : (steps more seen : List CaptureStep) (written : List ℕ) (timed mid timed' : TimedFrames) (file file' : FrameFile)
      → HasFiled settings capture_map steps written timed file → HasSeen timed seen mid → seen ≡ steps_seen settings capture_map more → PutsCame mid file timed' file'
      → HasFiled settings capture_map (steps ++ more) written timed' file'
  filed-more steps more seen written timed mid timed' file file' filed saw is puts =
      let shown = saw puts.was_whole in
      let later = shown.1.came in
      let waited : mid.waiting.items ≡ later = shown.1.waiting ∙ ap (λ (w : List TimedStep). w ++ later) filed.none_waits in
      let all : steps_seen settings capture_map (steps ++ more) ≡ steps_seen settings capture_map steps ++ seen =
      filter-append (is_seen settings.selected) steps more ∙ ap (λ (s : List CaptureStep). steps_seen settings capture_map steps ++ s) (sym is) in
      record {
        came = filed.came ++ later;
        is_timed =
            subst (λ (s : List CaptureStep). Timed (none_handed_in settings capture_map) s (filed.came ++ later) timed'.lasts.items) (sym all)
            (subst (λ (lasts : List (Option LastBurst)). Timed (none_handed_in settings capture_map) (steps_seen settings capture_map steps ++ seen) (filed.came ++ later) lasts)
            (sym (ap (λ lasts. lasts.items) puts.lasts))
            (timed_then (none_handed_in settings capture_map) timed.lasts.items (steps_seen settings capture_map steps) filed.came filed.is_timed shown.1.timed));
        whole = subst IsTrue (sym puts.whole) puts.was_whole;
        none_waits = puts.none_waits;
        link = puts.link ∙ filed.link;
        channels = ap (λ channels. channels.items) puts.channels ∙ filed.channels;
        text =
            file-more filed.came later ∙ ap (λ (text : List ℕ). text ++ written_for later) filed.text ∙ append_assoc written file.bytes.items (written_for later)
            ∙ ap (λ (bytes : List ℕ). written ++ (file.bytes.items ++ bytes)) (sym (written-as file.link file.channels.items mid.waiting.items later filed.link filed.channels waited))
            ∙ ap (λ (bytes : List ℕ). written ++ bytes) (sym puts.bytes);
      }

  -- what came then is what came before and what waited
  pub filed-came : (steps more seen : List CaptureStep) (written : List ℕ) (timed mid timed' : TimedFrames) (file file' : FrameFile)
      (filed : HasFiled settings capture_map steps written timed file) (saw : HasSeen timed seen mid) (is : seen ≡ steps_seen settings capture_map more) (puts : PutsCame mid file timed' file')
      → (filed-more steps more seen written timed mid timed' file file' filed saw is puts).came ≡ filed.came ++ mid.waiting.items
  unfolding filed-more
  filed-came steps more seen written timed mid timed' file file' filed saw is puts =
      let shown = saw puts.was_whole in
      ap (λ (later : List TimedStep). filed.came ++ later) (sym (shown.1.waiting ∙ ap (λ (w : List TimedStep). w ++ shown.1.came) filed.none_waits))

  -- what is in the file is that of the steps
  unfoldable pub filed-file : (steps : List CaptureStep) (written : List ℕ) (timed : TimedFrames) (file : FrameFile) → HasFiled settings capture_map steps written timed file
      → IsFileOf settings capture_map steps (written ++ file.bytes.items)
  filed-file steps written timed file filed =
      record { timed = filed.came; lasts = timed.lasts.items; is_timed = filed.is_timed; text_is = sym filed.text }

  -- it was written
  unfoldable pub filed-written : (steps : List CaptureStep) (written : List ℕ) (timed : TimedFrames) (file file' : FrameFile) → HasFiled settings capture_map steps written timed file
      → file'.link ≡ file.link → file'.channels ≡ file.channels → file'.bytes.items ≡ []
      → HasFiled settings capture_map steps (written ++ file.bytes.items) timed file'
  filed-written steps written timed file file' filed link channels none = record {
    came = filed.came;
    is_timed = filed.is_timed;
    whole = filed.whole;
    none_waits = filed.none_waits;
    link = link ∙ filed.link;
    channels = ap (λ channels. channels.items) channels ∙ filed.channels;
    text =
        filed.text ∙ sym (append-nil (written ++ file.bytes.items))
        ∙ ap (λ (bytes : List ℕ). (written ++ file.bytes.items) ++ bytes) (sym none);
  }
