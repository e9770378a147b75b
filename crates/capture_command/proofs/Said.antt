-- What was said of how far the reading of a capture is, and the summary behind that.
use Rattle.std.proofs.Common.{◌≡◌, ◌≢◌, ℕ, ◌⊎◌, inl, inr, Bool, true, false, Option, None, Result, Ok, Err, List, [], ◌∷◌, ◌++◌, refl, sym, ap, subst, ◌∙◌, append-nil}
use Rattle.std.specs.Prelude.{OnOk, OnErr}
use Rattle.std.specs.Io.KnownBytes.{Appends, Consumes}
use Rattle.std.proofs.KnownBytes.{Appends-nil, Appends-trans, Consumes-nil}
use Rattle.std.proofs.lemmas.Grind.{flat_map-append}
use Rattle.engines.specs.declared.device.Device.{Device}
use Rattle.engines.specs.declared.fault.WriteFault.{WriteFault}
use Rattle.engines.specs.Device.{inner_of, has_failed}
use Rattle.engines.specs.Transfer.{AppendsFront}
use Rattle.engines.specs.Writing.{IsWritten}
use Rattle.engines.proofs.WrittenText.{AppendsFront-behind}
use Rattle.capture_map.specs.declared.map.CaptureMap.{CaptureMap}
use Rattle.capture_summary.specs.declared.summary.CaptureSummary.{CaptureSummary}
use Rattle.capture_summary.specs.SummaryText.{summary_text}
use Rattle.frame_engine.specs.declared.settings.CaptureSettings.{CaptureSettings}
use Rattle.frame_engine.specs.declared.progress.CaptureProgress.{CaptureProgress}
use Rattle.frame_engine.specs.Progress.{HasToldProgress}
use Rattle.capture_command.specs.declared.progress_lines.ProgressLines.{ProgressLines}
use Rattle.capture_command.specs.Progress.{progress_line, progress_lines, HasWrittenLines, HasToldLines, SaysSummary, nothing_said, summary_said, SaysProgress}

lines_more : (told : List CaptureProgress) (one : CaptureProgress) → progress_lines (told ++ one ∷ []) ≡ progress_lines told ++ progress_line one
lines_more told one = flat_map-append progress_line told (one ∷ []) ∙ ap (λ (more : List ℕ). progress_lines told ++ more) (append-nil (progress_line one))

module _ {W : Type 0} (contents : W → Option (List ℕ)) where
  -- one more line was written behind those before, or a front of it
  line_more : (told : List CaptureProgress) (one : CaptureProgress) (writer writer' writer'' : Device W) (result : Result (Unit {0}) WriteFault)
      → has_failed writer' ≡ false → OnOk result (Appends (contents (inner_of writer')) (contents (inner_of writer'')) (progress_line one))
      → OnErr result (AppendsFront (contents (inner_of writer')) (contents (inner_of writer'')) (progress_line one)) → OnErr result (has_failed writer'' ≡ true)
      → HasWrittenLines contents told writer writer' → HasWrittenLines contents (told ++ one ∷ []) writer writer''
  line_more told one writer writer' writer'' (Ok done) sound all front failed was =
      let both = Appends-trans (contents (inner_of writer)) (contents (inner_of writer')) (contents (inner_of writer'')) (progress_lines told) (progress_line one) (was.whole sound) all in
      let lines = subst (λ (text : List ℕ). Appends (contents (inner_of writer)) (contents (inner_of writer'')) text) (sym (lines_more told one)) both in
      record {
        whole = λ still. lines;
        front = ([], (progress_lines (told ++ one ∷ []), sym (append-nil (progress_lines (told ++ one ∷ []))), lines));
      }
  line_more told one writer writer' writer'' (Err fault) sound all front failed was = record {
    whole = λ still. let never : true ≡ false = sym failed ∙ still in absurd cc;
    front =
        subst (λ (text : List ℕ). AppendsFront (contents (inner_of writer)) (contents (inner_of writer'')) text) (sym (lines_more told one))
        (AppendsFront-behind (contents (inner_of writer)) (contents (inner_of writer')) (contents (inner_of writer'')) (progress_lines told) (progress_line one) (was.whole sound) front);
  }

  module _ {C : Type 0} (start : ProgressLines C W) where
    pub told-none : HasToldLines contents start [] start
    told-none = record {
      same = refl;
      wrote = record {
        whole = λ still. Appends-nil (contents (inner_of start.writer.now));
        front = ([], ([], refl, Appends-nil (contents (inner_of start.writer.now))));
      };
      quiet = λ none. (refl, none, refl);
    }

    -- nothing was written
    pub told-kept : (told : List CaptureProgress) (old new : ProgressLines C W) → new.writer ≡ old.writer → (old.last ≡ None → new.last ≡ None)
        → HasToldLines contents start told old → HasToldLines contents start told new
    told-kept told old new same quiet was = record {
      same = ap (λ one. one.ghost_name) same ∙ was.same;
      wrote = subst (λ one. HasWrittenLines contents told start.writer.now one.now) (sym same) was.wrote;
      quiet = λ none. let before = was.quiet none in (before.0, quiet before.1, ap (λ one. one.now) same ∙ before.2);
    }

    -- a line was written
    pub told-line : (told : List CaptureProgress) (one : CaptureProgress) (old new : ProgressLines C W) (result : Result (Unit {0}) WriteFault)
        → new.writer.ghost_name ≡ old.writer.ghost_name → (old.last ≡ None → ⊥) → has_failed old.writer.now ≡ false
        → OnOk result (Appends (contents (inner_of old.writer.now)) (contents (inner_of new.writer.now)) (progress_line one))
        → OnErr result (AppendsFront (contents (inner_of old.writer.now)) (contents (inner_of new.writer.now)) (progress_line one))
        → OnErr result (has_failed new.writer.now ≡ true) → HasToldLines contents start told old → HasToldLines contents start (told ++ one ∷ []) new
    told-line told one old new result same timed sound all front failed was = record {
      same = same ∙ was.same;
      wrote = line_more told one start.writer.now old.writer.now new.writer.now result sound all front failed was.wrote;
      quiet = λ none. absurd (timed (was.quiet none).1);
    }

module _ {R W : Type 0} (remaining : R → Option (List ℕ)) (contents : W → Option (List ℕ)) (settings : CaptureSettings) (asked : Bool) (reader reader' : Device R) where
  -- nothing was read or said
  pub says-nothing : (writer : Device W) → SaysProgress remaining contents settings asked reader reader writer writer
  says-nothing writer = record {
    bytes = [];
    read = Consumes-nil (remaining (inner_of reader));
    told = [];
    are = λ some. absurd (some refl);
    unasked = λ is. refl;
    behind = [];
    summary_is_behind = inl refl;
    said = λ sound. Appends-nil (contents (inner_of writer));
  }

  -- what was told was said, and the summary behind it
  pub says-told : {C : Type 0} (capture_map : CaptureMap) (start end : ProgressLines C W) (between writer' : Device W) → (asked ≡ false → start.last ≡ None)
      → HasToldProgress settings capture_map remaining (HasToldLines contents) reader reader' start end → SaysSummary contents between writer' → between ≡ end.writer.now
      → SaysProgress remaining contents settings asked reader reader' start.writer.now writer'
  says-told {C} capture_map start end between writer' unasked told summary is =
      by_case (subst (λ (device : Device W). SaysSummary contents device writer') is summary) where
        before : HasToldLines contents start told.told end
        before = told.came

        all_said : (behind : List ℕ) → (has_failed writer' ≡ false → (has_failed end.writer.now ≡ false) × Appends (contents (inner_of end.writer.now)) (contents (inner_of writer')) behind)
            → has_failed writer' ≡ false → Appends (contents (inner_of start.writer.now)) (contents (inner_of writer')) (progress_lines told.told ++ behind)
        all_said behind went sound =
            let is = went sound in
            Appends-trans (contents (inner_of start.writer.now)) (contents (inner_of end.writer.now)) (contents (inner_of writer')) (progress_lines told.told) behind (before.wrote.whole is.0) is.1

        with_behind : (behind : List ℕ) → (behind ≡ []) ⊎ ((summary : CaptureSummary) × (more : List ℕ) × (behind ≡ summary_text summary ++ more))
            → (has_failed writer' ≡ false → (has_failed end.writer.now ≡ false) × Appends (contents (inner_of end.writer.now)) (contents (inner_of writer')) behind)
            → SaysProgress remaining contents settings asked reader reader' start.writer.now writer'
        with_behind behind is went = record {
          bytes = told.bytes;
          read = told.read;
          told = told.told;
          are = λ some. (capture_map, told.are);
          unasked = λ none. (before.quiet (unasked none)).0;
          behind = behind;
          summary_is_behind = is;
          said = all_said behind went;
        }

        by_result : (summary : CaptureSummary) (more : List ℕ) (result : Result (Unit {0}) WriteFault)
            → IsWritten contents (summary_text summary ++ more) end.writer.now writer' result → SaysProgress remaining contents settings asked reader reader' start.writer.now writer'
        by_result summary more (Ok done) is = with_behind (summary_text summary ++ more) (inr (summary, more, refl)) (λ sound. (sym is.sound ∙ sound, is.written))
        by_result summary more (Err fault) is = with_behind (summary_text summary ++ more) (inr (summary, more, refl)) (λ sound. let never : true ≡ false = sym is.failed ∙ sound in absurd cc)

        by_case : SaysSummary contents end.writer.now writer' → SaysProgress remaining contents settings asked reader reader' start.writer.now writer'
        by_case (nothing_said same) =
            with_behind [] (inl refl)
            (λ sound. (
              ap has_failed (sym same) ∙ sound,
              subst (λ (device : Device W). Appends (contents (inner_of end.writer.now)) (contents (inner_of device)) []) (sym same) (Appends-nil (contents (inner_of end.writer.now))),
            ))
        by_case (summary_said summary more result written) = by_result summary more result written
