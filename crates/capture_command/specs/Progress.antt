-- What is written of how far the reading of a capture is.
use Rattle.std.specs.Prelude.{◌≡◌, ◌≢◌, ◌⊎◌, ℕ, Bool, false, None, Option, List, [], ◌∷◌, ◌++◌, Result, codes, flat_map}
use Rattle.std.specs.Io.KnownBytes.{Appends, Consumes}
use Rattle.text_lines.specs.Putting.{spaced}
use Rattle.text_lines.specs.Lines.{line_feed}
use Rattle.engines.specs.declared.device.Device.{Device}
use Rattle.engines.specs.Device.{inner_of, has_failed}
use Rattle.engines.specs.Transfer.{AppendsFront}
use Rattle.engines.specs.Writing.{IsWritten}
use Rattle.engines.specs.declared.fault.WriteFault.{WriteFault}
use Rattle.capture_map.specs.declared.map.CaptureMap.{CaptureMap}
use Rattle.capture_summary.specs.declared.summary.CaptureSummary.{CaptureSummary}
use Rattle.capture_summary.specs.SummaryText.{summary_text}
use Rattle.frame_engine.specs.declared.settings.CaptureSettings.{CaptureSettings}
use Rattle.frame_engine.specs.Progress.{AreProgressOf}
use Rattle.frame_engine.specs.declared.progress.CaptureProgress.{CaptureProgress}
use Rattle.capture_command.specs.Asked.{AskForSettings, AskForProgress}
use Rattle.capture_command.specs.declared.progress_lines.ProgressLines.{ProgressLines}

-- a line of it
abbrev pub progress_line : CaptureProgress → List ℕ
progress_line progress =
    codes "bytes" ++ spaced progress.bytes ++ codes ", records" ++ spaced progress.records ++ codes ", frames" ++ spaced progress.frames
    ++ codes ", lost" ++ spaced progress.lost ++ line_feed ∷ []

-- a line of each
abbrev pub progress_lines : List CaptureProgress → List ℕ
progress_lines told = flat_map progress_line told

-- what stands behind them: a summary and more, or nothing
abbrev pub BeginsWithSummary : List ℕ → Type 0
BeginsWithSummary text = (text ≡ []) ⊎ ((summary : CaptureSummary) × (more : List ℕ) × (text ≡ summary_text summary ++ more))

module _ {W : Type 0} (contents : W → Option (List ℕ)) where
  -- **A line of each of these was written**, and nothing else; the last may be cut off, where the
  -- writer failed.
  pub record HasWrittenLines (told : List CaptureProgress) (writer writer' : Device W) : Type 0 where
    pub whole : has_failed writer' ≡ false → Appends (contents (inner_of writer)) (contents (inner_of writer')) (progress_lines told)
    pub front : AppendsFront (contents (inner_of writer)) (contents (inner_of writer')) (progress_lines told)

  -- so since this start, to one device; and nothing, where no time is kept of the line before
  pub record HasToldLines {C : Type 0} (start : ProgressLines C W) (told : List CaptureProgress) (end : ProgressLines C W) : Type 0 where
    pub same : end.writer.ghost_name ≡ start.writer.ghost_name
    pub wrote : HasWrittenLines told start.writer.now end.writer.now
    pub quiet : start.last ≡ None → (told ≡ []) × (end.last ≡ None) × (end.writer.now ≡ start.writer.now)

  -- the summary of what was counted was written, and more behind it, or nothing was
  pub data SaysSummary (writer writer' : Device W) : Type 0 where
    nothing_said : writer' ≡ writer → SaysSummary writer writer'
    summary_said : (summary : CaptureSummary) (more : List ℕ) (result : Result (Unit {0}) WriteFault)
        → IsWritten contents (summary_text summary ++ more) writer writer' result → SaysSummary writer writer'

module _ {R W : Type 0} (remaining : R → Option (List ℕ)) (contents : W → Option (List ℕ)) where
  -- **What a capture says on standard error**, where no write failed: how far its reading was, at
  -- fronts of what was read, in order, and nothing of that where it isn't asked for; and then the
  -- summary.
  pub record SaysProgress (settings : CaptureSettings) (asked : Bool) (reader reader' : Device R) (writer writer' : Device W) : Type 0 where
    pub bytes : List ℕ
    pub read : Consumes (remaining (inner_of reader)) (remaining (inner_of reader')) bytes
    pub told : List CaptureProgress
    pub are : told ≢ [] → (capture_map : CaptureMap) × AreProgressOf settings capture_map bytes told
    pub unasked : asked ≡ false → told ≡ []
    pub behind : List ℕ
    pub summary_is_behind : BeginsWithSummary behind
    pub said : has_failed writer' ≡ false → Appends (contents (inner_of writer)) (contents (inner_of writer')) (progress_lines told ++ behind)

  -- **so as the words ask for it**, or nothing is said
  abbrev pub SaysAsked : List (List ℕ) → Device R → Device R → Device W → Device W → Type 0
  SaysAsked words reader reader' writer writer' =
      ((settings : CaptureSettings) × (progress : Bool) × AskForSettings words settings × AskForProgress words progress × SaysProgress settings progress reader reader' writer writer')
      ⊎ (writer' ≡ writer)
