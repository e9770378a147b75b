-- A file whose frames are those that the analyser joined.
use Rattle.std.specs.Prelude.{◌≡◌, ◌<◌, ℕ, true, IsTrue, IfSome, List, length}
use Rattle.capture_map.specs.declared.map.CaptureMap.{CaptureMap}
use Rattle.flow_selection.specs.Selection.{is_selected}
use Rattle.frame_comparison.specs.Seen.{have_none_alone}
use Rattle.frame_engine.specs.declared.settings.CaptureSettings.{CaptureSettings}
use Rattle.frame_engine.specs.declared.comparing.Comparing.{Comparing}
use Rattle.frame_engine.specs.Joined.{IsJoinedFile}
use Rattle.frame_engine.specs.Compared.{AreTheAnalysers, frames_in}

-- no allocation failed, and no frame is only one side's
abbrev pub EndsEqual : Comparing → Type 0
EndsEqual comparing = IfSome comparing.comparison (λ one. IsTrue one.is_whole × (have_none_alone one.counts ≡ true))

-- **The text is the file of the frames of the capture that these bytes are, and of each selected
-- flow these are the frames that the analyser joined**, in the order of the records that hold them
pub record HasTheAnalysersFrames (settings : CaptureSettings) (capture_map : CaptureMap) (input text : List ℕ) : Type 0 where
  pub joined : IsJoinedFile settings capture_map input text
  pub same : (k : ℕ) → k < length capture_map.flows.items → is_selected settings.selected k ≡ true
      → AreTheAnalysers capture_map k joined.records (frames_in k joined.joined.frames.file.timed)
