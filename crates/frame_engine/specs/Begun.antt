-- A capture of which nothing was read.
use Rattle.std.specs.Prelude.{[], length}
use Rattle.capture_map.specs.declared.map.CaptureMap.{CaptureMap}
use Rattle.captured_flows.specs.Capturing.{IsCapturing}
use Rattle.frame_engine.specs.declared.settings.CaptureSettings.{CaptureSettings}
use Rattle.frame_engine.specs.declared.frame_reading.FrameReading.{FrameReading}
use Rattle.frame_engine.specs.Settings.{inner_accepts}
use Rattle.frame_comparison.specs.Compared.{nothing_came}
use Rattle.frame_engine.specs.declared.comparing.Comparing.{Comparing}
use Rattle.frame_engine.specs.Comparing.{IsComparing}
use Rattle.frame_engine.specs.Explaining.{NothingTold}
use Rattle.frame_engine.specs.Inside.Joins.{HasReadBytes}
use Rattle.frame_engine.specs.Inside.Beside.{HasReadBeside}

-- nothing was read or written yet, with these settings and this map
abbrev pub IsBegun : CaptureSettings → CaptureMap → FrameReading → Type 0
IsBegun settings capture_map reading = HasReadBytes settings capture_map [] [] reading

-- nothing has failed, so more can be read
abbrev pub CanJoin : FrameReading → Type 0
CanJoin reading = IsCapturing inner_accepts reading.joining.flows

-- nothing came yet that could be compared, and nothing was told of bursts
abbrev pub ComparesNothing : CaptureMap → Comparing → Type 0
ComparesNothing capture_map comparing =
    IsComparing (nothing_came (length capture_map.flows.items)) comparing × NothingTold comparing.reasons

-- so with frames that are compared
abbrev pub IsBegunBeside : CaptureSettings → CaptureMap → FrameReading → Type 0
IsBegunBeside settings capture_map reading = (comparing : Comparing) → ComparesNothing capture_map comparing → HasReadBeside settings capture_map [] [] reading comparing
