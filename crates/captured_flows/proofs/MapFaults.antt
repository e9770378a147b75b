-- A fault of what a map makes.
use Rattle.std.proofs.Common.{◌≡◌, map}
use Rattle.receiver.specs.declared.setup.Setup.{Setup}
use Rattle.receiver.specs.declared.setup.SetupError.{SetupError}
use Rattle.receiver.specs.declared.setup.SetupError.TheVariants as setup_error
use Rattle.receiver.specs.Widths.{IsSetupErrorWithin}
use Rattle.capture_map.specs.declared.map.CaptureMap.{CaptureMap}
use Rattle.captured_flows.specs.Captures.{record_of, row_of, IsFaultOf}

pub fault-of : (capture_map : CaptureMap) (setup : Setup) (error : SetupError) → setup.flows.items ≡ map record_of capture_map.flows.items
    → setup.sids.items ≡ map row_of capture_map.sids.items → IsSetupErrorWithin 16 16384 setup error → IsFaultOf capture_map error
fault-of capture_map setup setup_error.OutOfMemory flows sids is = tt
fault-of capture_map setup (setup_error.Flows fault) flows sids is = (setup, flows, sids, is)
fault-of capture_map setup (setup_error.Rows fault) flows sids is = (setup, flows, sids, is)
