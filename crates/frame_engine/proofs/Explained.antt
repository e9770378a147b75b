-- What is compared stays the same where only reasons change.
use Rattle.std.proofs.Common.{◌≡◌, Option, List, sym, subst}
use Rattle.flow_selection.specs.declared.selection.Selection.{Selection}
use Rattle.capture.specs.PcapngBlocks.{CaptureParts}
use Rattle.capture_map.specs.declared.map.CaptureMap.{CaptureMap}
use Rattle.frame_comparison.specs.Aligned.{Arrival, with_all}
use Rattle.frame_comparison.specs.Compared.{Comparison, finished}
use Rattle.frame_comparison.specs.Seen.{ComparisonSeen}
use Rattle.frame_engine.specs.declared.comparing.Comparing.{Comparing}
use Rattle.frame_engine.specs.Comparing.{IsKeptIn, Takes, TakesBrought, Finishes}
use Rattle.frame_engine.specs.Explaining.{Explains}
use Rattle.frame_reasons.specs.declared.reasons.Reasons.{Reasons}

-- where only reasons changed before and behind, the same came to be compared
kept-as : (before : Comparison) (one other : Option ComparisonSeen) → one ≡ other → IsKeptIn before other → IsKeptIn before one
kept-as before one other is kept = subst (λ (seen : Option ComparisonSeen). IsKeptIn before seen) (sym is) kept

pub takes-kept : (more : List Arrival) (old mid later new : Comparing) → mid.comparison ≡ old.comparison → Takes more mid later → new.comparison ≡ later.comparison → Takes more old new
takes-kept more old mid later new first takes last =
    λ before is.
    kept-as (with_all more before) new.comparison later.comparison last (takes before (kept-as before mid.comparison old.comparison first is))

pub brought-kept : (selected : Selection) (capture_map : CaptureMap) (one : CaptureParts) (old later new : Comparing) → TakesBrought selected capture_map one old later
    → new.comparison ≡ later.comparison → TakesBrought selected capture_map one old new
brought-kept selected capture_map one old later new takes last =
    λ before is.
    let brought = takes before is in
    (brought.0, brought.1, kept-as (with_all brought.0 before) new.comparison later.comparison last brought.2)

pub finished-kept : (old later new : Comparing) → Finishes old later → new.comparison ≡ later.comparison → Finishes old new
finished-kept old later new finishes last = λ before is. kept-as (finished before) new.comparison later.comparison last (finishes before is)

-- nor do reasons by what they are listed of
pub explains-kept : (one other : Option ComparisonSeen) (old mid new : Option Reasons) → other ≡ one → mid ≡ old → Explains one mid new → Explains other old new
explains-kept one other old mid new is same explains =
    subst (λ (seen : Option ComparisonSeen). Explains seen old new) (sym is) (subst (λ (reasons : Option Reasons). Explains one reasons new) same explains)
