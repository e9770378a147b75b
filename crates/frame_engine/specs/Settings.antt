-- Which headers of frames pass.
use Rattle.std.specs.Prelude.{ℕ, Bool, true, List}
use Rattle.docsis_wire.specs.Checks.{ends_with_its_sequence}
use Rattle.frame_engine.specs.declared.inner_check.InnerCheck.{InnerCheck}
use Rattle.frame_engine.specs.declared.inner_check.InnerCheck.TheVariants.{Sequence, Nothing}

abbrev pub inner_accepts : InnerCheck → List ℕ → Bool
inner_accepts Sequence header = ends_with_its_sequence header
inner_accepts Nothing header = true
