use Rattle.std.proofs.Common.{◌≡◌, take}
use Rattle.frame_reasons.specs.Told.{told_in_steps, TellsAll}
use Rattle.frame_reasons.proofs.reasons.Reasons.tell_steps.Given as goal

abbrev pub invariant-loop-step : goal.invariant-loop-step
invariant-loop-step l = record {
  tells : TellsAll (told_in_steps (take l.step-index l.steps)) l.fn.self.fates l.self.fates;
  listed : l.self.listed ≡ l.fn.self.listed;
}
