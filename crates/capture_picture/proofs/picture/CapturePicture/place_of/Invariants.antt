use Rattle.std.proofs.Common.{◌≡◌, ◌+◌, ◌==◌, drop}
use Rattle.std.specs.List.{position_or_len}
use Rattle.capture_picture.specs.ShownFlow.{ShownFlow}
use Rattle.capture_picture.proofs.picture.CapturePicture.place_of.Given as goal

-- no flow so far is the one that is looked for
abbrev pub invariant-loop-place : goal.invariant-loop-place
invariant-loop-place l =
    position_or_len (λ (one : ShownFlow). one.flow == l.flow) l.self.flows.items ≡ l.place + position_or_len (λ (one : ShownFlow). one.flow == l.flow) (drop l.place l.self.flows.items)
