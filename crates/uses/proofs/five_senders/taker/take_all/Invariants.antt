use Rattle.std.proofs.Common.{◌≡◌}
use Rattle.std.specs.Prelude.{IfSome}
use Rattle.mailbox.specs.Mouths.{places, taken}
use Rattle.uses.specs.FiveSenders.{Collects}
use Rattle.uses.proofs.five_senders.taker.take_all.Given as goal

abbrev pub invariant-loop : goal.invariant-loop
invariant-loop g l = (places l.mouth ≡ places l.fn.mouth) × IfSome l.gathered (Collects (taken l.fn.mouth) (taken l.mouth))
