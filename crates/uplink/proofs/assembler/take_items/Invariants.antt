-- What was made of what was taken so far.
use Rattle.std.proofs.Common.{◌≡◌, IfSome}
use Rattle.mailbox.specs.Mouths.{places, taken}
use Rattle.uplink.specs.Inside.Feeding.{rings_of, HasOffered}
use Rattle.uplink.specs.Inside.Offering.{HasAssembledSoFar, HasAssembledFirst}
use Rattle.uplink.proofs.assembler.take_items.Given as goal

abbrev pub invariant-loop : goal.invariant-loop
invariant-loop g l =
    record {
      places_are : places l.mouth ≡ places l.fn.mouth;
      rings : rings_of l.feeding ≡ rings_of l.fn.feeding;
      so_far : IfSome l.taking (λ made. HasAssembledSoFar g.C.HeaderCheck.accepts l.fn.taking l.fn.feeding (taken l.fn.mouth) (taken l.mouth) made l.feeding);
      first : HasAssembledFirst g.C.HeaderCheck.accepts l.fn.taking (taken l.fn.mouth) (taken l.mouth) (λ given. HasOffered l.fn.feeding given l.feeding);
    }
