-- What was counted is what was concluded.
use Rattle.std.proofs.Common.{refl, ap}
use Rattle.receiver.specs.declared.tally.LaneTally.{LaneTally}
use Rattle.uplink.specs.declared.finish.FourNotes.{FourNotes}
use Rattle.uplink.specs.Inside.Running.{strays_of}
use Rattle.uplink.proofs.receiving.received_of.Goals as goal

pub returns-clause-received : goal.returns-clause-received
returns-clause-received g c =
    let counted = c.in-Some.ensures in
    let is = counted.2 in (
      counted.0,
      counted.1,
      record {
        consumer_is = refl;
        scheduler_is = refl;
        flows_are = is.flows_are;
        lane_count = is.lane_count;
        lanes_are = is.lanes_are;
        strays_are = ap (λ (notes : FourNotes LaneTally). strays_of notes) is.notes_are;
      },
    )
