-- The lane knows whose a burst is.
use Rattle.std.proofs.Common.{◌≡◌, Some, length, slice_get, refl, subst}
use Rattle.std.proofs.lemmas.Option.{slice_get_read}
use Rattle.receiver.specs.HandedIn.{answered_on, lane_of}
use Rattle.receiver.proofs.receiver.Receiver.look.Goals as goal

pub returns-clause-flow : goal.returns-clause-flow
returns-clause-flow g c check made handed given answer stands below is =
    let found = c.in_ok-get.ensures.lookup in
    let here : slice_get c.args.self.now.lanes.items c.args.channel ≡ Some c.in_ok-get.field-0.now =
    subst (λ lanes. slice_get lanes c.args.channel ≡ Some c.in_ok-get.field-0.now) c.deref.ensures.value
    (slice_get_read c.deref.result.now (length c.deref.result.now) c.args.channel c.in_ok-get.field-0.now refl found.3.0 found.1) in
    c.look.ensures.flow made.channels (lane_of made c.args.channel) (answered_on c.args.channel handed) answer stands.lanes.rows_fit
    (stands.lanes.each c.args.channel c.in_ok-get.field-0.now here).stands is
